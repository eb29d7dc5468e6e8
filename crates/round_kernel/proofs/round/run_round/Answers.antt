use Rattle.std.proofs.Common.{Vec, Global, ◌≡◌, ◌∙◌, ◌<◌, ◌-◌, Bool, List, length, get_or, true, sym, ap, subst, arith}
use Rattle.std.specs.Prelude.{All, ◌&&◌, ◌||◌}
use Rattle.std.proofs.lemmas.List.{with_items_is}
use Rattle.std.proofs.lemmas.List.Elements.{All-nil}
use Rattle.graph_model.specs.declared.number.NodeNo.{NodeNo}
use Rattle.change_lists.specs.declared.history.Change.{Change}
use Rattle.value_codes.specs.declared.tally.Kept.{Kept}
use Rattle.value_codes.specs.Tallies.{kept_of, no_tally}
use Rattle.waiting_nodes.specs.declared.queue.Queue.{Queue}
use Rattle.waiting_nodes.specs.Queues.{waits}
use Rattle.change_lists.specs.ChangeLists.{HasNodes, is_listed}
use Rattle.round_kernel.specs.Frames.{AreDivided, AreStirred, HasSome, count_in, marked_at, touched_at}
use Rattle.round_kernel.proofs.round.run_round.Goals as goal

pub fill_queue-requires-clause-stirred : goal.fill_queue-requires-clause-stirred
fill_queue-requires-clause-stirred g c = λ later few.
    subst (λ (cs : List Change). AreStirred g.U.Updater.answer c.args.frame (c.args.round - 1) cs) (sym c.clear.ensures.stirred) (c.requires.before.stirred later (subst (λ (b : Bool). b ≡ true) c.clear.ensures.few few))

pub keep_marks-requires-clause-divided : goal.keep_marks-requires-clause-divided
keep_marks-requires-clause-divided g c =
    subst (λ (ns : List NodeNo). AreDivided g.U.Updater.answer c.args.frame c.args.round c.visit_all.new.lists.marked.items ns) (sym c.in_ok-work.ensures.shown)
    (subst (λ (m : Vec Bool Global). AreDivided g.U.Updater.answer c.args.frame c.args.round m.items c.fill_queue.new.lists.shown) (sym c.in_ok-work.ensures.marked) c.in_ok-fill_queue.ensures.divided)

pub keep_marks-requires-clause-found : goal.keep_marks-requires-clause-found
keep_marks-requires-clause-found g c =
    subst (λ (ns : List NodeNo). HasNodes (count_in c.args.frame) (λ v. is_listed v ns || (touched_at g.U.Updater.answer c.args.frame c.args.round v && marked_at g.U.Updater.answer c.args.frame c.args.round v)) c.visit_all.new.made.marks) c.clear.ensures.marks c.in_ok-work.ensures.marks

pub keep_changes-requires-clause-found : goal.keep_changes-requires-clause-found
keep_changes-requires-clause-found g c =
    subst (λ (cs : List Change). HasSome g.U.Updater.answer c.args.frame c.args.round (touched_at g.U.Updater.answer c.args.frame c.args.round) cs) (sym c.in_ok-keep_marks.ensures.changes) c.in_ok-work.ensures.changes

pub visit_all-requires-clause-marks : goal.visit_all-requires-clause-marks
visit_all-requires-clause-marks g c = subst (λ (ns : List NodeNo). All (λ n. n.0 < count_in c.args.frame) ns) (sym c.clear.ensures.marks) (All-nil (λ (n : NodeNo). n.0 < count_in c.args.frame))

pub visit_all-requires-clause-stage : goal.visit_all-requires-clause-stage
visit_all-requires-clause-stage g c = record { frame = c.requires.frame; round = c.requires.round; lookups = c.in_ok-expect.ensures.lookups }

pub visit_all-requires-clause-kept_size : goal.visit_all-requires-clause-kept_size
visit_all-requires-clause-kept_size g c = ap (λ (ks : List Kept). length ks) c.deref_mut.ensures.value ∙ c.requires.before.kept_size

pub visit_all-requires-clause-kept : goal.visit_all-requires-clause-kept
visit_all-requires-clause-kept g c = λ later v low was. ap (λ (ks : List Kept). get_or ks v (kept_of no_tally)) c.deref_mut.ensures.value ∙ c.requires.before.kept later v low was

pub returns-clause-behind : goal.returns-clause-behind
returns-clause-behind g c =
    let answer = g.U.Updater.answer in
    let f = c.args.frame in
    let r = c.args.round in
    let kept = c.args.state.now.kept in
    let size : length c.visit_all.new.kept ≡ kept.len = omega (arith, c.visit_all.auto.kept, ap (λ (ks : List Kept). length ks) c.deref_mut.ensures.value, kept.ok) in
    let same = with_items_is kept c.visit_all.new.kept size in
    record {
      at = c.in_ok-keep_marks.ensures.at;
      idle = record {
        none_waits = λ v. ap (λ (q : Queue). waits q v) c.in_ok-keep_marks.ensures.queue ∙ c.in_ok-work.ensures.idle v;
        none_marked = c.in_ok-keep_marks.ensures.none;
        none_shown = c.in_ok-keep_marks.ensures.none_shown;
      };
      kept_size = ap (λ (ks : List Kept). length ks) same ∙ c.visit_all.ensures.kept_size;
      kept = λ v low was. ap (λ (ks : List Kept). get_or ks v (kept_of no_tally)) same ∙ c.in_ok-work.ensures.kept v low was;
      lookups = c.in_ok-expect.ensures.lookups;
      made = record {
        marks = λ later. subst (λ (ns : List NodeNo). HasNodes (count_in f) (marked_at answer f r) ns) (sym c.in_ok-keep_changes.ensures.marks) (c.in_ok-keep_marks.ensures.marks later);
        changes = c.in_ok-keep_changes.ensures.changes;
        stirred = c.in_ok-keep_changes.ensures.stirred;
      };
    }
