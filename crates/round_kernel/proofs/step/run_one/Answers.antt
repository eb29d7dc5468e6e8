use Rattle.std.proofs.Common.{◌≡◌, ◌∙◌, ◌+◌, ◌-◌, ℕ, List, refl, subst, sym, arith}
use Rattle.std.specs.List.{range_with_len}
use Rattle.std.proofs.lemmas.List.FromFn.{length-range_with_len}
use Rattle.std.proofs.lemmas.List.Sums.{count_by-le-length}
use Rattle.graph_model.specs.declared.number.NodeNo.{NodeNo}
use Rattle.change_lists.specs.declared.history.Change.{Change}
use Rattle.change_lists.specs.ChangeLists.{HasNodes}
use Rattle.lone_work.specs.CountLaws.{work-by-rounds}
use Rattle.round_kernel.specs.Changes.{made_changes, made_marks}
use Rattle.round_kernel.specs.Frames.{AreStirred, count_in, counted_at, marked_at, new_arcs, old_arcs}
use Rattle.round_kernel.proofs.Logging.{log-more, changed-before}
use Rattle.round_kernel.proofs.KeptRounds.{kept-next, kept-on}
use Rattle.round_kernel.proofs.step.run_one.Goals as goal

pub go_on-requires-clause-before : goal.go_on-requires-clause-before
go_on-requires-clause-before g c = λ later. changed-before g.U.Updater.answer c.args.frame c.args.round c.args.log.now c.requires.log later c.before-before.result.now c.before-before.ensures.kept c.before-before.ensures.passed

pub returns-clause-log : goal.returns-clause-log
returns-clause-log g c =
    let answer = g.U.Updater.answer in
    let f = c.args.frame in
    let r = c.args.round in
    let made = c.in_node_order.new.made in
    let grown = c.in_ok-add_round.ensures in
    log-more answer f r c.args.log.now c.add_round.new.self (made_changes made) (made_marks made) c.requires.log c.add_round.ensures.keeps
    grown.changes grown.first grown.later grown.passed c.add_round.ensures.still c.add_round.ensures.moved c.in_ok-in_node_order.ensures.changes
    (λ later. subst (λ (ns : List NodeNo). HasNodes (count_in f) (marked_at answer f r) ns) (sym c.in_node_order.ensures.marks) (c.in_ok-work.ensures.behind.made.marks later))

pub returns-clause-state : goal.returns-clause-state
returns-clause-state g c =
    let answer = g.U.Updater.answer in
    let f = c.args.frame in
    let r = c.args.round in
    let behind = c.in_ok-work.ensures.behind in
    let kept = c.run_round.new.state.kept.items in
    let back : r ≡ r + 1 - 1 = omega arith in
    record {
      at = c.go_on.ensures.at;
      idle = c.go_on.ensures.idle;
      kept_size = behind.kept_size;
      kept = λ later. kept-next answer f r kept kept refl (kept-on answer f r kept behind.kept);
      lookups = c.go_on-2.ensures.lookups;
      stirred = λ later few. subst (λ (k : ℕ). AreStirred answer f k c.add_round.new.made.stirred) back
          (subst (λ (cs : List Change). AreStirred answer f r cs) (sym (c.add_round.ensures.stirred ∙ c.in_node_order.ensures.stirred)) (behind.made.stirred (sym (c.add_round.ensures.few ∙ c.in_node_order.ensures.few) ∙ few)));
    }

pub returns-clause-work : goal.returns-clause-work
returns-clause-work g c =
    let f = c.args.frame in
    omega (arith, work-by-rounds g.U.Updater.answer f.program.now f.graph.now (new_arcs f) (old_arcs f) c.args.round, c.in_ok-work.ensures.work)

pub returns-clause-few : goal.returns-clause-few
returns-clause-few g c =
    let f = c.args.frame in
    omega (arith, c.in_ok-work.ensures.work, count_by-le-length (counted_at g.U.Updater.answer f c.args.round) (range_with_len 0 (count_in f)), length-range_with_len 0 (count_in f), c.requires.frame.few)
