use Rattle.std.proofs.Common.{◌≡◌, ◌∙◌, ◌+◌, ◌<◌, ◌^◌, ℕ, false, List, length, get_or, sym, ap, subst, refl, arith}
use Rattle.std.specs.Vec.{with_items}
use Rattle.std.proofs.lemmas.List.{with_items_is}
use Rattle.graph_model.specs.declared.value.Val.{Val}
use Rattle.vertex_lang.specs.RoundLaws.{length-lone}
use Rattle.change_lists.specs.declared.history.Change.{Change}
use Rattle.change_lists.specs.ChangeLists.{HasChanges}
use Rattle.round_kernel.specs.declared.frame.Lists.{Lists}
use Rattle.round_messages.specs.Sides.{AreSent}
use Rattle.message_forms.specs.Forms.{MayKeep}
use Rattle.arc_rows.specs.Views.{arcs_in}
use Rattle.waiting_nodes.specs.Queues.{waits}
use Rattle.round_kernel.specs.Frames.{StandAt, count_in, was_touched_at, lone_at, old_lone_at, new_arcs}
use Rattle.round_kernel.proofs.Marking.{changes-now, old-step, moved}
use Rattle.round_kernel.proofs.Rounding.{at-next, kept-both}
use Rattle.round_messages.specs.SendingLaws.{sent-at}
use Rattle.round_kernel.proofs.round.go_on.Goals as goal

pub catch_up_new-requires-clause-now : goal.catch_up_new-requires-clause-now
catch_up_new-requires-clause-now g c = ap (λ (l : Lists). l.new_now.items) c.part_stirred.ensures.kept ∙ c.requires.at.new_now.values_are

pub catch_up_new-requires-clause-was : goal.catch_up_new-requires-clause-was
catch_up_new-requires-clause-was g c = ap (λ (l : Lists). l.new_before.items) c.part_stirred.ensures.kept ∙ c.requires.at.new_before.values_are

pub assign-requires : goal.assign-requires
assign-requires g c = λ k d low.
    let had = changes-now g.U.Updater.answer c.args.frame c.args.round c.requires.frame c.requires.round c.changes_after.result.now c.changes_after.ensures in
    omega (arith, had.within k d low, ap (λ (vs : List Val). length vs) c.deref_mut.ensures.value, ap (λ (l : Lists). length l.old_now.items) (kept-both c.args.lists.now c.part_stirred.new.lists c.catch_up_new.new.lists c.part_stirred.ensures.kept c.catch_up_new.ensures.kept), c.requires.at.old_sized.values_size)

pub apply-lists-requires-clause-within : goal.apply-lists-requires-clause-within
apply-lists-requires-clause-within g c = λ k d low.
    omega (arith, (subst (λ (cs : List Change). HasChanges (count_in c.args.frame) (lone_at g.U.Updater.answer c.args.frame c.args.round) (lone_at g.U.Updater.answer c.args.frame (c.args.round + 1)) cs) (sym c.changed.ensures) c.requires.made.changes).within k d low, ap (λ (vs : List Val). length vs) c.deref_mut-2.ensures.value, ap (λ (l : Lists). length l.new_now.items) (kept-both c.args.lists.now c.part_stirred.new.lists c.catch_up_new.new.lists c.part_stirred.ensures.kept c.catch_up_new.ensures.kept), c.requires.at.new_now.sized.values_size)

pub apply-lists-requires-clause-size : goal.apply-lists-requires-clause-size
apply-lists-requires-clause-size g c = omega (arith, ap (λ (vs : List Val). length vs) c.deref_mut-2.ensures.value, ap (λ (l : Lists). length l.new_now.items) (kept-both c.args.lists.now c.part_stirred.new.lists c.catch_up_new.new.lists c.part_stirred.ensures.kept c.catch_up_new.ensures.kept), c.requires.at.new_now.sized.values_size)

pub apply-lists-requires-clause-sender : goal.apply-lists-requires-clause-sender
apply-lists-requires-clause-sender g c =
    let kept = kept-both c.args.lists.now c.part_stirred.new.lists c.catch_up_new.new.lists c.part_stirred.ensures.kept c.catch_up_new.ensures.kept in
    let degrees = c.deref.ensures.value ∙ ap (λ (l : Lists). l.new_degrees.items) kept in
    record {
      checked = c.requires.frame.checked;
      degrees_size = ap (λ (ds : List ℕ). length ds) degrees ∙ c.requires.at.new_now.sized.degrees_size;
      small = λ u low. subst (λ (ds : List ℕ). get_or ds u 0 < 2 ^ 32) (sym degrees) (c.requires.at.new_now.sized.degrees_small u low);
    }

pub apply-lists-requires-clause-keeps : goal.apply-lists-requires-clause-keeps
apply-lists-requires-clause-keeps g c =
    let f = c.args.frame in
    subst (λ (l : Lists). MayKeep l.alike f.program.now f.graph.now) (sym (kept-both c.args.lists.now c.part_stirred.new.lists c.catch_up_new.new.lists c.part_stirred.ensures.kept c.catch_up_new.ensures.kept)) c.requires.at.keeps

pub apply-lists-requires-clause-sent : goal.apply-lists-requires-clause-sent
apply-lists-requires-clause-sent g c =
    let f = c.args.frame in
    sent-at _ f.program.now f.graph.now _ _ _ _ _ _ c.deref.ensures.value c.deref_mut-2.ensures.value refl
    (subst (λ (l : Lists). AreSent l.alike f.program.now f.graph.now l.new_degrees.items l.new_now.items l.new_sent) (sym (kept-both c.args.lists.now c.part_stirred.new.lists c.catch_up_new.new.lists c.part_stirred.ensures.kept c.catch_up_new.ensures.kept)) c.requires.at.new_sent)

pub returns-clause-at : goal.returns-clause-at
returns-clause-at g c =
    let answer = g.U.Updater.answer in
    let f = c.args.frame in
    let r = c.args.round in
    let p = f.program.now in
    let graph = f.graph.now in
    let lists0 = c.args.lists.now in
    let lists1 = c.catch_up_new.new.lists in
    let kept = kept-both c.args.lists.now c.part_stirred.new.lists c.catch_up_new.new.lists c.part_stirred.ensures.kept c.catch_up_new.ensures.kept in
    let on = with_items lists1.old_now c.assign.new.now in
    let nn = with_items lists1.new_now c.apply-lists.new.now in
    let ns = c.apply-lists.new.sent in
    let was_old : c.deref_mut.result.now ≡ lists0.old_now.items = c.deref_mut.ensures.value ∙ ap (λ (l : Lists). l.old_now.items) kept in
    let was_new : c.deref_mut-2.result.now ≡ lists0.new_now.items = c.deref_mut-2.ensures.value ∙ ap (λ (l : Lists). l.new_now.items) kept in
    let size_old : length c.deref_mut.result.now ≡ count_in f = ap (λ (vs : List Val). length vs) was_old ∙ c.requires.at.old_sized.values_size in
    let size_new : length c.deref_mut-2.result.now ≡ count_in f = ap (λ (vs : List Val). length vs) was_new ∙ c.requires.at.new_now.sized.values_size in
    let len_old : length c.assign.new.now ≡ lists1.old_now.len = omega (arith, c.assign.auto.now, ap (λ (vs : List Val). length vs) c.deref_mut.ensures.value, lists1.old_now.ok) in
    let len_new : length c.apply-lists.new.now ≡ lists1.new_now.len = omega (arith, c.apply-lists.auto.now, ap (λ (vs : List Val). length vs) c.deref_mut-2.ensures.value, lists1.new_now.ok) in
    let is_old = with_items_is lists1.old_now c.assign.new.now len_old in
    let is_new = with_items_is lists1.new_now c.apply-lists.new.now len_new in
    let more_new = length-lone answer p graph (new_arcs f) (r + 1) in
    let more_old = length-lone answer p graph (arcs_in f.rows.now.by_head f.old.now) (r + 1) in
    let alike : lists1.alike ≡ lists0.alike = ap (λ (l : Lists). l.alike) kept in
    let degrees : lists1.new_degrees.items ≡ lists0.new_degrees.items = ap (λ (l : Lists). l.new_degrees.items) kept in
    subst (λ (l : Lists). StandAt answer f (r + 1) (was_touched_at answer f (r + 1)) (record l { old_now = on; new_now = nn; alike = c.apply-lists.result; new_sent = ns })) (sym kept)
    (at-next answer f r lists0 c.part_stirred.new.lists.parted lists1.new_before on nn c.apply-lists.result ns c.requires.at
    (is_new ∙ c.apply-lists.ensures.values (lone_at answer f (r + 1)) (more_new ∙ sym size_new) (moved (length c.deref_mut-2.result.now) (count_in f) c.deref_mut-2.result.now (lone_at answer f r) (lone_at answer f (r + 1)) (lone_at answer f (r + 1)) c.changed.result.now c.changed.result.now size_new (was_new ∙ c.requires.at.new_now.values_are) refl refl (subst (λ (cs : List Change). HasChanges (count_in f) (lone_at answer f r) (lone_at answer f (r + 1)) cs) (sym c.changed.ensures) c.requires.made.changes)))
    c.catch_up_new.ensures.new
    (λ one. is_old ∙ c.assign.ensures (old_lone_at answer f (r + 1)) (more_old ∙ sym size_old) (old-step answer f c.requires.frame r (length c.deref_mut.result.now) c.deref_mut.result.now (old_lone_at answer f (r + 1)) c.changes_after.result.now c.requires.round one size_old (was_old ∙ (c.requires.at.old_now one).values_are) refl c.changes_after.ensures))
    c.part_stirred.ensures.parted
    (omega (arith, ap (λ (vs : List Val). length vs) is_new, c.apply-lists.auto.now, size_new))
    (ap (λ (vs : List Val). length vs) c.catch_up_new.ensures.new ∙ length-lone answer p graph (new_arcs f) r)
    (omega (arith, ap (λ (vs : List Val). length vs) is_old, c.assign.auto.now, size_old))
    c.part_stirred.ensures.size
    (λ e. c.requires.at.keeps (sym alike ∙ c.apply-lists.ensures.only e))
    (sent-at c.apply-lists.result p graph _ _ _ _ _ _ (sym (c.deref.ensures.value ∙ degrees)) is_new refl c.apply-lists.ensures.sent))

pub returns-clause-idle : goal.returns-clause-idle
returns-clause-idle g c =
    let kept = kept-both c.args.lists.now c.part_stirred.new.lists c.catch_up_new.new.lists c.part_stirred.ensures.kept c.catch_up_new.ensures.kept in
    record {
      none_waits = λ v. ap (λ (l : Lists). waits l.queue v) kept ∙ c.requires.idle.none_waits v;
      none_marked = λ v. ap (λ (l : Lists). get_or l.marked.items v false) kept ∙ c.requires.idle.none_marked v;
      none_shown = ap (λ (l : Lists). l.shown) kept ∙ c.requires.idle.none_shown;
    }
