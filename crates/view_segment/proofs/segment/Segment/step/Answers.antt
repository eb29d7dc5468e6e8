use Rattle.std.proofs.Common.{◌≡◌, ◌∙◌, ◌+◌, ◌-◌, ◌∷◌, [], ℕ, List, length, get_or, refl, sym, ap, ap₂, subst, Option, Some, Vec, Bool, Global, arith, length-append}
use Rattle.change_lists.specs.declared.history.History.{History}
use Rattle.view_segment.specs.declared.segment.Kept.{Kept}
use Rattle.view_segment.specs.Segments.{HistoryOf, SegmentStands}
use Rattle.view_segment.specs.Steps.{task_of}
use Rattle.view_segment.proofs.Choosing.{flags-tell}
use Rattle.view_segment.proofs.Lasting.{nothing, are-kept, kept-while, unread-by, keeps-more, stands-more, given-by}
use Rattle.view_segment.proofs.segment.Segment.step.Goals as goal

pub step_view-requires-clause-history : goal.step_view-requires-clause-history
step_view-requires-clause-history g c = c.requires.stands.history (λ all. omega (arith, all, c.requires.unfinished))

pub returns-clause-stands : goal.returns-clause-stands
returns-clause-stands g c =
    let task = task_of g.U.Updater.answer c.args.plan c.args.matrix.now in
    let m = c.args.matrix.now in
    let s = c.args.self.now in
    let made = c.in_ok-before.made in
    let view = get_or c.as_slice.result.now c.len-2.result nothing in
    let works = c.push.new.self in
    let more : length works ≡ length s.works + 1 = ap (λ (ns : List ℕ). length ns) c.in_ok-push.ensures.ok ∙ length-append s.works (made.ended.work ∷ []) in
    let all : c.len-last.result ≡ length s.views = c.len-last.ensures in
    let few : c.len.result ≡ length s.works = c.len.ensures in
    let are = are-kept task s c.as_slice.result.now c.len-2.result c.as_slice.ensures c.len-2.ensures c.requires.unfinished works made.flags c.replace-2.new.dest c.len.result (c.len-last.result - 1)
    (omega (arith, few, more)) (omega (arith, all, c.requires.unfinished)) (c.replace-2.ensures.after ∙ c.then_some.ensures)
    (c.in_ok-before.ensures.flags ∙ flags-tell m view.0 (length c.args.plan.graph.now.ends) c.requires.matrix) in
    subst (λ (history : Option History). SegmentStands task (record { views = s.views; works = works; history = history; flags = c.replace-2.new.dest })) (sym c.replace.ensures.after)
    (stands-more task s c.as_slice.result.now c.len-2.result c.as_slice.ensures c.len-2.ensures c.requires.unfinished
    made.ended works c.replace-2.new.dest made.history s.views c.requires.stands c.in_ok-before.ensures.step
    c.in_ok-push.ensures.ok are refl
    (λ un. c.in_ok-before.ensures.kept (kept-while task s c.as_slice.result.now c.len-2.result c.as_slice.ensures c.len-2.ensures c.requires.unfinished c.is_read-keeps.result works c.len.result (c.len-last.result - 1) few
    (omega (arith, few, more)) (omega (arith, all, c.requires.unfinished)) c.is_read-keeps.ensures.unfinished un)))

pub returns-clause-history : goal.returns-clause-history
returns-clause-history g c = λ grows.
    let task = task_of g.U.Updater.answer c.args.plan c.args.matrix.now in
    let s = c.args.self.now in
    let made = c.in_ok-before.made in
    keeps-more task s c.as_slice.result.now c.len-2.result c.as_slice.ensures c.len-2.ensures c.requires.unfinished made.ended.work c.push.new.self c.replace-2.new.dest c.replace.new.dest s.views c.in_ok-push.ensures.ok refl
    (subst (λ (o : Option History). HistoryOf task (Some (get_or c.as_slice.result.now c.len-2.result nothing).0) o) (sym c.replace.ensures.after) (c.in_ok-before.ensures.kept (c.is_read-keeps.ensures.grows grows)))

pub returns-clause-unread : goal.returns-clause-unread
returns-clause-unread g c = λ none all.
    let task = task_of g.U.Updater.answer c.args.plan c.args.matrix.now in
    let s = c.args.self.now in
    let made = c.in_ok-before.made in
    let works = c.push.new.self in
    let more : length works ≡ length s.works + 1 = ap (λ (ns : List ℕ). length ns) c.in_ok-push.ensures.ok ∙ length-append s.works (made.ended.work ∷ []) in
    let whole : c.len-last.result ≡ length s.views = c.len-last.ensures in
    let few : c.len.result ≡ length s.works = c.len.ensures in
    c.replace.ensures.after
    ∙ c.in_ok-before.ensures.passed (unread-by task s c.as_slice.result.now c.len-2.result c.as_slice.ensures c.len-2.ensures c.requires.unfinished c.is_read-keeps.result works c.len.result (c.len-last.result - 1)
    (omega (arith, few, more)) (omega (arith, whole, c.requires.unfinished)) (c.is_read-keeps.ensures.unread none) all)

pub returns-clause-given : goal.returns-clause-given
returns-clause-given g c =
    given-by (task_of g.U.Updater.answer c.args.plan c.args.matrix.now) c.args.self.now c.as_slice.result.now c.len-2.result c.as_slice.ensures c.len-2.ensures c.requires.unfinished
    c.in_ok-before.made.ended c.in_ok-before.before (record { history = c.replace.result; flags = c.replace-2.result }) c.in_ok-before.ensures.step c.in_ok-before.ensures.before
    (ap₂ (λ (history : Option History) (flags : Option (Vec Bool Global)). let kept : Kept = record { history = history; flags = flags } in kept) c.replace.ensures.value c.replace-2.ensures.value)
