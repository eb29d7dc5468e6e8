-- The next view of the order is new, and takes at most its own run.
use Rattle.std.proofs.Common.{◌∙◌, ◌+◌, ◌*◌, ◌<◌, ◌≤◌, ◌++◌, ◌∷◌, [], ℕ, List, Option, Some, None, length, drop, get_or, sym, ap, subst, arith}
use Rattle.std.proofs.lemmas.List.{take_all, take_more}
use Rattle.graph_model.specs.declared.number.ViewNo.{ViewNo}
use Rattle.phase_runs.specs.declared.course.Course.{Course}
use Rattle.phase_runs.specs.Answers.{own_runs}
use Rattle.phase_runs.specs.Courses.{place_of_last}
use Rattle.phase_runs.proofs.Answering.{new-view}
use Rattle.phase_runs.proofs.Joining.{calls-more, table-held}
use Rattle.phase_runs.proofs.views.phased.Goals as goal

abbrev no_view : ViewNo
no_view = record { 0 = 0 }

under : (a b first : ℕ) → a + b ≤ first → a ≤ first
under a b first h = omega (arith, h)

pub add-requires-clause-new : goal.add-requires-clause-new
add-requires-clause-new g c = new-view c.loop-view.answered.results c.args.order.now c.loop-view.view-index no_view c.requires.distinct (omega arith) c.loop-view.invariant.held

pub returns-in_err-add-clause-calls : goal.returns-in_err-add-clause-calls
returns-in_err-add-clause-calls g c =
    let m = c.args.matrix.now in
    let order = c.args.order.now in
    let k = c.loop-view.view-index in
    let most : ℕ = length c.args.graph.now.ids * (c.args.rounds * c.args.phases) in
    let first : ℕ = g.U.Counted.calls c.args.updater.now + most * own_runs m None order in
    under (g.U.Counted.calls c.add.new.updater) (most * own_runs m (Some (get_or order k no_view).0) (drop (k + 1) order)) first
    (calls-more m most (place_of_last c.loop-view.answered.last) order k no_view first (g.U.Counted.calls c.loop-view.updater) (g.U.Counted.calls c.add.new.updater) (omega arith) c.loop-view.invariant.calls c.add.ensures.calls)

pub loop-view-preserved : goal.loop-view-preserved
loop-view-preserved g c =
    let m = c.args.matrix.now in
    let order = c.args.order.now in
    let k = c.loop-view.view-index in
    let low : k < length order = omega arith in
    let most : ℕ = length c.args.graph.now.ids * (c.args.rounds * c.args.phases) in
    let first : ℕ = g.U.Counted.calls c.args.updater.now + most * own_runs m None order in
    let after : ℕ = g.U.Counted.calls c.add.new.updater in
    record {
      stands = c.in_ok-add.ensures.stands;
      held = c.in_ok-add.ensures.held ∙ ap (λ (vs : List ViewNo). vs ++ get_or order k no_view ∷ []) c.loop-view.invariant.held ∙ sym (take_more order k no_view low);
      calls = subst (λ (o : Option ℕ). after + most * own_runs m o (drop (k + 1) order) ≤ first) (sym c.in_ok-add.ensures.last)
          (calls-more m most (place_of_last c.loop-view.answered.last) order k no_view first (g.U.Counted.calls c.loop-view.updater) after low c.loop-view.invariant.calls c.in_ok-add.ensures.calls);
    }

pub returns-clause-tables : goal.returns-clause-tables
returns-clause-tables g c =
    let course : Course = record { program = c.args.program; graph = c.args.graph; matrix = c.args.matrix; starts = c.as_slice.result; rounds = c.args.rounds; phases = c.args.phases } in
    table-held g.U.Updater.answer course c.loop-view.answered.results c.args.order.now c.loop-view.invariant.stands.right
    (c.loop-view.invariant.held ∙ take_all c.loop-view.view-index c.args.order.now (omega arith))
