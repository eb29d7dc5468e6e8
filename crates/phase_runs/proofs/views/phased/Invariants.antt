-- The answers on the views so far stand.
use Rattle.std.proofs.Common.{◌≡◌, ◌+◌, ◌*◌, ◌≤◌, drop, take, None}
use Rattle.phase_runs.specs.Answers.{held_views, own_runs}
use Rattle.phase_runs.specs.Courses.{most_calls, place_of_last, Stands}
use Rattle.phase_runs.proofs.views.phased.Given as goal

abbrev pub invariant-loop-view : goal.invariant-loop-view
invariant-loop-view g l = record {
  stands : Stands g.U.Updater.answer l.course l.answered;
  held : held_views l.answered.results ≡ take l.view-index l.order;
  calls : g.U.Counted.calls l.updater + most_calls l.course * own_runs l.course.matrix.now (place_of_last l.answered.last) (drop l.view-index l.order) ≤ g.U.Counted.calls l.initial.updater + most_calls l.course * own_runs l.course.matrix.now None l.order;
}
