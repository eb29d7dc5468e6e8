-- The segments before this one have no work of the view.
use Rattle.std.proofs.Common.{◌≡◌, drop}
use Rattle.view_engine.specs.Engines.{work_in}
use Rattle.view_engine.proofs.engine.work_in.Given as goal

abbrev pub invariant-loop-segment : goal.invariant-loop-segment
invariant-loop-segment l = work_in (drop l.segment-index l.segments) l.view ≡ work_in l.segments l.view
