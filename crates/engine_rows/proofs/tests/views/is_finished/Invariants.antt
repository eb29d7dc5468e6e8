-- The segments before this one are finished.
use Rattle.std.proofs.Common.{◌≡◌, ℕ, ◌<◌, slice_get, Some}
use Rattle.view_segment.specs.declared.segment.Segment.{Segment}
use Rattle.view_segment.specs.Segments.{IsFinished}
use Rattle.engine_rows.proofs.tests.views.is_finished.Given as goal

abbrev pub invariant-loop-number : goal.invariant-loop-number
invariant-loop-number l = (i : ℕ) (s : Segment) → i < l.number → slice_get l.engine.segments.items i ≡ Some s → IsFinished s
