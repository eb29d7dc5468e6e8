use Rattle.std.proofs.Common.{◌≡◌, take}
use Rattle.std.specs.Prelude.{fold}
use Rattle.view_matrix.specs.Matrices.{with_live}
use Rattle.surge_session.proofs.edit.turn.Given as goal

abbrev pub invariant-loop-edge : goal.invariant-loop-edge
invariant-loop-edge l = l.live ≡ fold with_live l.initial.live (take l.edge-index l.changes)
