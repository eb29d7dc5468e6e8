use Rattle.std.proofs.Common.{◌≡◌, [], take}
use Rattle.view_versions.specs.Edits.{turned_in}
use Rattle.view_versions.proofs.flags.is_turned.Given as goal

abbrev pub invariant-loop-change : goal.invariant-loop-change
invariant-loop-change l = turned_in l.matrix (take l.change-index l.changes) l.view.0 ≡ []
