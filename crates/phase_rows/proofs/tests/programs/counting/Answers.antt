use Rattle.std.proofs.Common.{pos, refl}
use Rattle.vertex_lang.specs.Trees.{leaves-Number}
use Rattle.phase_rows.proofs.Small.{fits}
use Rattle.phase_rows.proofs.tests.programs.counting.Goals as goal

pub returns : goal.returns
returns c = λ graph. fits _ graph _ _ (leaves-Number (pos 1)) (leaves-Number (pos 1)) refl refl c.requires
