use Rattle.std.proofs.Common.{refl}
use Rattle.vertex_lang.specs.Trees.{leaves-Gathered, leaves-Id, leaves-Value}
use Rattle.version_rows.proofs.Small.{fits}
use Rattle.version_rows.proofs.tests.programs.values.Goals as goal

pub returns : goal.returns
returns c = λ graph. fits _ graph _ _ _ leaves-Id leaves-Value leaves-Gathered refl refl refl
