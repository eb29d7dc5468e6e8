use Rattle.vertex_lang.specs.GatherLaws.{values-exact}
use Rattle.vertex_lang.proofs.laws.values_exact.Goals as goal

pub returns : goal.returns
returns c = values-exact
