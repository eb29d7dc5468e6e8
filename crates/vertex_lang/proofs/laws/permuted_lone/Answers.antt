use Rattle.vertex_lang.specs.RoundLaws.{permuted-arcs}
use Rattle.vertex_lang.proofs.laws.permuted_lone.Goals as goal

pub returns : goal.returns
returns c = permuted-arcs
