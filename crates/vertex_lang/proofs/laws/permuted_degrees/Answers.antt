use Rattle.vertex_lang.specs.MessageLaws.{outdeg-permuted}
use Rattle.vertex_lang.proofs.laws.permuted_degrees.Goals as goal

pub returns : goal.returns
returns c = outdeg-permuted
