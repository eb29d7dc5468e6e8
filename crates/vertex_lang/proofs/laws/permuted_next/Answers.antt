use Rattle.vertex_lang.specs.RoundLaws.{next-permuted}
use Rattle.vertex_lang.proofs.laws.permuted_next.Goals as goal

pub returns : goal.returns
returns c = next-permuted
