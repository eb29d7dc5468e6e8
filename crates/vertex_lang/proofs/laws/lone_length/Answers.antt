use Rattle.vertex_lang.specs.RoundLaws.{length-lone}
use Rattle.vertex_lang.proofs.laws.lone_length.Goals as goal

pub returns : goal.returns
returns c = length-lone
