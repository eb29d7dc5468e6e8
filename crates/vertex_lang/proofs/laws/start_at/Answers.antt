use Rattle.vertex_lang.specs.RoundLaws.{start-at}
use Rattle.vertex_lang.proofs.laws.start_at.Goals as goal

pub returns : goal.returns
returns c = start-at
