use Rattle.vertex_lang.specs.RoundLaws.{next-at}
use Rattle.vertex_lang.proofs.laws.next_at.Goals as goal

pub returns : goal.returns
returns c = next-at
