use Rattle.vertex_lang.specs.RoundLaws.{stays}
use Rattle.vertex_lang.proofs.laws.fixpoint_stays.Goals as goal

pub returns : goal.returns
returns c = stays
