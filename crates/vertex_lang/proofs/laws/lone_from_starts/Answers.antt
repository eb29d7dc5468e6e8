use Rattle.vertex_lang.specs.PhaseLaws.{lone-from}
use Rattle.vertex_lang.proofs.laws.lone_from_starts.Goals as goal

pub returns : goal.returns
returns c = lone-from
