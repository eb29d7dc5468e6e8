use Rattle.vertex_lang.specs.ArcLaws.{arcs-within}
use Rattle.vertex_lang.proofs.laws.arcs_within.Goals as goal

pub returns : goal.returns
returns c = arcs-within
