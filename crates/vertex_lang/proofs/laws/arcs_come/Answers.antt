use Rattle.vertex_lang.specs.ArcLaws.{arcs-come}
use Rattle.vertex_lang.proofs.laws.arcs_come.Goals as goal

pub returns : goal.returns
returns c = arcs-come
