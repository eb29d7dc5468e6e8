use Rattle.vertex_lang.specs.ArcLaws.{arcs-run}
use Rattle.vertex_lang.proofs.laws.arcs_run.Goals as goal

pub returns : goal.returns
returns c = arcs-run
