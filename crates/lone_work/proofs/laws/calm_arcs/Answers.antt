use Rattle.lone_work.specs.CountLaws.{calm-arcs}
use Rattle.lone_work.proofs.laws.calm_arcs.Goals as goal

pub returns : goal.returns
returns c = calm-arcs
