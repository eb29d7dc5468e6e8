use Rattle.flow_work.specs.TurnLaws.{turn-is-work}
use Rattle.flow_work.proofs.laws.turn_is_work.Goals as goal

pub returns : goal.returns
returns g c = turn-is-work g.T.Time.leq g.T.Time.lub g.met.T.Time.lattice
