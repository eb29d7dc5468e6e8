use Rattle.work_theory.specs.ViewLaws.{lap-is-work}
use Rattle.work_theory.proofs.laws.lap_is_work.Goals as goal

pub returns : goal.returns
returns g c = lap-is-work g.T.Time.leq g.T.Time.lub g.met.T.Time.lattice
