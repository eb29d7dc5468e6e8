use Rattle.work_theory.specs.ViewLaws.{evaluated-is-counted}
use Rattle.work_theory.proofs.laws.evaluated_is_counted.Goals as goal

pub returns : goal.returns
returns g c = evaluated-is-counted g.T.Time.leq g.T.Time.lub g.met.T.Time.lattice
