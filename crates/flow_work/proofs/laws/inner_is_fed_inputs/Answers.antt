use Rattle.flow_work.specs.InnerLaws.{inner-is-fed}
use Rattle.flow_work.proofs.laws.inner_is_fed_inputs.Goals as goal

pub returns : goal.returns
returns g c = inner-is-fed g.T.Time.leq g.T.Time.lub
