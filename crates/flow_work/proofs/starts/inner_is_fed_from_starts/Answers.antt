use Rattle.flow_work.specs.StartLaws.{inner-is-fed-from}
use Rattle.flow_work.proofs.starts.inner_is_fed_from_starts.Goals as goal

pub returns : goal.returns
returns g c = inner-is-fed-from g.T.Time.leq g.T.Time.lub
