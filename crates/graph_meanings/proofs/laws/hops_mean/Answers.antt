use Rattle.graph_meanings.specs.HopsMeaning.{hops-mean}
use Rattle.graph_meanings.proofs.laws.hops_mean.Goals as goal

pub returns : goal.returns
returns c = hops-mean
