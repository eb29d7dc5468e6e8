use Rattle.graph_meanings.specs.HopsMeaning.{hops-settle}
use Rattle.graph_meanings.proofs.laws.hops_settle.Goals as goal

pub returns : goal.returns
returns c = hops-settle
