use Rattle.graph_meanings.specs.DistMeaning.{distances-settle}
use Rattle.graph_meanings.proofs.laws.distances_settle.Goals as goal

pub returns : goal.returns
returns c = distances-settle
