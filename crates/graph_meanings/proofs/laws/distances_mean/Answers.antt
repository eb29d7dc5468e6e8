use Rattle.graph_meanings.specs.DistMeaning.{distances-mean}
use Rattle.graph_meanings.proofs.laws.distances_mean.Goals as goal

pub returns : goal.returns
returns c = distances-mean
