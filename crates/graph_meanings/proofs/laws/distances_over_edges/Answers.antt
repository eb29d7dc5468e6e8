use Rattle.graph_meanings.specs.ViewMeanings.{distances-over-edges}
use Rattle.graph_meanings.proofs.laws.distances_over_edges.Goals as goal

pub returns : goal.returns
returns c = distances-over-edges
