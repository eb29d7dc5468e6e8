use Rattle.graph_meanings.specs.ViewMeanings.{hops-over-edges}
use Rattle.graph_meanings.proofs.laws.hops_over_edges.Goals as goal

pub returns : goal.returns
returns c = hops-over-edges
