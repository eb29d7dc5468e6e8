use Rattle.graph_meanings.specs.ViewMeanings.{components-over-edges}
use Rattle.graph_meanings.proofs.laws.components_over_edges.Goals as goal

pub returns : goal.returns
returns c = components-over-edges
