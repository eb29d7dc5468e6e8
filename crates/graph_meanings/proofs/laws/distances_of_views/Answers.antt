use Rattle.graph_meanings.specs.ViewMeanings.{distances-of-views}
use Rattle.graph_meanings.proofs.laws.distances_of_views.Goals as goal

pub returns : goal.returns
returns c = distances-of-views
