use Rattle.graph_meanings.specs.ViewMeanings.{components-of-views}
use Rattle.graph_meanings.proofs.laws.components_of_views.Goals as goal

pub returns : goal.returns
returns c = components-of-views
