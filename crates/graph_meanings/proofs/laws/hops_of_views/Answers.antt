use Rattle.graph_meanings.specs.ViewMeanings.{hops-of-views}
use Rattle.graph_meanings.proofs.laws.hops_of_views.Goals as goal

pub returns : goal.returns
returns c = hops-of-views
