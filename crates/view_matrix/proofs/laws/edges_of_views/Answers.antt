use Rattle.view_matrix.specs.Laws.{edges_in-views}
use Rattle.view_matrix.proofs.laws.edges_of_views.Goals as goal

pub returns : goal.returns
returns c = edges_in-views
