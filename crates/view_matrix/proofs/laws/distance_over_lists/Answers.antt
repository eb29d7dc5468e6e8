use Rattle.view_matrix.specs.Laws.{distance_of-lists}
use Rattle.view_matrix.proofs.laws.distance_over_lists.Goals as goal

pub returns : goal.returns
returns c = distance_of-lists
