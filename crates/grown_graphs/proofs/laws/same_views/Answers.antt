-- The law is proved beside its statement.
use Rattle.grown_graphs.specs.Laws.{same-views}
use Rattle.grown_graphs.proofs.laws.same_views.Goals as goal

pub returns : goal.returns
returns c = same-views
