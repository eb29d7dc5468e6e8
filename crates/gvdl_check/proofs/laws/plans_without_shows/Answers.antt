-- The law is proved beside its statement.
use Rattle.gvdl_check.specs.Laws.{plans_without_shows}
use Rattle.gvdl_check.proofs.laws.plans_without_shows.Goals as goal

pub returns : goal.returns
returns c = plans_without_shows
