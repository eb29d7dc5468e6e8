-- The law is proved beside its statement.
use Rattle.gvdl_check.specs.Laws.{plans_continue}
use Rattle.gvdl_check.proofs.laws.plans_continue.Goals as goal

pub returns : goal.returns
returns c = plans_continue
