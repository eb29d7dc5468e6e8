-- The law is proved beside its statement.
use Rattle.gvdl_check.specs.Laws.{plans_hold_no_lowest}
use Rattle.gvdl_check.proofs.laws.plans_hold_no_lowest.Goals as goal

pub returns : goal.returns
returns c = plans_hold_no_lowest
