-- The law is proved beside its statement.
use Rattle.gvdl_check.specs.Laws.{plans_name_lines}
use Rattle.gvdl_check.proofs.laws.plans_name_lines.Goals as goal

pub returns : goal.returns
returns c = plans_name_lines
