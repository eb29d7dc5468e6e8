use Rattle.lone_work.specs.WorkLaws.{step-is-lone}
use Rattle.lone_work.proofs.laws.step_is_lone.Goals as goal

pub returns : goal.returns
returns c = step-is-lone
