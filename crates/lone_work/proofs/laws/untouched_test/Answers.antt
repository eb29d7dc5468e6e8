use Rattle.lone_work.specs.StepLaws.{untouched-test}
use Rattle.lone_work.proofs.laws.untouched_test.Goals as goal

pub returns : goal.returns
returns c = untouched-test
