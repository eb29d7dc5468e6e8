use Rattle.lone_work.specs.InputLaws.{value-told}
use Rattle.lone_work.proofs.laws.same_input_same_value.Goals as goal

pub returns : goal.returns
returns c = value-told
