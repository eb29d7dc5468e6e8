use Rattle.lone_work.specs.StepLaws.{counted-by-marks}
use Rattle.lone_work.proofs.laws.counted_by_marks.Goals as goal

pub returns : goal.returns
returns c = counted-by-marks
