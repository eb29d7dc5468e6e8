use Rattle.lone_work.specs.CountLaws.{permuted-nothing}
use Rattle.lone_work.proofs.laws.permuted_views_no_work.Goals as goal

pub returns : goal.returns
returns c = permuted-nothing
