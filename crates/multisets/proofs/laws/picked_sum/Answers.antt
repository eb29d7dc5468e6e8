use Rattle.multisets.specs.SumLaws.{picked-sum}
use Rattle.multisets.proofs.laws.picked_sum.Goals as goal

pub returns : goal.returns
returns g c = λ f picks xs. picked-sum f picks xs
