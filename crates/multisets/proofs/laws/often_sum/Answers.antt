use Rattle.multisets.specs.SumLaws.{often-sum}
use Rattle.multisets.proofs.laws.often_sum.Goals as goal

pub returns : goal.returns
returns g c = λ same x xs. often-sum same x xs
