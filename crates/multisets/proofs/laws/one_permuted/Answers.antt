use Rattle.multisets.specs.OrderLaws.{one-permuted}
use Rattle.multisets.proofs.laws.one_permuted.Goals as goal

pub returns : goal.returns
returns g c = λ same exact xs ys s. one-permuted same exact xs ys s
