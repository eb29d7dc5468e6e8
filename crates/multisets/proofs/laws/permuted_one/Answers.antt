use Rattle.multisets.specs.OrderLaws.{permuted-one}
use Rattle.multisets.proofs.laws.permuted_one.Goals as goal

pub returns : goal.returns
returns g c = λ same xs ys s. permuted-one same xs ys s
