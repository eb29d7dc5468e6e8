use Rattle.multisets.specs.CountLaws.{one-told, one-tells}
use Rattle.multisets.proofs.laws.one_test.Goals as goal

pub returns : goal.returns
returns g c = λ same exact xs ys. (one-told same exact xs ys, one-tells same xs ys)
