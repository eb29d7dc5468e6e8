use Rattle.multisets.specs.CountLaws.{cancel-told, cancel-tells}
use Rattle.multisets.proofs.laws.cancel_test.Goals as goal

pub returns : goal.returns
returns g c = λ same exact x y z w. (cancel-told same exact x y z w, cancel-tells same x y z w)
