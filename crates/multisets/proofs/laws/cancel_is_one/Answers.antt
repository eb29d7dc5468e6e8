use Rattle.multisets.specs.CountLaws.{cancel-is-one}
use Rattle.multisets.proofs.laws.cancel_is_one.Goals as goal

pub returns : goal.returns
returns g c = λ same exact x y z w. cancel-is-one same exact x y z w
