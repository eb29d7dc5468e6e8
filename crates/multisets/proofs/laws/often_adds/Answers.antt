use Rattle.multisets.specs.CountLaws.{often-append}
use Rattle.multisets.proofs.laws.often_adds.Goals as goal

pub returns : goal.returns
returns g c = λ same x xs ys. often-append same x xs ys
