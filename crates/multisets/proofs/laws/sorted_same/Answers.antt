use Rattle.multisets.specs.SortLaws.{sorted-same}
use Rattle.multisets.proofs.laws.sorted_same.Goals as goal

pub returns : goal.returns
returns g c = λ same exact lt order tied xs ys s t e. sorted-same same exact lt order tied xs ys s t e
