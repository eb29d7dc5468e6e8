use Rattle.multisets.specs.FoldLaws.{fold-one}
use Rattle.multisets.proofs.laws.fold_one.Goals as goal

pub returns : goal.returns
returns g c = λ same exact f swaps b xs ys s. fold-one same exact f swaps b xs ys s
