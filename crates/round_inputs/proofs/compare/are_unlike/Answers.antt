use Rattle.std.proofs.Common.{ap, refl, arith, List}
use Rattle.std.specs.Prelude.{not}
use Rattle.graph_model.specs.declared.value.Val.{Val}
use Rattle.graph_model.specs.declared.value.Val.TheVariants.{Nil, Num}
use Rattle.round_inputs.specs.Inputs.{AreLeft}
use Rattle.round_inputs.proofs.Leftovers.{left-told-at}
use Rattle.round_inputs.proofs.compare.are_unlike.Goals as goal

-- nothing is taken away
whole : (xs ys : List Val) → AreLeft xs ys xs ys
whole xs ys = record { counts = λ z. omega arith }

pub returns : goal.returns
returns c =
    let xs = c.args.scratch.now.left.items in
    let ys = c.args.scratch.now.right.items in
    ap not (left-told-at (elim [ Nil ↦ elim [ Nil ↦ refl | Num b ↦ refl ] | Num a ↦ elim [ Nil ↦ refl | Num b ↦ refl ] ]) xs ys c.deref_mut.result.now c.deref_mut-2.result.now xs ys c.are_one_multiset-same.result c.deref_mut.ensures.value c.deref_mut-2.ensures.value (whole xs ys) c.are_one_multiset-same.ensures.answer)
