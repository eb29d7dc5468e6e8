use Rattle.std.proofs.Common.{◌∙◌, refl}
use Rattle.graph_model.specs.declared.value.Val.TheVariants.{Nil, Num}
use Rattle.lone_work.proofs.Sorted.{one-by}
use Rattle.lone_work.proofs.multiset.are_one_list.Goals as goal

pub returns : goal.returns
returns c =
    one-by (elim [ Nil ↦ elim [ Nil ↦ refl | Num b ↦ refl ] | Num a ↦ elim [ Nil ↦ refl | Num b ↦ refl ] ])
    c.args.left.now c.args.right.now c.deref_mut.result.now c.deref_mut-2.result.now c.are_one_multiset.result (c.deref_mut.ensures.value ∙ c.in_ok-left.ensures.items) (c.deref_mut-2.ensures.value ∙ c.in_ok-right.ensures.items) c.are_one_multiset.ensures.answer
