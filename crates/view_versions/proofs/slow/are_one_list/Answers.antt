use Rattle.std.proofs.Common.{◌∙◌, refl}
use Rattle.graph_model.specs.declared.value.Val.TheVariants.{Nil, Num}
use Rattle.view_versions.proofs.Same.{one-by}
use Rattle.view_versions.proofs.slow.are_one_list.Goals as goal

pub returns : goal.returns
returns c =
    c.are_one_multiset.ensures.answer
    ∙ one-by (elim [ Nil ↦ elim [ Nil ↦ refl | Num b ↦ refl ] | Num a ↦ elim [ Nil ↦ refl | Num b ↦ refl ] ]) c.args.left.now c.args.right.now
