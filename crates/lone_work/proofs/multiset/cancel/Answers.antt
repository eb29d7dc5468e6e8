use Rattle.std.proofs.Common.{◌∙◌, ◌++◌, List, ap, refl}
use Rattle.graph_model.specs.declared.value.Val.{Val}
use Rattle.graph_model.specs.declared.value.Val.TheVariants.{Nil, Num}
use Rattle.lone_work.proofs.Sorted.{cancel-by}
use Rattle.lone_work.proofs.multiset.cancel.Goals as goal

pub returns : goal.returns
returns c =
    let a = c.args.new.now in
    let b = c.args.old.now in
    let d = c.args.old_before.now in
    let before = c.args.new_before.now in
    cancel-by (elim [ Nil ↦ elim [ Nil ↦ refl | Num b ↦ refl ] | Num a ↦ elim [ Nil ↦ refl | Num b ↦ refl ] ])
    a b before d c.deref_mut.result.now c.deref_mut-2.result.now c.are_one_multiset.result
    (c.deref_mut.ensures.value ∙ c.in_ok-extend_from_slice.ensures.items ∙ ap (λ (xs : List Val). xs ++ d) c.in_ok-left.ensures.items)
    (c.deref_mut-2.ensures.value ∙ c.in_ok-extend_from_slice-2.ensures.items ∙ ap (λ (xs : List Val). xs ++ before) c.in_ok-right.ensures.items)
    c.are_one_multiset.ensures.answer
