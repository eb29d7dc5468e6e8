-- Each kind stands in the order of values.
use Rattle.std.proofs.Common.{refl}
use Rattle.graph_model.specs.declared.value.Val.TheVariants.{Nil, Num}
use Rattle.vertex_items.proofs.laws.items_are_ordered.Goals as goal

pub returns : goal.returns
returns c = record {
  total = c.records_are_ordered.ensures.total;
  same = c.records_are_ordered.ensures.same;
  starts = elim [ Nil ↦ elim [ Nil ↦ refl | Num b ↦ refl ] | Num a ↦ elim [ Nil ↦ refl | Num b ↦ refl ] ];
  owns = elim [ Nil ↦ elim [ Nil ↦ refl | Num b ↦ refl ] | Num a ↦ elim [ Nil ↦ refl | Num b ↦ refl ] ];
  messages = elim [ Nil ↦ elim [ Nil ↦ refl | Num b ↦ refl ] | Num a ↦ elim [ Nil ↦ refl | Num b ↦ refl ] ];
}
