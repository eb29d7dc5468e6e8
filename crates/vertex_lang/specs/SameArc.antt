-- Arcs that compare as equal are one arc.
use Rattle.std.specs.Prelude.{◌≡◌, Bool, true, false, refl}
use Rattle.std.specs.declared.cmp.Ordering.{Ordering}
use Rattle.std.specs.declared.cmp.Ordering.TheVariants.{Less, Equal, Greater}
use Rattle.std.specs.Ordering.{ordering_then, nat_cmp, bool_cmp}
use Rattle.graph_model.specs.declared.number.NodeNo.{NodeNo}
use Rattle.graph_model.specs.declared.number.EdgeNo.{EdgeNo}
use Rattle.graph_model.specs.Same.{node_same, edge_same}
use Rattle.vertex_lang.specs.declared.arc.Arc.{Arc}

abbrev pub arc_cmp : Arc → Arc → Ordering
arc_cmp x y = ordering_then (nat_cmp x.tail.0 y.tail.0) (ordering_then (nat_cmp x.head.0 y.head.0) (ordering_then (nat_cmp x.edge.0 y.edge.0) (bool_cmp x.back y.back)))

both_equal : (a b : Ordering) → ordering_then a b ≡ Equal → (a ≡ Equal) × (b ≡ Equal)
both_equal Less b e = absurd cc
both_equal Equal b e = (refl, e)
both_equal Greater b e = absurd cc

same_bool : (a b : Bool) → bool_cmp a b ≡ Equal → a ≡ b
same_bool true true e = refl
same_bool true false e = absurd cc
same_bool false true e = absurd cc
same_bool false false e = refl

arc_from : (t t' h h' : NodeNo) (e e' : EdgeNo) (b b' : Bool) → t ≡ t' → h ≡ h' → e ≡ e' → b ≡ b' → Path Arc (record { tail = t; head = h; edge = e; back = b }) (record { tail = t'; head = h'; edge = e'; back = b' })
arc_from t t' h h' e e' b b' p q r s = cc

pub arc_same : (x y : Arc) → arc_cmp x y ≡ Equal → x ≡ y
arc_same x y e =
    let tail = both_equal _ _ e in
    let head = both_equal _ _ tail.1 in
    let edge = both_equal _ _ head.1 in
    arc_from x.tail y.tail x.head y.head x.edge y.edge x.back y.back (node_same x.tail y.tail tail.0) (node_same x.head y.head head.0) (edge_same x.edge y.edge edge.0) (same_bool x.back y.back edge.1)
