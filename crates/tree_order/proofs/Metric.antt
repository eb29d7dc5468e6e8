-- The number of edges in which two columns differ is a metric.
use Rattle.std.proofs.Common.{◌≡◌, ℕ, ◌+◌, ◌≤◌, Bool, true, false, cond, List, [], ◌∷◌, length, filter, Option, Some, refl, arith}
use Rattle.graph_model.specs.declared.number.EdgeNo.{EdgeNo}
use Rattle.view_matrix.specs.Matrices.{MatrixData, all_edges, column_bit, differ, distance_of}

-- a distance of points: of none from itself, as far there as back, and no shorter by way of a third
pub record IsMetric (d : Option ℕ → Option ℕ → ℕ) : Type 0 where
  pub itself : (a : Option ℕ) → d a a ≡ 0
  pub back : (a b : Option ℕ) → d a b ≡ d b a
  pub by_way : (a b c : Option ℕ) → d a c ≤ d a b + d b c

abbrev pub to_view : (Option ℕ → Option ℕ → ℕ) → Option ℕ → ℕ → ℕ
to_view d a v = d a (Some v)

-- ---- lists of edges

abbrev differing : (ℕ → Bool) → (ℕ → Bool) → List EdgeNo → List EdgeNo
differing p q es = filter (λ (e : EdgeNo). differ (p e.0) (q e.0)) es

none_more : (x : EdgeNo) (es : List EdgeNo) (a : Bool) → length es ≡ 0 → length (cond (differ a a) (x ∷ es) es) ≡ 0
none_more x es true e = e
none_more x es false e = e

differs_not : (p : ℕ → Bool) (es : List EdgeNo) → length (differing p p es) ≡ 0
differs_not p [] = refl
differs_not p (x ∷ es) = none_more x (differing p p es) (p x.0) (differs_not p es)

same_more : (x : EdgeNo) (es fs : List EdgeNo) (a b : Bool) → length es ≡ length fs → length (cond (differ a b) (x ∷ es) es) ≡ length (cond (differ b a) (x ∷ fs) fs)
same_more x es fs true true e = e
same_more x es fs true false e = omega arith
same_more x es fs false true e = omega arith
same_more x es fs false false e = e

differs_back : (p q : ℕ → Bool) (es : List EdgeNo) → length (differing p q es) ≡ length (differing q p es)
differs_back p q [] = refl
differs_back p q (x ∷ es) = same_more x (differing p q es) (differing q p es) (p x.0) (q x.0) (differs_back p q es)

way_more : (x : EdgeNo) (es fs gs : List EdgeNo) (a b c : Bool) → length es ≤ length fs + length gs
    → length (cond (differ a c) (x ∷ es) es) ≤ length (cond (differ a b) (x ∷ fs) fs) + length (cond (differ b c) (x ∷ gs) gs)
way_more x es fs gs true true true e = omega arith
way_more x es fs gs true true false e = omega arith
way_more x es fs gs true false true e = omega arith
way_more x es fs gs true false false e = omega arith
way_more x es fs gs false true true e = omega arith
way_more x es fs gs false true false e = omega arith
way_more x es fs gs false false true e = omega arith
way_more x es fs gs false false false e = omega arith

differs_by_way : (p q r : ℕ → Bool) (es : List EdgeNo) → length (differing p r es) ≤ length (differing p q es) + length (differing q r es)
differs_by_way p q r [] = omega arith
differs_by_way p q r (x ∷ es) = way_more x (differing p r es) (differing p q es) (differing q r es) (p x.0) (q x.0) (r x.0) (differs_by_way p q r es)

-- ---- columns of a matrix

-- in how many edges two columns differ
abbrev pub between : MatrixData → Option ℕ → Option ℕ → ℕ
between m a b = length (differing (column_bit m a) (column_bit m b) (all_edges m))

pub between_is : (m : MatrixData) (a : Option ℕ) (v : ℕ) → to_view (between m) a v ≡ distance_of m a v
between_is m a v = refl

pub between_metric : (m : MatrixData) → IsMetric (between m)
between_metric m = record {
  itself = λ a. differs_not (column_bit m a) (all_edges m);
  back = λ a b. differs_back (column_bit m a) (column_bit m b) (all_edges m);
  by_way = λ a b c. differs_by_way (column_bit m a) (column_bit m b) (column_bit m c) (all_edges m);
}
