-- What follows from the definitions, each law as one statement, and proofs of them that the rooms above can cite.
use Rattle.std.specs.Prelude.{◌≡◌, ℕ, ◌==◌, Bool, true, false, not, ◌||◌, List, [], ◌∷◌, length, filter, cond, Some, refl}
use Rattle.std.proofs.Common.{sym, ap, ◌∙◌, arith}
use Rattle.std.proofs.lemmas.Bool.Decides.{eqb_tells}
use Rattle.graph_model.specs.declared.number.EdgeNo.{EdgeNo}
use Rattle.view_matrix.specs.Matrices.{MatrixData, all_edges, bit_of, differ, distance_of, edges_in, is_in, in_exactly_one}
use Rattle.view_matrix.specs.Laws.{distance_of-lists}

-- two views differ in no edge exactly where their lists of edges are one
pub record HasSameEdges (m : MatrixData) (u v : ℕ) : Type 0 where
  pub near : distance_of m (Some u) v ≡ 0 → edges_in m u ≡ edges_in m v
  pub same : edges_in m u ≡ edges_in m v → distance_of m (Some u) v ≡ 0

abbrev pub EqualViews : Type 0
EqualViews = (m : MatrixData) (u v : ℕ) → HasSameEdges m u v

-- ---- none differs

module _ (p q : EdgeNo → Bool) where
  one-same : (e : EdgeNo) (apart ps qs : List EdgeNo) (a b : Bool) → (length apart ≡ 0 → ps ≡ qs) → length (cond (differ a b) (e ∷ apart) apart) ≡ 0 → cond a (e ∷ ps) ps ≡ cond b (e ∷ qs) qs
  one-same e apart ps qs true true rest none = ap (λ (es : List EdgeNo). e ∷ es) (rest none)
  one-same e apart ps qs true false rest none = absurd (omega (arith, none))
  one-same e apart ps qs false true rest none = absurd (omega (arith, none))
  one-same e apart ps qs false false rest none = rest none

  same-filtered : (es : List EdgeNo) → length (filter (λ e. differ (p e) (q e)) es) ≡ 0 → filter p es ≡ filter q es
  same-filtered [] none = refl
  same-filtered (e ∷ es) none = one-same e (filter (λ e. differ (p e) (q e)) es) (filter p es) (filter q es) (p e) (q e) (same-filtered es) none

-- ---- no edge of a list is outside of it

or-true : (a b : Bool) → b ≡ true → (a || b) ≡ true
or-true true b e = refl
or-true false b e = e

test-itself : (n : ℕ) → (n == n) ≡ true
test-itself n = grind (arith, eqb_tells n n)

none-by : (e : EdgeNo) (b : Bool) (rest : List EdgeNo) → b ≡ true → length rest ≡ 0 → length (cond (not b) (e ∷ rest) rest) ≡ 0
none-by e true rest is none = none
none-by e false rest is none = absurd cc

-- of these edges, each of which stands in a list, none is outside of it
module _ (xs : List EdgeNo) where
  none-outside : (es : List EdgeNo) → ((e : EdgeNo) → is_in es e ≡ true → is_in xs e ≡ true) → length (filter (λ e. not (is_in xs e)) es) ≡ 0
  none-outside [] each = refl
  none-outside (e ∷ es) each =
      none-by e (is_in xs e) (filter (λ e. not (is_in xs e)) es) (each e (ap (λ (b : Bool). b || is_in es e) (test-itself e.0)))
      (none-outside es (λ f in_rest. each f (or-true (e.0 == f.0) (is_in es f) in_rest)))

same-near : (m : MatrixData) (u v : ℕ) → edges_in m u ≡ edges_in m v → distance_of m (Some u) v ≡ 0
same-near m u v same =
    let none = none-outside (edges_in m u) (edges_in m u) (λ e is. is) in
    distance_of-lists m (Some u) v ∙ ap (λ (es : List EdgeNo). in_exactly_one (edges_in m u) es) (sym same) ∙ omega (arith, none)

pub equal_views : EqualViews
equal_views m u v = record {
  near = same-filtered (λ e. bit_of m e.0 u) (λ e. bit_of m e.0 v) (all_edges m);
  same = same-near m u v;
}
