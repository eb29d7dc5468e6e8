-- Laws of the edges in which two columns differ.
use Rattle.std.specs.Prelude.{◌≡◌, ◌≢◌, ◌⊎◌, ℕ, ◌+◌, ◌<◌, ◌==◌, zero, suc, Bool, true, false, not, ◌||◌, List, [], ◌∷◌, length, filter, cond, get_or, All, Option, refl}
use Rattle.std.proofs.Common.{sym, ap, ◌∙◌, arith, inl, inr}
use Rattle.std.proofs.lemmas.Bool.Decides.{eqb_tells}
use Rattle.graph_model.specs.declared.number.EdgeNo.{EdgeNo}
use Rattle.view_matrix.specs.Matrices.{MatrixData, all_edges, bit_of, column_bit, column_edges, differ, distance_of, edges_in, in_exactly_one, is_in}

-- ---- what is among the edges that a test keeps

or_true : (a b : Bool) → b ≡ true → (a || b) ≡ true
or_true true b e = refl
or_true false b e = e

module _ (q : ℕ → Bool) where
  kept : List EdgeNo → List EdgeNo
  kept xs = filter (λ e. q e.0) xs

  other : (e x : EdgeNo) → q x.0 ≡ true → q e.0 ≡ false → ((x.0 == e.0) ≡ true) × (x.0 ≡ e.0) ⊎ ((x.0 == e.0) ≡ false) × (x.0 ≢ e.0) → (x.0 == e.0) ≡ false
  other e x holds fails (inl h) = absurd (let same : true ≡ false = sym holds ∙ ap q h.1 ∙ fails in cc)
  other e x holds fails (inr h) = h.0

  one_not : (e x : EdgeNo) (rest : List EdgeNo) (b : Bool) → q x.0 ≡ b → q e.0 ≡ false → is_in rest e ≡ false → is_in (cond b (x ∷ rest) rest) e ≡ false
  one_not e x rest false is fails none = none
  one_not e x rest true is fails none = ap (λ (c : Bool). c || is_in rest e) (other e x is fails (eqb_tells x.0 e.0)) ∙ none

  not_kept : (e : EdgeNo) (xs : List EdgeNo) → q e.0 ≡ false → is_in (filter (λ x. q x.0) xs) e ≡ false
  not_kept e [] fails = refl
  not_kept e (x ∷ xs) fails = one_not e x (filter (λ x. q x.0) xs) (q x.0) refl fails (not_kept e xs fails)

  itself : (x : EdgeNo) (rest : List EdgeNo) (b : Bool) → q x.0 ≡ b → q x.0 ≡ true → ((x.0 == x.0) ≡ true) × (x.0 ≡ x.0) ⊎ ((x.0 == x.0) ≡ false) × (x.0 ≢ x.0) → is_in (cond b (x ∷ rest) rest) x ≡ true
  itself x rest false is holds h = absurd cc
  itself x rest true is holds (inl h) = ap (λ (c : Bool). c || is_in rest x) h.0
  itself x rest true is holds (inr h) = absurd (h.1 refl)

  one_more : (e x : EdgeNo) (rest : List EdgeNo) (b : Bool) → is_in rest e ≡ true → is_in (cond b (x ∷ rest) rest) e ≡ true
  one_more e x rest false is = is
  one_more e x rest true is = or_true (x.0 == e.0) (is_in rest e) is

  is_kept : (xs : List EdgeNo) (k : ℕ) (d : EdgeNo) → k < length xs → q (get_or xs k d).0 ≡ true → is_in (filter (λ x. q x.0) xs) (get_or xs k d) ≡ true
  is_kept [] k d lt holds = absurd (omega arith)
  is_kept (x ∷ xs) zero d lt holds = itself x (filter (λ x. q x.0) xs) (q x.0) refl holds (eqb_tells x.0 x.0)
  is_kept (x ∷ xs) (suc k) d lt holds = one_more (get_or xs k d) x (filter (λ x. q x.0) xs) (q x.0) (is_kept xs k d (omega arith) holds)

  told_by : (xs : List EdgeNo) (k : ℕ) (d : EdgeNo) (b : Bool) → k < length xs → q (get_or xs k d).0 ≡ b → is_in (filter (λ x. q x.0) xs) (get_or xs k d) ≡ b
  told_by xs k d false lt is = not_kept (get_or xs k d) xs is
  told_by xs k d true lt is = is_kept xs k d lt is

  -- of these edges those are among the kept ones for which the test holds
  told : (xs : List EdgeNo) → All (λ (e : EdgeNo). is_in (filter (λ x. q x.0) xs) e ≡ q e.0) xs
  told xs k d lt = told_by xs k d (q (get_or xs k d).0) lt refl

-- ---- how many

module _ (p q : ℕ → Bool) (in_p in_q : EdgeNo → Bool) where
  one : (x : EdgeNo) (ds ps qs : List EdgeNo) (a b : Bool) → in_p x ≡ a → in_q x ≡ b
      → length ds ≡ length (filter (λ (e : EdgeNo). not (in_q e)) ps) + length (filter (λ (e : EdgeNo). not (in_p e)) qs)
      → length (cond (differ a b) (x ∷ ds) ds) ≡ length (filter (λ (e : EdgeNo). not (in_q e)) (cond a (x ∷ ps) ps)) + length (filter (λ (e : EdgeNo). not (in_p e)) (cond b (x ∷ qs) qs))
  one x ds ps qs true true ip iq so_far = rw (ip, iq) so_far
  one x ds ps qs true false ip iq so_far = rw iq (omega arith)
  one x ds ps qs false true ip iq so_far = rw ip (omega arith)
  one x ds ps qs false false ip iq so_far = so_far

  both_sides : (xs : List EdgeNo) → All (λ (e : EdgeNo). in_p e ≡ p e.0) xs → All (λ (e : EdgeNo). in_q e ≡ q e.0) xs
      → length (filter (λ (e : EdgeNo). differ (p e.0) (q e.0)) xs) ≡ length (filter (λ (e : EdgeNo). not (in_q e)) (filter (λ (e : EdgeNo). p e.0) xs)) + length (filter (λ (e : EdgeNo). not (in_p e)) (filter (λ (e : EdgeNo). q e.0) xs))
  both_sides [] ip iq = refl
  both_sides (x ∷ xs) ip iq =
      one x (filter (λ (e : EdgeNo). differ (p e.0) (q e.0)) xs) (filter (λ (e : EdgeNo). p e.0) xs) (filter (λ (e : EdgeNo). q e.0) xs) (p x.0) (q x.0)
      (ip zero x (omega arith)) (iq zero x (omega arith))
      (both_sides xs (λ k d lt. ip (suc k) d (omega arith)) (λ k d lt. iq (suc k) d (omega arith)))

pub apart_lists : (m : MatrixData) (before : Option ℕ) (v : ℕ) → distance_of m before v ≡ in_exactly_one (column_edges m before) (edges_in m v)
apart_lists m before v =
    both_sides (column_bit m before) (λ (e : ℕ). bit_of m e v) (is_in (column_edges m before)) (is_in (edges_in m v)) (all_edges m)
    (told (column_bit m before) (all_edges m)) (told (λ (e : ℕ). bit_of m e v) (all_edges m))
