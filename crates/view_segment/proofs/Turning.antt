-- The flags of a view, by those of another one and the edges that the two don't share.
use Rattle.std.proofs.Common.{◌≡◌, ◌≢◌, ◌∙◌, ◌+◌, ◌<◌, ◌≤◌, ◌==◌, ◌⊎◌, inl, inr, ℕ, zero, suc, Bool, true, false, not, cond, List, ◌∷◌, Some, length, get_or, set, map, filter, fold, refl, sym, ap, ap₂, arith, get_or-set_same, get_or-set_other}
use Rattle.std.specs.List.{range_with_len}
use Rattle.std.proofs.Math.ListN.{length-set}
use Rattle.std.proofs.lemmas.Bool.Decides.{eqb_tells}
use Rattle.std.proofs.lemmas.List.FromFn.{fill_by_all}
use Rattle.graph_model.specs.declared.number.EdgeNo.{EdgeNo}
use Rattle.edge_predicates.specs.ViewEdges.{edge}
use Rattle.view_matrix.specs.Matrices.{MatrixData, apart, bit_of, differ}
use Rattle.view_segment.specs.Steps.{flags_of, with_turned}
use Rattle.view_segment.proofs.Choosing.{flag-at, flags-count}

module _ (p q : ℕ → Bool) where
  -- those below a place are what the second test says, and those behind it what the first one does
  record Between (place len : ℕ) (flags : List Bool) : Type 0 where
    count : length flags ≡ len
    below : (e : ℕ) → e < place → get_or flags e false ≡ q e
    behind : (e : ℕ) → place ≤ e → e < len → get_or flags e false ≡ p e

  turned-is : (a b : Bool) → differ a b ≡ true → not a ≡ b
  turned-is true true h = absurd cc
  turned-is true false h = refl
  turned-is false true h = refl
  turned-is false false h = absurd cc

  same-is : (a b : Bool) → differ a b ≡ false → a ≡ b
  same-is true true h = refl
  same-is true false h = absurd cc
  same-is false true h = absurd cc
  same-is false false h = refl

  module _ (place len : ℕ) (flags : List Bool) (within : place < len) (so_far : Between place len flags) where
    here : get_or flags place false ≡ p place
    here = so_far.behind place (omega arith) within

    set-below : (b : Bool) → b ≡ q place → (e : ℕ) → e < place + 1 → ((e == place) ≡ true) × (e ≡ place) ⊎ ((e == place) ≡ false) × (e ≢ place) → get_or (set flags place b) e false ≡ q e
    set-below b is e lt (inl h) = ap (λ (k : ℕ). get_or (set flags place b) k false) h.1 ∙ get_or-set_same flags place b false (omega (arith, within, so_far.count)) ∙ is ∙ ap q (sym h.1)
    set-below b is e lt (inr h) = get_or-set_other flags place e b false h.1 ∙ so_far.below e (omega (arith, lt, h.1))

    turned-one : differ (p place) (q place) ≡ true → Between (place + 1) len (with_turned flags (edge place))
    turned-one h = record {
      count = length-set flags place (not (get_or flags place false)) ∙ so_far.count;
      below = λ e lt. set-below (not (get_or flags place false)) (ap (λ (b : Bool). not b) here ∙ turned-is (p place) (q place) h) e lt (eqb_tells e place);
      behind = λ e le lt. get_or-set_other flags place e (not (get_or flags place false)) false (λ same. absurd (omega (arith, same, le))) ∙ so_far.behind e (omega (arith, le)) lt;
    }

    left-by : (e : ℕ) → differ (p place) (q place) ≡ false → e < place + 1 → ((e == place) ≡ true) × (e ≡ place) ⊎ ((e == place) ≡ false) × (e ≢ place) → get_or flags e false ≡ q e
    left-by e h lt (inl k) = ap (λ (i : ℕ). get_or flags i false) k.1 ∙ here ∙ same-is (p place) (q place) h ∙ ap q (sym k.1)
    left-by e h lt (inr k) = so_far.below e (omega (arith, lt, k.1))

    left-one : differ (p place) (q place) ≡ false → Between (place + 1) len flags
    left-one h = record {
      count = so_far.count;
      below = λ e lt. left-by e h lt (eqb_tells e place);
      behind = λ e le lt. so_far.behind e (omega (arith, le)) lt;
    }

  one-by : (place len : ℕ) (flags : List Bool) (others : List EdgeNo) (t : Bool) → t ≡ differ (p place) (q place) → place < len → Between place len flags
      → ((fs : List Bool) → Between (place + 1) len fs → Between len len (fold with_turned fs others)) → Between len len (fold with_turned flags (cond t (edge place ∷ others) others))
  one-by place len flags others true is within so_far rest = rest (with_turned flags (edge place)) (turned-one place len flags within so_far (sym is))
  one-by place len flags others false is within so_far rest = rest flags (left-one place len flags within so_far (sym is))

  all-turned : (n place len : ℕ) (flags : List Bool) → place + n ≡ len → Between place len flags
      → Between len len (fold with_turned flags (filter (λ (e : EdgeNo). differ (p e.0) (q e.0)) (map edge (range_with_len place n))))
  all-turned zero place len flags all so_far = record {
    count = so_far.count;
    below = λ e lt. so_far.below e (omega (arith, all, lt));
    behind = λ e le lt. absurd (omega (arith, le, lt));
  }
  all-turned (suc n) place len flags all so_far =
      one-by place len flags (filter (λ (e : EdgeNo). differ (p e.0) (q e.0)) (map edge (range_with_len (place + 1) n))) (differ (p place) (q place)) refl (omega (arith, all)) so_far
      (λ fs now. all-turned n (place + 1) len fs (omega (arith, all)) now)

pub turned-flags : (m : MatrixData) (u v : ℕ) → fold with_turned (flags_of m u) (apart m (Some u) v) ≡ flags_of m v
turned-flags m u v =
    let len = length m.live in
    let done = all-turned (λ (e : ℕ). bit_of m e u) (λ (e : ℕ). bit_of m e v) len 0 len (flags_of m u) (omega arith) (record { count = flags-count m u; below = λ e lt. absurd (omega (arith, lt)); behind = λ e le lt. flag-at m u e }) in
    fill_by_all (λ (e : ℕ). bit_of m e v) (fold with_turned (flags_of m u) (apart m (Some u) v)) len false done.count done.below

pub turned-by : (m : MatrixData) (u v : ℕ) (old new : List Bool) (turned : List EdgeNo) → old ≡ flags_of m u → turned ≡ apart m (Some u) v → new ≡ fold with_turned old turned → new ≡ flags_of m v
turned-by m u v old new turned was those is = is ∙ ap₂ (λ (bs : List Bool) (es : List EdgeNo). fold with_turned bs es) was those ∙ turned-flags m u v
