-- The first run of a view.
use Rattle.std.proofs.Common.{◌≡◌, ◌∙◌, ◌-◌, ◌<◌, ◌≤◌, ◌==◌, inl, inr, ℕ, zero, suc, Bool, true, false, cond, List, [], ◌∷◌, Some, None, length, map, get_or, sym, ap, subst, refl, arith, ltb-false}
use Rattle.std.specs.Prelude.{Contains, nat_lt}
use Rattle.std.specs.List.{position, position_or_len}
use Rattle.std.proofs.lemmas.Bool.{eq-eqb, false≢true}
use Rattle.std.proofs.lemmas.List.{get_or-map, length-map}
use Rattle.std.proofs.lemmas.List.Sums.{fails_before_first}
use Rattle.std.proofs.lemmas.Option.{slice_get_cases}
use Rattle.graph_model.specs.declared.number.ViewNo.{ViewNo}
use Rattle.view_order.specs.Greedy.{numbers}
use Rattle.view_segment.specs.Segments.{last_of}
use Rattle.view_versions.specs.declared.run.ViewRun.{ViewRun}

none-of : (b : Bool) (n : ℕ) → cond b (Some n) None ≡ None → b ≡ false
none-of true n e = absurd cc
none-of false n e = refl

-- a view that was run has a place
pub has-place : (runs : List ViewRun) (view : ViewNo) → position (λ run. run.view.0 == view.0) runs ≡ None → Contains (map (λ run. run.view) runs) view → ⊥
has-place runs view none (k, low, is) =
    let test = λ (run : ViewRun). run.view.0 == view.0 in
    let past : length runs ≤ position_or_len test runs = ltb-false (position_or_len test runs) (length runs) (none-of (nat_lt (position_or_len test runs) (length runs)) (position_or_len test runs) none) in
    let below : k < length runs = omega (arith, low, length-map runs (λ (run : ViewRun). run.view)) in
    elim (slice_get_cases runs k).1 [
      | inl (x, there, e, at) ↦
          let fails : (get_or runs k x).view.0 == view.0 ≡ false = fails_before_first test runs k x (omega arith) in
          let same : (get_or runs k x).view ≡ view = sym (get_or-map (λ (run : ViewRun). run.view) runs k x view below) ∙ is in
          false≢true (sym fails ∙ eq-eqb (get_or runs k x).view.0 view.0 (ap (λ (v : ViewNo). v.0) same))
      | inr gone ↦ omega (arith, gone.0)
    ]

-- ---- the last run

pub last-none : (runs : List ViewRun) → length runs ≡ 0 → last_of (numbers (map (λ run. run.view) runs)) ≡ None
last-none [] e = refl
last-none (r ∷ rs) e = absurd (omega arith)

pub last-run : (runs : List ViewRun) (n : ℕ) (d : ViewRun) → length runs ≡ suc n → last_of (numbers (map (λ run. run.view) runs)) ≡ Some (get_or runs n d).view.0
last-run [] n d e = absurd (omega arith)
last-run (r ∷ []) n d e = let first : 0 ≡ n = omega arith in subst (λ k. Some r.view.0 ≡ Some (get_or (r ∷ []) k d).view.0) first refl
last-run (r ∷ s ∷ rs) zero d e = absurd (omega arith)
last-run (r ∷ s ∷ rs) (suc n) d e = last-run (s ∷ rs) n d (omega (arith, e))

-- a list that isn't empty has a last place
pub filled : (n : ℕ) → (n == 0) ≡ false → n ≡ suc (n - 1)
filled zero e = absurd (let never : true ≡ false = e in cc)
filled (suc n) e = omega arith
