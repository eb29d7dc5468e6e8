-- Lists of truth values, word by word.
use Rattle.std.proofs.Common.{◌≡◌, ◌∙◌, ◌+◌, ◌*◌, ◌<◌, ◌≤◌, ◌⊎◌, inl, inr, ℕ, Bool, false, List, length, map, sym, ap, arith, ◌-◌}
use Rattle.std.specs.List.{range_with_len}
use Rattle.std.proofs.lemmas.Bool.{cases_lt}
use Rattle.std.proofs.lemmas.List.FromFn.{fill_by_all}
use Rattle.view_matrix.specs.Columns.{at, is_set, word_of}
use Rattle.view_matrix.proofs.Words.{set_word}

-- the first so many are what the test says
abbrev pub flags_to : (ℕ → Bool) → ℕ → List Bool → Type 0
flags_to p n flags = (e : ℕ) → e < n → e < length flags → at flags e ≡ p e

module _ (p : ℕ → Bool) (k word : ℕ) (old new : List Bool) (same : length new ≡ length old) (is : word ≡ word_of p k)
    (before : (e : ℕ) → e < 64 * k → at new e ≡ at old e) (here : (i : ℕ) → i < 64 → 64 * k + i < length old → at new (64 * k + i) ≡ is_set word i) where
  here_is : (i e : ℕ) → i < 64 → 64 * k + i ≡ e → e < length new → at new e ≡ p e
  here_is i e low at_e within =
      ap (at new) (sym at_e) ∙ here i low (omega (arith, at_e, within, same)) ∙ ap (λ (w : ℕ). is_set w i) is ∙ set_word p k i low ∙ ap p at_e

  more_by : (e : ℕ) → flags_to p (64 * k) old → e < 64 * (k + 1) → e < length new → (e < 64 * k) ⊎ (64 * k ≤ e) → at new e ≡ p e
  more_by e so_far lt within (inl low) = before e low ∙ so_far e low (omega (arith, within, same))
  more_by e so_far lt within (inr high) = here_is (e - 64 * k) e (omega (arith, lt, high)) (omega (arith, high)) within

  pub flags_more : flags_to p (64 * k) old → flags_to p (64 * (k + 1)) new
  flags_more so_far e lt within = more_by e so_far lt within (cases_lt e (64 * k))

pub all_flags : (p : ℕ → Bool) (n len : ℕ) (flags : List Bool) → length flags ≡ len → len ≤ n → flags_to p n flags → flags ≡ map p (range_with_len 0 len)
all_flags p n len flags count le so_far = fill_by_all p flags len false count (λ e lt. so_far e (omega (arith, lt, le)) (omega (arith, lt, count)))
