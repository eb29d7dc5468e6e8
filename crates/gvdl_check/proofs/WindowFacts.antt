-- Each window begins at most at the last lower end.
use Rattle.std.proofs.Common.{◌≡◌, ℕ, ℤ, pos, negsuc, ◌+◌, ◌*◌, ◌/◌, ◌<◌, ◌≤◌, ◌+ℤ◌, ◌-ℤ◌, ◌≤ℤ◌, unsigned_abs, int_le, Bool, true, false, ◌&&◌, not, ◌==◌, refl, arith, IsTrue}
use Rattle.std.proofs.lemmas.Bool.Decides.{nat_tests}
use Rattle.std.proofs.lemmas.Int.{ints}
use native.Mathlib.Nat.{mul-le-mul_left, mul-le-mul_right}
use Rattle.gvdl_check.specs.Views.{is_window, greatest, window_count}

both : (a b : Bool) → (a && b) ≡ true → (a ≡ true) × (b ≡ true)
both true true e = (refl, refl)
both true false e = absurd cc
both false b e = absurd cc

-- the parts of a sound window
pub record Sound (first last : ℤ) (width step : ℕ) : Type 0 where
  pub wide : 0 < width
  pub steps : 0 < step
  pub rising : first ≤ℤ last
  pub bounded : (last +ℤ pos width) ≤ℤ greatest

not_zero : (n : ℕ) → not (n == 0) ≡ true → 0 < n
not_zero n e = grind (arith, nat_tests)

at_most : (a b : ℤ) → int_le a b ≡ true → a ≤ℤ b
at_most a b e = grind (arith, ints)

pub sound : (first last : ℤ) (width step : ℕ) → IsTrue (is_window first last width step) → Sound first last width step
sound first last width step e =
    let a = both (not (width == 0)) (not (step == 0) && (int_le first last && int_le (last +ℤ pos width) greatest)) e in
    let b = both (not (step == 0)) (int_le first last && int_le (last +ℤ pos width) greatest) a.1 in
    let c = both (int_le first last) (int_le (last +ℤ pos width) greatest) b.1 in
    record { wide = not_zero width a.0; steps = not_zero step b.0; rising = at_most first last c.0; bounded = at_most (last +ℤ pos width) greatest c.1 }

pub steps_within : (d s i : ℕ) → 0 < s → i < d / s + 1 → s * i ≤ d
steps_within d s i some lt =
    let le : i ≤ d / s = omega arith in
    omega (arith, mul-le-mul_left s le)

-- how far a window is from the first
pub offset_within : (first last : ℤ) (step i : ℕ) → 0 < step → i < window_count first last step → step * i ≤ unsigned_abs (last -ℤ first)
offset_within first last step i some lt = steps_within (unsigned_abs (last -ℤ first)) step i some lt

far : (z : ℤ) → pos 0 ≤ℤ z → pos (unsigned_abs z) ≡ z
far (pos n) h = refl
far (negsuc n) h = absurd (omega (arith, ints))

-- a window begins at most at the last lower end, and its offset is the difference of two numbers
pub record Begins (first last : ℤ) (step i : ℕ) : Type 0 where
  pub within : (first +ℤ pos (step * i)) ≤ℤ last
  pub offset : pos (step * i) ≤ℤ (last -ℤ first)
  pub place : i ≤ step * i

pub begins : (first last : ℤ) (width step i : ℕ) → IsTrue (is_window first last width step) → i < window_count first last step → Begins first last step i
begins first last width step i e lt =
    let s = sound first last width step e in
    let rising : first ≤ℤ last = s.rising in
    let le : step * i ≤ unsigned_abs (last -ℤ first) = offset_within first last step i s.steps lt in
    let f : pos (unsigned_abs (last -ℤ first)) ≡ last -ℤ first = far (last -ℤ first) (omega (arith, ints)) in
    let offset : pos (step * i) ≤ℤ (last -ℤ first) = omega (arith, ints) in
    record { within = omega (arith, ints); offset = offset; place = omega (arith, mul-le-mul_right i s.steps) }
