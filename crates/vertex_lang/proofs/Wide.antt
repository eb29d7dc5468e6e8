-- Numbers of 64 bits, computed with in 128.
use Rattle.std.proofs.Common.{◌≡◌, ◌∙◌, ◌+◌, ◌*◌, ◌<◌, ◌≤◌, ℕ, suc, ℤ, pos, negsuc, ◌+ℤ◌, neg_ℤ, ◌≤ℤ◌, FitsSigned, w64, ap, subst, arith, lit<}
use Rattle.std.specs.Prelude.{◌*ℤ◌, unsigned_abs}
use Rattle.std.specs.Int.{w128, cast_signed, cast_unsigned}
use Rattle.std.proofs.Math.Nat.{mul-le-mul_left}
use Rattle.std.proofs.lemmas.Int.{ints, to_z-of_z, fits_signed_from_abs, fits_signed_mul, unsigned_abs-mul}
use Rattle.graph_model.specs.declared.value.Val.{Val}
use Rattle.vertex_lang.specs.declared.mail.Mail.{Mail}
use Rattle.vertex_lang.specs.Mail.{IsBounded}

-- ---- sizes

abs_small : (z : ℤ) → FitsSigned w64 z → unsigned_abs z ≤ 9_223_372_036_854_775_808
abs_small (pos n) f = let h : n < 9_223_372_036_854_775_808 = f.sfits in omega (arith, h)
abs_small (negsuc n) f = let h : n < 9_223_372_036_854_775_808 = f.sfits in omega (arith, h)

from_small : (z : ℤ) → unsigned_abs z ≤ 9_223_372_036_854_775_808 → FitsSigned w128 z
from_small z h = fits_signed_from_abs w128 z (omega (arith, h))

pub wide : (z : ℤ) → FitsSigned w64 z → FitsSigned w128 z
wide z f = from_small z (abs_small z f)

within_abs : (z : ℤ) (k : ℕ) → unsigned_abs z ≤ k → (neg_ℤ (pos k) ≤ℤ z) × (z ≤ℤ pos k)
within_abs (pos n) k h = let g : n ≤ k = h in (omega (arith, ints, g), omega (arith, ints, g))
within_abs (negsuc n) k h = let g : suc n ≤ k = h in (omega (arith, ints, g), omega (arith, ints, g))

abs_within : (z : ℤ) (k : ℕ) → neg_ℤ (pos k) ≤ℤ z → z ≤ℤ pos k → unsigned_abs z ≤ k
abs_within (pos n) k l h = omega (arith, ints, l, h)
abs_within (negsuc n) k l h = omega (arith, ints, l, h)

-- ---- what the code's operations give

-- through 128 bits and back
abbrev pub kept : ℤ → ℤ
kept z = cast_signed w128 (cast_unsigned w128 z)

pub from_64 : (x a : ℤ) → FitsSigned w64 a → x ≡ cast_signed w64 (cast_unsigned w64 a) → x ≡ a
from_64 x a f e = e ∙ to_z-of_z w64 a f

product_fits : (a b : ℤ) → FitsSigned w64 a → FitsSigned w64 b → FitsSigned w128 (a *ℤ b)
product_fits a b f g = fits_signed_mul w128 a b 9_223_372_036_854_775_808 9_223_372_036_854_775_808 (abs_small a f) (abs_small b g) (lit< tt)

pub product_is : (a b : ℤ) → FitsSigned w64 a → FitsSigned w64 b → kept (kept a *ℤ kept b) ≡ a *ℤ b
product_is a b f g =
    ap (λ (z : ℤ). kept (z *ℤ kept b)) (to_z-of_z w128 a (wide a f))
    ∙ ap (λ (z : ℤ). kept (a *ℤ z)) (to_z-of_z w128 b (wide b g))
    ∙ to_z-of_z w128 (a *ℤ b) (product_fits a b f g)

-- ---- sums of messages

many_small : (z : ℤ) (n : ℕ) → FitsSigned w64 z → unsigned_abs (z *ℤ pos n) ≤ 9_223_372_036_854_775_808 * n
many_small z n f = omega (arith, unsigned_abs-mul z (pos n), mul-le-mul_left n (abs_small z f))

sum_low : (t p : ℤ) (m n : ℕ) → neg_ℤ (pos (9_223_372_036_854_775_808 * m)) ≤ℤ t → neg_ℤ (pos (9_223_372_036_854_775_808 * n)) ≤ℤ p → neg_ℤ (pos (9_223_372_036_854_775_808 * (m + n))) ≤ℤ (t +ℤ p)
sum_low t p m n h k = omega (arith, ints, h, k)

sum_high : (t p : ℤ) (m n : ℕ) → t ≤ℤ pos (9_223_372_036_854_775_808 * m) → p ≤ℤ pos (9_223_372_036_854_775_808 * n) → (t +ℤ p) ≤ℤ pos (9_223_372_036_854_775_808 * (m + n))
sum_high t p m n h k = omega (arith, ints, h, k)

bound_fits : (z : ℤ) (n : ℕ) → n < 4_294_967_296 → neg_ℤ (pos (9_223_372_036_854_775_808 * n)) ≤ℤ z → z ≤ℤ pos (9_223_372_036_854_775_808 * n) → FitsSigned w128 z
bound_fits z n low h k = fits_signed_from_abs w128 z (omega (arith, low, abs_within z (9_223_372_036_854_775_808 * n) h k))

module _ (mail : Mail) (z : ℤ) (n : ℕ) (bounded : IsBounded mail) (fits : FitsSigned w64 z) (room : mail.count + n < 4_294_967_296) where
  part : (neg_ℤ (pos (9_223_372_036_854_775_808 * n)) ≤ℤ (z *ℤ pos n)) × ((z *ℤ pos n) ≤ℤ pos (9_223_372_036_854_775_808 * n))
  part = within_abs (z *ℤ pos n) (9_223_372_036_854_775_808 * n) (many_small z n fits)

  part_fits : FitsSigned w128 (z *ℤ pos n)
  part_fits = bound_fits (z *ℤ pos n) n (omega (arith, room)) part.0 part.1

  times_fits : FitsSigned w128 (pos n)
  times_fits = fits_signed_from_abs w128 (pos n) (omega (arith, room))

  sum_fits : FitsSigned w128 (mail.total +ℤ (z *ℤ pos n))
  sum_fits = bound_fits (mail.total +ℤ (z *ℤ pos n)) (mail.count + n) room (sum_low mail.total (z *ℤ pos n) mail.count n bounded.low part.0) (sum_high mail.total (z *ℤ pos n) mail.count n bounded.high part.1)

  -- the code's sum
  pub many_is : (x y : ℤ) → x ≡ z → y ≡ pos n → kept (kept mail.total +ℤ kept (kept x *ℤ kept y)) ≡ mail.total +ℤ (z *ℤ pos n)
  many_is x y e f =
      ap (λ (k : ℤ). kept (kept mail.total +ℤ kept (kept k *ℤ kept y))) e
      ∙ ap (λ (k : ℤ). kept (kept mail.total +ℤ kept (kept z *ℤ kept k))) f
      ∙ ap (λ (k : ℤ). kept (k +ℤ kept (kept z *ℤ kept (pos n)))) (to_z-of_z w128 mail.total (bound_fits mail.total mail.count (omega (arith, room)) bounded.low bounded.high))
      ∙ ap (λ (k : ℤ). kept (mail.total +ℤ kept (k *ℤ kept (pos n)))) (to_z-of_z w128 z (wide z fits))
      ∙ ap (λ (k : ℤ). kept (mail.total +ℤ kept (z *ℤ k))) (to_z-of_z w128 (pos n) times_fits)
      ∙ ap (λ (k : ℤ). kept (mail.total +ℤ k)) (to_z-of_z w128 (z *ℤ pos n) part_fits)
      ∙ to_z-of_z w128 (mail.total +ℤ (z *ℤ pos n)) sum_fits

  pub many_low : neg_ℤ (pos (9_223_372_036_854_775_808 * (mail.count + n))) ≤ℤ (mail.total +ℤ (z *ℤ pos n))
  many_low = sum_low mail.total (z *ℤ pos n) mail.count n bounded.low part.0

  pub many_high : (mail.total +ℤ (z *ℤ pos n)) ≤ℤ pos (9_223_372_036_854_775_808 * (mail.count + n))
  many_high = sum_high mail.total (z *ℤ pos n) mail.count n bounded.high part.1

pub bounded_from : (x : Val) (t t' : ℤ) (n : ℕ) → t' ≡ t → neg_ℤ (pos (9_223_372_036_854_775_808 * n)) ≤ℤ t' → t' ≤ℤ pos (9_223_372_036_854_775_808 * n) → IsBounded (record { extreme = x; total = t; count = n })
bounded_from x t t' n e h k = subst (λ (s : ℤ). IsBounded (record { extreme = x; total = s; count = n })) e (record { low = h; high = k })
