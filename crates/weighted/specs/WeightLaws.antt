-- The laws of weights, a ring: what adding, negating and multiplying modulo 2^64 obey.
use Rattle.std.specs.Prelude.{◌≡◌, ℕ, ◌+◌, ◌*◌, ◌%◌, ◌^◌, ◌<◌, refl}
use Rattle.std.proofs.Common.{arith, ap, sym, ◌∙◌}
use Rattle.weighted.specs.Words.{minus}
use Rattle.weighted.specs.WordLaws.{cong_add, cong_mul}

pub plus_comm : (a b : ℕ) → (a + b) % 2 ^ 64 ≡ (b + a) % 2 ^ 64
plus_comm a b = ap (λ n. n % 2 ^ 64) (omega arith)

pub plus_assoc : (a b c : ℕ) → ((a + b) % 2 ^ 64 + c) % 2 ^ 64 ≡ (a + (b + c) % 2 ^ 64) % 2 ^ 64
plus_assoc a b c = omega arith

pub plus_zero : (a : ℕ) → a < 2 ^ 64 → (a + 0) % 2 ^ 64 ≡ a
plus_zero a low = omega arith

pub plus_minus : (a : ℕ) → (a + minus a) % 2 ^ 64 ≡ 0
plus_minus a = omega arith

-- two words that give zero with one word are the same
pub minus_only : (a b c : ℕ) → (a + b) % 2 ^ 64 ≡ 0 → (a + c) % 2 ^ 64 ≡ 0 → b % 2 ^ 64 ≡ c % 2 ^ 64
minus_only a b c h k = omega arith

pub minus-minus : (a : ℕ) → a < 2 ^ 64 → minus (minus a) ≡ a
minus-minus a low = omega arith

pub minus-plus : (a b : ℕ) → minus ((a + b) % 2 ^ 64) ≡ (minus a + minus b) % 2 ^ 64
minus-plus a b = omega arith

wrapped_once : (a : ℕ) → a % 2 ^ 64 % 2 ^ 64 ≡ a % 2 ^ 64
wrapped_once a = omega arith

pub times_comm : (a b : ℕ) → (a * b) % 2 ^ 64 ≡ (b * a) % 2 ^ 64
times_comm a b = ap (λ n. n % 2 ^ 64) (omega arith)

pub times_assoc : (a b c : ℕ) → ((a * b) % 2 ^ 64 * c) % 2 ^ 64 ≡ (a * ((b * c) % 2 ^ 64)) % 2 ^ 64
times_assoc a b c =
    times_comm ((a * b) % 2 ^ 64) c
    ∙ cong_mul c ((a * b) % 2 ^ 64) (a * b) (wrapped_once (a * b))
    ∙ ap (λ n. n % 2 ^ 64) (omega arith)
    ∙ sym (cong_mul a ((b * c) % 2 ^ 64) (b * c) (wrapped_once (b * c)))

pub times_one : (a : ℕ) → a < 2 ^ 64 → (a * 1) % 2 ^ 64 ≡ a
times_one a low = omega arith

pub times_plus : (a b c : ℕ) → (a * ((b + c) % 2 ^ 64)) % 2 ^ 64 ≡ ((a * b) % 2 ^ 64 + (a * c) % 2 ^ 64) % 2 ^ 64
times_plus a b c =
    cong_mul a ((b + c) % 2 ^ 64) (b + c) (wrapped_once (b + c))
    ∙ ap (λ n. n % 2 ^ 64) (omega arith)
    ∙ sym (cong_add ((a * b) % 2 ^ 64) (a * b) ((a * c) % 2 ^ 64) (a * c) (wrapped_once (a * b)) (wrapped_once (a * c)))

pub times_minus : (a b : ℕ) → (a * minus b) % 2 ^ 64 ≡ minus ((a * b) % 2 ^ 64)
times_minus a b = minus_only (a * b) (a * minus b) (minus ((a * b) % 2 ^ 64)) (ap (λ n. n % 2 ^ 64) (both a b (minus b)) ∙ cong_mul a (b + minus b) 0 (plus_minus b ∙ refl) ∙ ap (λ n. n % 2 ^ 64) (none a)) (cancelled (a * b)) ∙ small (a * b) where
  both : (a b c : ℕ) → a * b + a * c ≡ a * (b + c)
  both a b c = omega arith

  none : (a : ℕ) → a * 0 ≡ 0
  none a = omega arith

  cancelled : (n : ℕ) → (n + minus (n % 2 ^ 64)) % 2 ^ 64 ≡ 0
  cancelled n = omega arith

  small : (n : ℕ) → minus (n % 2 ^ 64) % 2 ^ 64 ≡ minus (n % 2 ^ 64)
  small n = omega arith
