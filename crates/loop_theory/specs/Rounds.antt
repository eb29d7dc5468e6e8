-- Laws of rounds: sums of the first so many, and changes from round to round.
use Rattle.std.specs.Prelude.{◌≡◌, ℕ, ◌+◌, ◌%◌, ◌^◌, ◌≤◌, List, [], ◌∷◌, ◌++◌, length, refl}
use Rattle.std.proofs.Common.{arith, ap, sym, ◌∙◌, zero, suc, append_assoc, append-nil}
use Rattle.weighted.specs.Words.{minus}
use Rattle.weighted.specs.WordLaws.{total, mapped-append}
use Rattle.weighted.specs.Alike.{Alike, Alike-is, Alike-trans, Alike-append, Alike-swap, Alike-mapped, Alike-negated, total-append, negated, negated-total}
use Rattle.loop_theory.specs.Loops.{in_round, at_round, changes, first_of}

-- ---- collections

pub negated-append : {R : Type 0} (xs ys : List (R × ℕ)) → negated (xs ++ ys) ≡ negated xs ++ negated ys
negated-append [] ys = refl
negated-append (e ∷ xs) ys = ap (λ v. (e.0, minus e.1) ∷ v) (negated-append xs ys)

-- numbers that cancel modulo 2^64
less_before : (a b c : ℕ) → (a + c) % 2 ^ 64 ≡ 0 → ((a + b) + c) % 2 ^ 64 ≡ b % 2 ^ 64
less_before a b c h = omega arith

less_after : (v m c n : ℕ) → (v + c) % 2 ^ 64 ≡ 0 → (v + ((m + c) + n)) % 2 ^ 64 ≡ (m + n) % 2 ^ 64
less_after v m c n h = omega arith

-- what was added is what is there less what was there
pub Alike-grown : {R : Type 0} (xs ys : List (R × ℕ)) → Alike ((xs ++ ys) ++ negated xs) ys
Alike-grown xs ys = record { totals = λ g. rw (total-append g (xs ++ ys) (negated xs), total-append g xs ys) (less_before (total g xs) (total g ys) (total g (negated xs)) (negated-total g xs)) }

-- a collection and what takes it away
pub Alike-regained : {R : Type 0} (v m n : List (R × ℕ)) → Alike (v ++ ((m ++ negated v) ++ n)) (m ++ n)
Alike-regained v m n = record { totals = λ g. rw (total-append g v ((m ++ negated v) ++ n), total-append g (m ++ negated v) n, total-append g m (negated v), total-append g m n) (less_after (total g v) (total g m) (total g (negated v)) (total g n) (negated-total g v)) }

-- ---- sums of the first so many rounds

module _ {E R : Type 0} (part : E → List (R × ℕ)) where
  pub first_old : (n : ℕ) (es more : List E) → n ≤ length es → first_of part n (es ++ more) ≡ first_of part n es
  first_old zero es more h = refl
  first_old (suc n) [] more h = absurd (omega arith)
  first_old (suc n) (e ∷ es) more h = ap (λ v. part e ++ v) (first_old n es more (omega arith))

  pub first_more : (n : ℕ) (es : List E) (e : E) → length es ≡ n → first_of part (suc n) (es ++ e ∷ []) ≡ first_of part n es ++ part e
  first_more zero [] e h = append-nil (part e)
  first_more zero (x ∷ es) e h = absurd (omega arith)
  first_more (suc n) [] e h = absurd (omega arith)
  first_more (suc n) (x ∷ es) e h = ap (λ v. part x ++ v) (first_more n es e (omega arith)) ∙ sym (append_assoc (part x) (first_of part n es) (part e))

-- ---- changes from round to round

module _ {X : Type 0} where
  pub changes_same : (come go : ℕ → List (X × ℕ)) (n : ℕ) → ((q : ℕ) → q ≤ n → Alike (come q) (go q)) → Alike (changes come n) (changes go n)
  changes_same come go zero f = Alike-mapped (in_round {X = X} 0) (come 0) (go 0) (f 0 (omega arith))
  changes_same come go (suc n) f =
      Alike-append (changes_same come go n (λ q low. f q (omega arith)))
      (Alike-mapped (in_round {X = X} (suc n)) (come (suc n) ++ negated (come n)) (go (suc n) ++ negated (go n)) (Alike-append (f (suc n) (omega arith)) (Alike-negated (come n) (go n) (f n (omega arith)))))

  one_sum : (n : ℕ) (a b c d : List (X × ℕ)) → Alike (at_round n (a ++ negated b) ++ at_round n (c ++ negated d)) (at_round n ((a ++ c) ++ negated (b ++ d)))
  one_sum n a b c d =
      let both : Alike ((a ++ negated b) ++ (c ++ negated d)) ((a ++ c) ++ negated (b ++ d)) = rw (negated-append b d) (Alike-swap a (negated b) c (negated d)) in
      Alike-trans (Alike-is (sym (mapped-append (in_round {X = X} n) (a ++ negated b) (c ++ negated d)))) (Alike-mapped (in_round {X = X} n) ((a ++ negated b) ++ (c ++ negated d)) ((a ++ c) ++ negated (b ++ d)) both)

  pub changes_sum : (come go : ℕ → List (X × ℕ)) (n : ℕ) → Alike (changes come n ++ changes go n) (changes (λ q. come q ++ go q) n)
  changes_sum come go zero = Alike-is (sym (mapped-append (in_round {X = X} 0) (come 0) (go 0)))
  changes_sum come go (suc n) =
      Alike-trans (Alike-swap (changes come n) (at_round (suc n) (come (suc n) ++ negated (come n))) (changes go n) (at_round (suc n) (go (suc n) ++ negated (go n))))
      (Alike-append (changes_sum come go n) (one_sum (suc n) (come (suc n)) (come n) (go (suc n)) (go n)))

  pub changes_none : (n : ℕ) → changes {X = X} (λ q. []) n ≡ []
  changes_none zero = refl
  changes_none (suc n) = ap (λ v. v ++ []) (changes_none n)
