-- What the elements weigh that a test of numbers picks, and what remains where one number is taken out.
use Rattle.std.specs.Prelude.{◌≡◌, ◌⊎◌, ℕ, ◌+◌, ◌≤◌, ◌==◌, Bool, true, false, not, ◌&&◌, cond, List, [], ◌∷◌, Contains, length, sum_by, refl}
use Rattle.std.proofs.Common.{arith, ap, subst, ◌∙◌, inl, inr}
use Rattle.std.proofs.lemmas.Bool.{eq-eqb, ne_eqb, and_from, cond-true, cond-false}
use Rattle.std.proofs.Math.Bool.{and-false}
use Rattle.std.proofs.lemmas.List.Sums.{sum_by-cons}
use Rattle.std.proofs.lemmas.List.Elements.{Contains-append_right, Contains-append_cases, Contains-push_cases}

-- ---- members of a list

pub contains-here : {A : Type 0} (x : A) (xs : List A) → Contains (x ∷ xs) x
contains-here x xs = (0, omega arith, refl)

pub contains-there : {A : Type 0} (y : A) (xs : List A) (x : A) → Contains xs x → Contains (y ∷ xs) x
contains-there y xs x h = Contains-append_right (y ∷ []) xs x h

pub contains-none : {A : Type 0} (x : A) → Contains [] x → ⊥
contains-none x h = let low = h.1 in omega arith

pub contains-cases : {A : Type 0} (y : A) (xs : List A) (x : A) → Contains (y ∷ xs) x → (y ≡ x) ⊎ Contains xs x
contains-cases y xs x h = elim (Contains-append_cases (y ∷ []) xs x h) [
  | inl first ↦ elim (Contains-push_cases [] y x first) [ inl never ↦ absurd (contains-none x never) | inr e ↦ inl e ]
  | inr later ↦ inr later
]

-- ---- a test of numbers

-- the numbers that pass it, but not this one
abbrev pub without : ℕ → (ℕ → Bool) → ℕ → Bool
without u test v = test v && not (v == u)

abbrev pub everything : ℕ → Bool
everything v = true

pub still-in : (u : ℕ) (test : ℕ → Bool) (v : ℕ) → test v ≡ true → (v ≡ u → ⊥) → without u test v ≡ true
still-in u test v h other = and_from (test v) (not (v == u)) h (ap not (ne_eqb v u other))

pub taken-out : (u : ℕ) (test : ℕ → Bool) → without u test u ≡ false
taken-out u test = ap (λ (b : Bool). test u && not b) (eq-eqb u u refl) ∙ and-false (test u)

-- ---- weights

module _ {A : Type 0} (number : A → ℕ) (weight : A → ℕ) where
  -- what an element weighs where its number passes
  abbrev pub counted : (ℕ → Bool) → A → ℕ
  counted test x = cond (test (number x)) (weight x) 0

  -- what all those weigh whose numbers pass
  abbrev pub weigh : (ℕ → Bool) → List A → ℕ
  weigh test xs = sum_by (counted test) xs

  no-more : (b c : Bool) (n : ℕ) → cond (b && c) n 0 ≤ cond b n 0
  no-more true true n = omega arith
  no-more true false n = omega arith
  no-more false c n = omega arith

  pub weigh-without : (u : ℕ) (test : ℕ → Bool) (xs : List A) → weigh (without u test) xs ≤ weigh test xs
  weigh-without u test [] = omega arith
  weigh-without u test (x ∷ xs) = omega (arith, weigh-without u test xs, no-more (test (number x)) (not (number x == u)) (weight x), sum_by-cons (counted (without u test)) x xs, sum_by-cons (counted test) x xs)

  -- without one of them it is less by its weight
  at-first : (x : A) (xs : List A) (test : ℕ → Bool) → test (number x) ≡ true → weigh (without (number x) test) (x ∷ xs) + weight x ≤ weigh test (x ∷ xs)
  at-first x xs test h =
      let out : counted (without (number x) test) x ≡ 0 = cond-false _ (weight x) 0 (taken-out (number x) test) in
      let in_ : counted test x ≡ weight x = cond-true _ (weight x) 0 h in
      omega (arith, out, in_, weigh-without (number x) test xs, sum_by-cons (counted (without (number x) test)) x xs, sum_by-cons (counted test) x xs)

  pub weigh-less : (x : A) (xs : List A) (test : ℕ → Bool) → Contains xs x → test (number x) ≡ true → weigh (without (number x) test) xs + weight x ≤ weigh test xs
  weigh-less x [] test c h = absurd (contains-none x c)
  weigh-less x (y ∷ xs) test c h = elim (contains-cases y xs x c) [
    | inl e ↦ subst (λ (z : A). weigh (without (number z) test) (y ∷ xs) + weight z ≤ weigh test (y ∷ xs)) e (at-first y xs test (ap (λ (z : A). test (number z)) e ∙ h))
    | inr later ↦ omega (arith, weigh-less x xs test later h, no-more (test (number y)) (not (number y == number x)) (weight y), sum_by-cons (counted (without (number x) test)) y xs, sum_by-cons (counted test) y xs)
  ]

  pub weigh-all : (xs : List A) → weigh everything xs ≡ sum_by weight xs
  weigh-all [] = refl
  weigh-all (x ∷ xs) = omega (arith, weigh-all xs, sum_by-cons (counted everything) x xs, sum_by-cons weight x xs)

pub sum-of-ones : {A : Type 0} (xs : List A) → sum_by (λ (x : A). 1) xs ≡ length xs
sum-of-ones [] = refl
sum-of-ones (x ∷ xs) = omega (arith, sum-of-ones xs, sum_by-cons (λ (y : _). 1) x xs)
