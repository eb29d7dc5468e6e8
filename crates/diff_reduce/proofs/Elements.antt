-- The elements of a list, in both spellings.
use Rattle.std.proofs.Common.{◌≡◌, ◌∙◌, ℕ, zero, suc, ◌+◌, ◌<◌, List, [], ◌∷◌, ◌++◌, length, take, get_or, arith, ap, sym, subst, inl, inr}
use Rattle.std.specs.Prelude.{◌⊎◌}
use Rattle.std.proofs.lemmas.List.{take_more}
use Rattle.std.specs.List.{Contains}
use Rattle.std.proofs.lemmas.List.Elements.{Contains-append_left, Contains-append_right, Contains-append_cases, Contains-push, Contains-push_cases}
use Rattle.flow_core.specs.Runs.{Member}

first_is_in : {A : Type 0} (x : A) (xs : List A) → Contains (x ∷ xs) x
first_is_in x xs = Contains-append_left (x ∷ []) xs x (Contains-push [] x)

rest_is_in : {A : Type 0} (x y : A) (xs : List A) → Contains xs y → Contains (x ∷ xs) y
rest_is_in x y xs h = Contains-append_right (x ∷ []) xs y h

in_first_or_rest : {A : Type 0} (x y : A) (xs : List A) → Contains (x ∷ xs) y → (x ≡ y) ⊎ Contains xs y
in_first_or_rest x y xs h = elim (Contains-append_cases (x ∷ []) xs y h) [
  | inl one ↦ inl (only x y one)
  | inr more ↦ inr more
] where
  only : {A : Type 0} (x y : A) → Contains (x ∷ []) y → x ≡ y
  only x y (zero, low, is) = is
  only x y (suc k, low, is) = absurd (omega arith)

pub contains_member : {A : Type 0} (xs : List A) (x : A) → Contains xs x → Member x xs
contains_member [] x (k, low, is) = absurd (omega arith)
contains_member (y ∷ xs) x h = elim (in_first_or_rest y x xs h) [ inl e ↦ inl (sym e) | inr m ↦ inr (contains_member xs x m) ]

pub member_contains : {A : Type 0} (xs : List A) (x : A) → Member x xs → Contains xs x
member_contains [] x m = absurd m
member_contains (y ∷ xs) x (inl e) = subst (λ v. Contains (y ∷ xs) v) (sym e) (first_is_in y xs)
member_contains (y ∷ xs) x (inr m) = rest_is_in y x xs (member_contains xs x m)

-- each element of one list is in another, or in one of two
abbrev pub AreIn : {A : Type 0} → List A → List A → Type 0
AreIn {A} xs ys = (x : A) → Contains xs x → Contains ys x

abbrev pub AreOf : {A : Type 0} → List A → List A → List A → Type 0
AreOf {A} xs ys zs = (x : A) → Contains xs x → Contains ys x ⊎ Contains zs x

-- one more of those that were put in
module _ {A : Type 0} (more : List A) (i : ℕ) (e : A) (low : i < length more) (at : e ≡ get_or more i e) where
  one : take (i + 1) more ≡ take i more ++ e ∷ []
  one = take_more more i e low ∙ ap (λ v. take i more ++ v ∷ []) (sym at)

  pub put_in : (held new : List A) → AreIn (take i more) held → AreIn held new → Contains new e → AreIn (take (i + 1) more) new
  put_in held new h kept put x m = elim (Contains-push_cases (take i more) e x (subst (λ v. Contains v x) one m)) [ inl o ↦ kept x (h x o) | inr p ↦ subst (λ v. Contains new v) p put ]

  pub put_only : (start held new : List A) → AreOf held start (take i more) → ((x : A) → Contains new x → Contains held x ⊎ (e ≡ x)) → AreOf new start (take (i + 1) more)
  put_only start held new h only x m = elim (only x m) [
    | inl o ↦ elim (h x o) [ inl s ↦ inl s | inr t ↦ inr (subst (λ v. Contains v x) (sym one) (Contains-append_left (take i more) (e ∷ []) x t)) ]
    | inr p ↦ inr (subst (λ v. Contains v x) (sym one) (subst (λ v. Contains (take i more ++ e ∷ []) v) p (Contains-push (take i more) e)))
  ]
