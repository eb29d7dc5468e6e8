-- One item more of a list that is walked along.
use Rattle.std.specs.Prelude.{◌≡◌, ℕ, ◌+◌, ◌%◌, ◌^◌, ◌<◌, List, ◌∷◌, ◌++◌, length, get_or, drop, if◌then◌else◌}
use Rattle.std.specs.declared.cmp.Ordering.{Ordering}
use Rattle.std.specs.Ordering.{is_eq}
use Rattle.std.proofs.Common.{arith, ap, sym, subst, ◌∙◌, append_assoc}
use Rattle.std.proofs.lemmas.List.{drop_more}
use Rattle.weighted.specs.Words.{sum_at}
use Rattle.flow_core.specs.Runs.{Every}

module _ {A : Type 0} (xs : List A) (i : ℕ) (x d : A) (low : i < length xs) (is : x ≡ get_or xs i d) where
  pub front : drop i xs ≡ x ∷ drop (i + 1) xs
  front = drop_more xs i d low ∙ ap (λ v. v ∷ drop (i + 1) xs) (sym is)

  pub front_holds : (P : A → Type 0) → Every P (drop i xs) → P x
  front_holds P h = let k : Every P (x ∷ drop (i + 1) xs) = subst (Every P) front h in k.0

  pub rest_holds : (P : A → Type 0) → Every P (drop i xs) → Every P (drop (i + 1) xs)
  rest_holds P h = let k : Every P (x ∷ drop (i + 1) xs) = subst (Every P) front h in k.1

  pub whole_holds : (P : A → Type 0) → P x → Every P (drop (i + 1) xs) → Every P (drop i xs)
  whole_holds P p h = subst (Every P) (sym front) (p, h)

  -- what a function of a list makes of its front and of the rest, one part after another
  pub one_more : {B : Type 0} (f : List A → List B) (part : List B) → f (x ∷ drop (i + 1) xs) ≡ part ++ f (drop (i + 1) xs) → (done all : List B) → done ++ f (drop i xs) ≡ all → (done ++ part) ++ f (drop (i + 1) xs) ≡ all
  one_more f part step done all h = append_assoc done part (f (drop (i + 1) xs)) ∙ ap (λ v. done ++ v) (sym step) ∙ ap (λ v. done ++ f v) (sym front) ∙ h

-- one weight more in a sum
pub weight_taken : {R : Type 0} (cmp : R → R → Ordering) (words : List (R × ℕ)) (i : ℕ) (x d : R × ℕ) (wanted : R) (sum new all : ℕ) → i < length words → x ≡ get_or words i d → new ≡ (sum + (if is_eq (cmp x.0 wanted) then x.1 else 0)) % 2 ^ 64 → (sum + sum_at cmp (drop i words) wanted) % 2 ^ 64 ≡ all → (new + sum_at cmp (drop (i + 1) words) wanted) % 2 ^ 64 ≡ all
weight_taken cmp words i x d wanted sum new all low is step h =
    let seen : sum_at cmp (drop i words) wanted ≡ (if is_eq (cmp x.0 wanted) then x.1 else 0) + sum_at cmp (drop (i + 1) words) wanted = ap (λ v. sum_at cmp v wanted) (front words i x d low is) in
    regroup sum (if is_eq (cmp x.0 wanted) then x.1 else 0) (sum_at cmp (drop (i + 1) words) wanted) (sum_at cmp (drop i words) wanted) new all seen step h where
      regroup : (s a n m k t : ℕ) → m ≡ a + n → k ≡ (s + a) % 2 ^ 64 → (s + m) % 2 ^ 64 ≡ t → (k + n) % 2 ^ 64 ≡ t
      regroup s a n m k t e f h = omega (arith, e, f, h)
