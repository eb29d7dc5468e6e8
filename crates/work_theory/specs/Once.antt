-- A list as a collection: each element with weight 1, under the name that a function gives it.
use Rattle.std.specs.Prelude.{◌≡◌, ℕ, ◌+◌, Bool, true, List, [], ◌∷◌, if◌then◌else◌, refl}
use Rattle.std.specs.declared.cmp.Ordering.{Ordering}
use Rattle.std.specs.declared.cmp.Ordering.TheVariants.{Equal}
use Rattle.std.specs.Ordering.{is_eq}
use Rattle.std.specs.Cmp.{Equal-is, both_ways}
use Rattle.std.proofs.Common.{ap, sym, subst, ◌∙◌}
use Rattle.multisets.specs.Multisets.{IsExact, often}
use Rattle.weighted.specs.Words.{sum_at}

abbrev pub once : {A V : Type 0} → (A → V) → List A → List (V × ℕ)
once f [] = []
once f (x ∷ xs) = (f x, 1) ∷ once f xs

-- each value is the name of one element, and each element has one name
pub record IsNaming {A V : Type 0} (of : A → V) (to : V → A) : Type 0 where
  pub back : (x : V) → of (to x) ≡ x
  pub forth : (a : A) → to (of a) ≡ a

module _ {A V : Type 0} (same : A → A → Bool) (exact : IsExact same) (vcmp : V → V → Ordering) (vsame : (x y : V) → vcmp x y ≡ Equal → x ≡ y) (vitself : (x : V) → vcmp x x ≡ Equal) (of : A → V) (to : V → A) (naming : IsNaming of to) where
  same_is : (a b : A) → is_eq (vcmp (of b) (of a)) ≡ same a b
  same_is a b = both_ways (is_eq (vcmp (of b) (of a))) (same a b)
      (λ e.
      let is : of b ≡ of a = vsame (of b) (of a) ((Equal-is (vcmp (of b) (of a))).0 e) in
      let one : a ≡ b = sym (naming.forth a) ∙ ap to (sym is) ∙ naming.forth b in
      subst (λ c. same a c ≡ true) one (exact.itself a))
      (λ e.
      let one : a ≡ b = exact.one a b e in
      subst (λ c. is_eq (vcmp (of c) (of a)) ≡ true) one (ap is_eq (vitself (of a))))

  -- the weights of a name add up to how often its element stands in the list
  pub once_often : (a : A) (xs : List A) → sum_at vcmp (once of xs) (of a) ≡ often same a xs
  once_often a [] = refl
  once_often a (x ∷ xs) = rw (same_is a x) (ap (λ n. (if same a x then 1 else 0) + n) (once_often a xs))
