-- Lists of values that rise, each once.
use Rattle.std.specs.Prelude.{◌≡◌, ◌||◌, Bool, true, false, List, [], ◌∷◌, refl}
use Rattle.std.specs.declared.cmp.Ordering.{Ordering}
use Rattle.std.specs.declared.cmp.Ordering.TheVariants.{Less, Equal, Greater}
use Rattle.std.specs.Ordering.{is_eq, ordering_reverse}
use Rattle.std.specs.Cmp.{IsTotalOrder}
use Rattle.std.proofs.Common.{ap, sym, ◌∙◌}
use Rattle.reduce_theory.specs.Evaluated.{has_key}
use Rattle.reduce_theory.specs.ByKey.{Distinct}
use Rattle.aggregate_views.specs.Rows.{placed_by, placed, rising}
use Rattle.aggregate_views.specs.Coding.{Above, Rises}

or_again : (a b : Bool) → b || a ≡ b || (b || a)
or_again a true = refl
or_again a false = refl

or_swapped : (a b c : Bool) → a || (b || c) ≡ b || (a || c)
or_swapped true true c = refl
or_swapped true false c = refl
or_swapped false b c = refl

module _ {A : Type 0} (order : A → A → Ordering) (total : IsTotalOrder order) (same : (x y : A) → order x y ≡ Equal → x ≡ y) where
  turned_less : (x y : A) → order x y ≡ Greater → order y x ≡ Less
  turned_less x y h = total.antisymm y x ∙ ap ordering_reverse h

  above_all : (x y : A) (ys : List A) → order x y ≡ Less → Above order y ys → Above order x ys
  above_all x y [] h a = tt
  above_all x y (z ∷ zs) h a = (total.trans x y z h a.0, above_all x y zs h a.1)

  above_by : (y x z : A) (zs : List A) (r : Ordering) → order y x ≡ Less → order y z ≡ Less → Above order y zs → Above order y (placed order x zs) → Above order y (placed_by r x z zs (placed order x zs))
  above_by y x z zs Less h k a b = (h, (k, a))
  above_by y x z zs Equal h k a b = (k, a)
  above_by y x z zs Greater h k a b = (k, b)

  above_placed : (y x : A) (zs : List A) → order y x ≡ Less → Above order y zs → Above order y (placed order x zs)
  above_placed y x [] h a = (h, tt)
  above_placed y x (z ∷ zs) h a = above_by y x z zs (order x z) h a.0 a.1 (above_placed y x zs h a.1)

  rises_by : (x y : A) (ys : List A) (r : Ordering) → order x y ≡ r → Above order y ys → Rises order ys → Rises order (placed order x ys) → Rises order (placed_by r x y ys (placed order x ys))
  rises_by x y ys Less h a b c = ((h, above_all x y ys h a), (a, b))
  rises_by x y ys Equal h a b c = (a, b)
  rises_by x y ys Greater h a b c = (above_placed y x ys (turned_less x y h) a, c)

  rises_placed : (x : A) (ys : List A) → Rises order ys → Rises order (placed order x ys)
  rises_placed x [] r = (tt, tt)
  rises_placed x (y ∷ ys) r = rises_by x y ys (order x y) refl r.0 r.1 (rises_placed x ys r.1)

  pub rises_rising : (xs : List A) → Rises order (rising order xs)
  rises_rising [] = tt
  rises_rising (x ∷ xs) = rises_placed x (rising order xs) (rises_rising xs)

  -- what is above all of a list is not in it
  missing : (x : A) (ys : List A) → Above order x ys → has_key order x ys ≡ false
  missing x [] a = refl
  missing x (y ∷ ys) a = ap (λ r. is_eq r || has_key order x ys) (total.antisymm y x ∙ ap ordering_reverse a.0) ∙ missing x ys a.1

  pub distinct_rises : (xs : List A) → Rises order xs → Distinct order xs
  distinct_rises [] r = tt
  distinct_rises (x ∷ xs) r = (missing x xs r.0, distinct_rises xs r.1)

  has_by : (k x y : A) (ys : List A) (r : Ordering) → order x y ≡ r → has_key order k (placed order x ys) ≡ is_eq (order x k) || has_key order k ys → has_key order k (placed_by r x y ys (placed order x ys)) ≡ is_eq (order x k) || (is_eq (order y k) || has_key order k ys)
  has_by k x y ys Less h go = refl
  has_by k x y ys Equal h go = or_again (has_key order k ys) (is_eq (order y k)) ∙ ap (λ v. is_eq (order v k) || (is_eq (order y k) || has_key order k ys)) (sym (same x y h))
  has_by k x y ys Greater h go = ap (λ v. is_eq (order y k) || v) go ∙ or_swapped (is_eq (order y k)) (is_eq (order x k)) (has_key order k ys)

  has_placed : (k x : A) (ys : List A) → has_key order k (placed order x ys) ≡ is_eq (order x k) || has_key order k ys
  has_placed k x [] = refl
  has_placed k x (y ∷ ys) = has_by k x y ys (order x y) refl (has_placed k x ys)

  -- the rising list has what the list has
  pub has_rising : (k : A) (xs : List A) → has_key order k (rising order xs) ≡ has_key order k xs
  has_rising k [] = refl
  has_rising k (x ∷ xs) = has_placed k x (rising order xs) ∙ ap (λ v. is_eq (order x k) || v) (has_rising k xs)

-- ---- in two orders that agree

-- what stands in the one list stands for what stands in the other
pub data Stand {A B : Type 0} (R : A → B → Type 0) : List A → List B → Type 0 where
  nothing : Stand R [] []
  more : (x : A) (y : B) (xs : List A) (ys : List B) → R x y → Stand R xs ys → Stand R (x ∷ xs) (y ∷ ys)
