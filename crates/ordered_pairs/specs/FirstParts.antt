-- The pairs with one first part, taken out of a set of pairs or of a map from them one by one.
use Rattle.std.proofs.Common.{◌≡◌, ◌∙◌, Bool, true, false, List, [], ◌∷◌, map, Ordering, refl, ap, sym, subst}
use Rattle.std.specs.Prelude.{cond, filter}
use Rattle.std.specs.BTreeMap.{is_at}
use Rattle.std.specs.Cmp.{IsTotalOrder}
use Rattle.std.specs.Ordering.{is_eq, is_ne, ordering_then, ordering_reverse}
use Rattle.std.specs.Set.{remove_key}
use Rattle.std.specs.declared.cmp.Ordering.TheVariants.{Less, Equal, Greater}

-- the items of a set or a map with their pairs, and what is read of each: at least its second part
module _ {A B X Y : Type 0} (acmp : A → A → Ordering) (bcmp : B → B → Ordering) (order : IsTotalOrder acmp) (pair : X → A × B) (read : X → Y) (a : A) where
  -- whether an item has the first part
  abbrev pub has_first : X → Bool
  has_first x = is_eq (acmp (pair x).0 a)

  -- whether it has another one
  abbrev pub differs : X → Bool
  differs x = is_ne (acmp (pair x).0 a)

  none_by : (x : X) (xs : List X) (o : Ordering) → map read (cond (is_eq o) (x ∷ filter has_first xs) (filter has_first xs)) ≡ [] → (map read (filter has_first xs) ≡ [] → filter differs xs ≡ xs) → cond (is_ne o) (x ∷ filter differs xs) (filter differs xs) ≡ x ∷ xs
  none_by x xs Less h go = ap (λ v. x ∷ v) (go h)
  none_by x xs Equal h go = absurd (cc)
  none_by x xs Greater h go = ap (λ v. x ∷ v) (go h)

  -- without any of them the others are all
  pub none_left : (xs : List X) → map read (filter has_first xs) ≡ [] → filter differs xs ≡ xs
  none_left [] h = refl
  none_left (x ∷ xs) h = none_by x xs (acmp (pair x).0 a) h (none_left xs)

  module _ (asame : (x y : A) → acmp x y ≡ Equal → x ≡ y) (bitself : (b : B) → bcmp b b ≡ Equal) (second : Y → B) (reads : (x : X) → second (read x) ≡ (pair x).1) (y : Y) (ys : List Y) where
    -- whether an item has this pair
    abbrev at : X → Bool
    at x = is_at (λ (p : A × B). ordering_then (acmp a p.0) (bcmp (second y) p.1)) (pair x)

    -- one of them less
    abbrev IsOneLess : List X → List X → Type 0
    IsOneLess rest xs = (map read (filter has_first rest) ≡ ys) × (filter differs rest ≡ filter differs xs)

    found : (x : X) → acmp (pair x).0 a ≡ Equal → read x ≡ y → at x ≡ true
    found x e q = ap (λ r. is_eq (ordering_then r (bcmp (second y) (pair x).1))) (order.antisymm a (pair x).0 ∙ ap ordering_reverse e) ∙ ap is_eq (subst (λ v. bcmp (second y) v ≡ Equal) (ap second (sym q) ∙ reads x) (bitself (second y)))

    passed : (x : X) (o : Ordering) → acmp (pair x).0 a ≡ o → is_eq o ≡ false → at x ≡ false
    passed x Less e n = ap (λ r. is_eq (ordering_then r (bcmp (second y) (pair x).1))) (order.antisymm a (pair x).0 ∙ ap ordering_reverse e)
    passed x Equal e n = absurd (cc)
    passed x Greater e n = ap (λ r. is_eq (ordering_then r (bcmp (second y) (pair x).1))) (order.antisymm a (pair x).0 ∙ ap ordering_reverse e)

    here : (x : X) (xs rest : List X) (b : Bool) → b ≡ true → acmp (pair x).0 a ≡ Equal → map read (filter has_first xs) ≡ ys → IsOneLess (cond b xs (x ∷ rest)) (x ∷ xs)
    here x xs rest true t e q = (q, sym (ap (λ o. cond (is_ne o) (x ∷ filter differs xs) (filter differs xs)) e))
    here x xs rest false t e q = absurd (cc)

    later : (x : X) (xs rest : List X) (b : Bool) → b ≡ false → is_eq (acmp (pair x).0 a) ≡ false → IsOneLess rest xs → IsOneLess (cond b xs (x ∷ rest)) (x ∷ xs)
    later x xs rest true t n q = absurd (cc)
    later x xs rest false t n q = (ap (λ c. map read (cond c (x ∷ filter has_first rest) (filter has_first rest))) n ∙ q.0, ap (λ v. cond (differs x) (x ∷ v) v) q.1)

    less_by : (x : X) (xs rest : List X) (o : Ordering) → acmp (pair x).0 a ≡ o → map read (cond (is_eq o) (x ∷ filter has_first xs) (filter has_first xs)) ≡ y ∷ ys → (map read (filter has_first xs) ≡ y ∷ ys → IsOneLess rest xs) → IsOneLess (cond (at x) xs (x ∷ rest)) (x ∷ xs)
    less_by x xs rest Less e h go = later x xs rest (at x) (passed x Less e refl) (ap is_eq e) (go h)
    less_by x xs rest Equal e h go = here x xs rest (at x) (found x e (first_of (read x) (map read (filter has_first xs)) h)) e (rest_of (read x) (map read (filter has_first xs)) h) where
      first_of : (z : Y) (zs : List Y) → z ∷ zs ≡ y ∷ ys → z ≡ y
      first_of z zs h = cc

      rest_of : (z : Y) (zs : List Y) → z ∷ zs ≡ y ∷ ys → zs ≡ ys
      rest_of z zs h = cc
    less_by x xs rest Greater e h go = later x xs rest (at x) (passed x Greater e refl) (ap is_eq e) (go h)

    -- without the first of them the others are left, and those with other first parts as they stood
    pub one_less : (xs : List X) → map read (filter (λ x. is_eq (acmp (pair x).0 a)) xs) ≡ y ∷ ys → (map read (filter (λ x. is_eq (acmp (pair x).0 a)) (remove_key (λ x. is_at (λ (p : A × B). ordering_then (acmp a p.0) (bcmp (second y) p.1)) (pair x)) xs)) ≡ ys) × (filter (λ x. is_ne (acmp (pair x).0 a)) (remove_key (λ x. is_at (λ (p : A × B). ordering_then (acmp a p.0) (bcmp (second y) p.1)) (pair x)) xs) ≡ filter (λ x. is_ne (acmp (pair x).0 a)) xs)
    one_less [] h = absurd (cc)
    one_less (x ∷ xs) h = less_by x xs (remove_key at xs) (acmp (pair x).0 a) refl h (one_less xs)
