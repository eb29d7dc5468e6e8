-- The walk comes to each view of the tree once.
use Rattle.std.proofs.Common.{◌≡◌, ◌∙◌, ℕ, zero, suc, ◌+◌, ◌≤◌, ◌==◌, inl, inr, Bool, true, false, if◌then◌else◌, List, [], ◌∷◌, ◌++◌, length, Option, Some, None, refl, sym, ap, subst, arith, append_assoc}
use Rattle.std.specs.Prelude.{IsPermutation}
use Rattle.std.proofs.lemmas.Bool.Decides.{eqb_tells}
use Rattle.std.proofs.lemmas.List.{append-nil}
use Rattle.std.proofs.lemmas.List.Sorted.{IsPermutation-refl, IsPermutation-cons, IsPermutation-trans, IsPermutation-append_comm, IsPermutation-append_left, IsPermutation-append_right}
use Rattle.view_order.specs.Greedy.{nearest, without}
use Rattle.tree_order.specs.Trees.{Branch, closest, is_same, joins, reach, tree, tree_walk, views_of, walk}
use Rattle.tree_order.proofs.Nearest.{IsInside, closest_inside, nearest_among}
use Rattle.tree_order.proofs.Times.{AreOnce, Told, gone, length_without, once_without, one, one_out, still, times, times-append}

-- how often a point is among these
abbrev seen : Option ℕ → List (Option ℕ) → ℕ
seen a [] = 0
seen a (p ∷ ps) = one (is_same a p) + seen a ps

-- each parent is among the points, or is a view before it, once
abbrev Grows : List (Option ℕ) → List Branch → Type 0
Grows points [] = Unit {0}
Grows points (b ∷ bs) = (seen b.parent points ≡ 1) × Grows (Some b.view ∷ points) bs

-- what hangs below these points, one after the other
abbrev below : List (Option ℕ) → List Branch → List Branch
below [] bs = []
below (p ∷ ps) bs = walk p bs ++ below ps bs

-- ---- one branch more

passed_by : (b : Branch) (p : Option ℕ) (bs rest more : List Branch) (r : Bool) → one r + 0 ≡ 0 → rest ≡ more
    → (if r then b ∷ walk (Some b.view) bs ++ walk p bs else walk p bs) ++ rest ≡ walk p bs ++ more
passed_by b p bs rest more true none e = absurd (omega (arith, none))
passed_by b p bs rest more false none e = ap (λ (xs : List Branch). walk p bs ++ xs) e

-- it hangs below none of these
passed : (b : Branch) (ps : List (Option ℕ)) (bs : List Branch) → seen b.parent ps ≡ 0 → below ps (b ∷ bs) ≡ below ps bs
passed b [] bs none = refl
passed b (p ∷ ps) bs none =
    passed_by b p bs (below ps (b ∷ bs)) (below ps bs) (is_same b.parent p) (omega (arith, none)) (passed b ps bs (omega (arith, none)))

swapped : (xs ys rest more : List Branch) → IsPermutation (xs ++ rest) more → IsPermutation (xs ++ (ys ++ rest)) (ys ++ more)
swapped xs ys rest more p =
    subst (λ (l : List Branch). IsPermutation l (ys ++ more)) (append_assoc xs ys rest)
    (IsPermutation-trans ((xs ++ ys) ++ rest) ((ys ++ xs) ++ rest) (ys ++ more)
    (IsPermutation-append_left rest (xs ++ ys) (ys ++ xs) (IsPermutation-append_comm xs ys))
    (subst (λ (l : List Branch). IsPermutation l (ys ++ more)) (sym (append_assoc ys xs rest)) (IsPermutation-append_right ys (xs ++ rest) more p)))

hung_by : (b : Branch) (p : Option ℕ) (ps : List (Option ℕ)) (bs : List Branch) (r : Bool) → one r + seen b.parent ps ≡ 1
    → (seen b.parent ps ≡ 1 → IsPermutation ((b ∷ walk (Some b.view) bs) ++ below ps bs) (below ps (b ∷ bs)))
    → IsPermutation ((b ∷ walk (Some b.view) bs) ++ (walk p bs ++ below ps bs)) ((if r then b ∷ walk (Some b.view) bs ++ walk p bs else walk p bs) ++ below ps (b ∷ bs))
hung_by b p ps bs true once later =
    let rest : below ps (b ∷ bs) ≡ below ps bs = passed b ps bs (omega (arith, once)) in
    subst (λ (xs : List Branch). IsPermutation ((b ∷ walk (Some b.view) bs) ++ (walk p bs ++ below ps bs)) ((b ∷ walk (Some b.view) bs ++ walk p bs) ++ xs)) (sym rest)
    (subst (λ (xs : List Branch). IsPermutation ((b ∷ walk (Some b.view) bs) ++ (walk p bs ++ below ps bs)) xs) (sym (append_assoc (b ∷ walk (Some b.view) bs) (walk p bs) (below ps bs)))
    (IsPermutation-refl ((b ∷ walk (Some b.view) bs) ++ (walk p bs ++ below ps bs))))
hung_by b p ps bs false once later = swapped (b ∷ walk (Some b.view) bs) (walk p bs) (below ps bs) (below ps (b ∷ bs)) (later (omega (arith, once)))

-- it hangs below one of these
hung : (b : Branch) (ps : List (Option ℕ)) (bs : List Branch) → seen b.parent ps ≡ 1 → IsPermutation ((b ∷ walk (Some b.view) bs) ++ below ps bs) (below ps (b ∷ bs))
hung b [] bs once = absurd (omega (arith, once))
hung b (p ∷ ps) bs once = hung_by b p ps bs (is_same b.parent p) once (hung b ps bs)

none_below : (ps : List (Option ℕ)) → below ps [] ≡ []
none_below [] = refl
none_below (p ∷ ps) = none_below ps

all_below : (ps : List (Option ℕ)) (bs : List Branch) → Grows ps bs → IsPermutation bs (below ps bs)
all_below ps [] grows = subst (λ (xs : List Branch). IsPermutation [] xs) (sym (none_below ps)) (IsPermutation-refl [])
all_below ps (b ∷ bs) grows =
    IsPermutation-trans (b ∷ bs) (b ∷ below (Some b.view ∷ ps) bs) (below ps (b ∷ bs))
    (IsPermutation-cons b bs (below (Some b.view ∷ ps) bs) (all_below (Some b.view ∷ ps) bs grows.1))
    (hung b ps bs grows.0)

-- ---- the tree

module _ (distance : Option ℕ → ℕ → ℕ) where
  -- the points inside: the empty column and those that have joined
  record ArePoints (points : List (Option ℕ)) (joined : List ℕ) : Type 0 where
    start : seen None points ≡ 1
    each : (x : ℕ) → seen (Some x) points ≡ times x joined

  one_seen : (points : List (Option ℕ)) (joined : List ℕ) (a : Option ℕ) → ArePoints points joined → ((x : ℕ) → times x joined ≤ 1) → IsInside joined a → seen a points ≡ 1
  one_seen points joined None are once is = are.start
  one_seen points joined (Some x) are once is = omega (arith, are.each x, once x, is)

  flipped_by : (x n : ℕ) → Told x n → Told n x → one (x == n) ≡ one (n == x)
  flipped_by x n (inl h) (inl k) = ap one h.0 ∙ sym (ap one k.0)
  flipped_by x n (inl h) (inr k) = absurd (k.1 (sym h.1))
  flipped_by x n (inr h) (inl k) = absurd (h.1 (sym k.1))
  flipped_by x n (inr h) (inr k) = ap one h.0 ∙ sym (ap one k.0)

  flipped : (x n : ℕ) → one (x == n) ≡ one (n == x)
  flipped x n = flipped_by x n (eqb_tells x n) (eqb_tells n x)

  points_more : (points : List (Option ℕ)) (joined : List ℕ) (n : ℕ) → ArePoints points joined → ArePoints (Some n ∷ points) (joined ++ n ∷ [])
  points_more points joined n are = record {
    start = omega (arith, are.start);
    each = λ x. omega (arith, are.each x, flipped x n, times-append x joined (n ∷ []));
  }

  apart_by : (x n : ℕ) (joined outside : List ℕ) → times x joined + times x outside ≤ 1 → 1 ≤ times n outside → Told n x → times x (joined ++ n ∷ []) + times x (without n outside) ≤ 1
  apart_by x n joined outside apart is (inl h) =
      let none : times x (without n outside) ≡ 0 = ap (λ (y : ℕ). times y (without n outside)) (sym h.1) ∙ gone n outside in
      let some : 1 ≤ times x outside = subst (λ (y : ℕ). 1 ≤ times y outside) h.1 is in
      omega (arith, apart, ap one h.0, none, some, times-append x joined (n ∷ []))
  apart_by x n joined outside apart is (inr h) = omega (arith, apart, ap one h.0, still n x outside h.1, times-append x joined (n ∷ []))

  joins_grow : (n : ℕ) (points : List (Option ℕ)) (joined outside : List ℕ) → ArePoints points joined → ((x : ℕ) → times x joined + times x outside ≤ 1) → Grows points (joins distance n joined outside)
  joins_grow zero points joined outside are apart = tt
  joins_grow (suc n) points joined [] are apart = tt
  joins_grow (suc n) points joined (v ∷ vs) are apart =
      let next = nearest (reach distance joined) v vs in
      let among : 1 ≤ times next (v ∷ vs) = nearest_among (reach distance joined) v vs in (
        one_seen points joined (closest distance joined next) are (λ x. omega (arith, apart x)) (closest_inside distance joined next),
        joins_grow n (Some next ∷ points) (joined ++ next ∷ []) (without next (v ∷ vs)) (points_more points joined next are) (λ x. apart_by x next joined (v ∷ vs) (apart x) among (eqb_tells next x)),
      )

  pub walk_all : (views : List ℕ) → AreOnce views → IsPermutation (tree distance views) (tree_walk distance views)
  walk_all views once =
      let start : ArePoints (None ∷ []) [] = record { start = refl; each = λ x. refl } in
      subst (λ (xs : List Branch). IsPermutation (tree distance views) xs) (append-nil (tree_walk distance views))
      (all_below (None ∷ []) (tree distance views) (joins_grow (length views) (None ∷ []) [] views start (λ x. omega (arith, once x))))

  -- ---- each view joins

  pub joins_all : (n : ℕ) (joined outside : List ℕ) → length outside ≤ n → AreOnce outside → IsPermutation outside (views_of (joins distance n joined outside))
  joins_all zero joined [] few once = IsPermutation-refl []
  joins_all zero joined (v ∷ vs) few once = absurd (omega arith)
  joins_all (suc n) joined [] few once = IsPermutation-refl []
  joins_all (suc n) joined (v ∷ vs) few once =
      let next = nearest (reach distance joined) v vs in
      let is : times next (v ∷ vs) ≡ 1 = omega (arith, once next, nearest_among (reach distance joined) v vs) in
      let rest : List ℕ = without next (v ∷ vs) in
      let after : List ℕ = views_of (joins distance n (joined ++ next ∷ []) rest) in
      IsPermutation-trans (v ∷ vs) (next ∷ rest) (next ∷ after) (one_out next (v ∷ vs) is)
      (IsPermutation-cons next rest after (joins_all n (joined ++ next ∷ []) rest (omega (arith, few, is, length_without next (v ∷ vs))) (once_without next (v ∷ vs) once)))
