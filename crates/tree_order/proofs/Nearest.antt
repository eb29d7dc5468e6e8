-- The nearest view, and the point inside that is nearest to a view.
use Rattle.std.proofs.Common.{◌≡◌, ℕ, ◌+◌, ◌≤◌, ◌==◌, inl, inr, Bool, true, false, ◌&&◌, ◌||◌, if◌then◌else◌, nat_lt, List, [], ◌∷◌, ◌++◌, fold, Option, Some, None, refl, ap, subst, arith}
use Rattle.std.proofs.lemmas.Bool.Decides.{eqb_tells, nat_tests}
use Rattle.view_order.specs.Greedy.{is_nearer, nearer, nearest}
use Rattle.tree_order.specs.Trees.{closer, closest, reach}
use Rattle.tree_order.proofs.Times.{Told, itself, one, times, times-append}

-- ---- the nearest view

within : (a b : ℕ) (c : Bool) → (nat_lt a b || (a == b && c)) ≡ true → a ≤ b
within a b c e = grind (arith, nat_tests)

beyond : (a b : ℕ) (c : Bool) → (nat_lt a b || (a == b && c)) ≡ false → b ≤ a
beyond a b c e = grind (arith, nat_tests)

picked : (f : ℕ → ℕ) (v w : ℕ) (r : Bool) → (r ≡ true → f w ≤ f v) → (r ≡ false → f v ≤ f w) → (f (if r then w else v) ≤ f v) × (f (if r then w else v) ≤ f w)
picked f v w true below above = (below refl, omega arith)
picked f v w false below above = (omega arith, above refl)

nearer_le : (f : ℕ → ℕ) (v w : ℕ) → (f (nearer f v w) ≤ f v) × (f (nearer f v w) ≤ f w)
nearer_le f v w = picked f v w (is_nearer f w v) (within (f w) (f v) (nat_lt w v)) (beyond (f w) (f v) (nat_lt w v))

pub nearest_first : (f : ℕ → ℕ) (v : ℕ) (vs : List ℕ) → f (nearest f v vs) ≤ f v
nearest_first f v [] = omega arith
nearest_first f v (w ∷ ws) = let so_far : f (nearest f (nearer f v w) ws) ≤ f (nearer f v w) = nearest_first f (nearer f v w) ws in omega (arith, so_far, (nearer_le f v w).0)

least_by : (f : ℕ → ℕ) (n v x : ℕ) (ws : List ℕ) → f n ≤ f v → 1 ≤ times x (v ∷ ws) → (1 ≤ times x ws → f n ≤ f x) → Told v x → f n ≤ f x
least_by f n v x ws le is so_far (inl h) = subst (λ (y : ℕ). f n ≤ f y) h.1 le
least_by f n v x ws le is so_far (inr h) = so_far (omega (arith, is, ap one h.0))

-- none of them is nearer
pub nearest_least : (f : ℕ → ℕ) (v : ℕ) (vs : List ℕ) (x : ℕ) → 1 ≤ times x (v ∷ vs) → f (nearest f v vs) ≤ f x
nearest_least f v [] x is = least_by f v v x [] (omega arith) is (λ e. absurd (omega (arith, e))) (eqb_tells v x)
nearest_least f v (w ∷ ws) x is =
    let best = nearer f v w in
    let n = nearest f best ws in
    let first : f n ≤ f best = nearest_first f best ws in
    least_by f n v x (w ∷ ws) (omega (arith, first, (nearer_le f v w).0)) is
    (λ more. least_by f n w x ws (omega (arith, first, (nearer_le f v w).1)) more (λ e. nearest_least f best ws x (omega (arith, e))) (eqb_tells w x))
    (eqb_tells v x)

either : (n v w : ℕ) (r : Bool) → one ((if r then w else v) == n) ≤ one (v == n) + one (w == n)
either n v w true = omega arith
either n v w false = omega arith

-- it is one of them
pub nearest_among : (f : ℕ → ℕ) (v : ℕ) (vs : List ℕ) → 1 ≤ times (nearest f v vs) (v ∷ vs)
nearest_among f v [] = omega (arith, itself v)
nearest_among f v (w ∷ ws) =
    let n = nearest f (nearer f v w) ws in
    let so_far : 1 ≤ one (nearer f v w == n) + times n ws = nearest_among f (nearer f v w) ws in
    omega (arith, so_far, either n v w (is_nearer f w v))

-- ---- the nearest point inside

-- the empty column, or one of those that have joined
abbrev pub IsInside : List ℕ → Option ℕ → Type 0
IsInside joined None = Unit {0}
IsInside joined (Some w) = 1 ≤ times w joined

inside_by : (joined : List ℕ) (v : ℕ) (a : Option ℕ) → IsInside joined a → IsInside (joined ++ v ∷ []) a
inside_by joined v None is = tt
inside_by joined v (Some w) is = omega (arith, is, times-append w joined (v ∷ []))

pub inside_more : (joined : List ℕ) (v : ℕ) (a : Option ℕ) → IsInside joined a → IsInside (joined ++ v ∷ []) a
inside_more joined v a is = inside_by joined v a is

pub inside_last : (joined : List ℕ) (v : ℕ) → IsInside (joined ++ v ∷ []) (Some v)
inside_last joined v = omega (arith, times-append v joined (v ∷ []), itself v)

module _ (distance : Option ℕ → ℕ → ℕ) where
  picked_point : (v : ℕ) (best : Option ℕ) (w : ℕ) (r : Bool) → nat_lt (distance (Some w) v) (distance best v) ≡ r
      → (distance (if r then Some w else best) v ≤ distance best v) × (distance (if r then Some w else best) v ≤ distance (Some w) v)
  picked_point v best w true e = (grind (arith, nat_tests), omega arith)
  picked_point v best w false e = (omega arith, grind (arith, nat_tests))

  closer_le : (v : ℕ) (best : Option ℕ) (w : ℕ) → (distance (closer distance v best w) v ≤ distance best v) × (distance (closer distance v best w) v ≤ distance (Some w) v)
  closer_le v best w = picked_point v best w (nat_lt (distance (Some w) v) (distance best v)) refl

  from_first : (v : ℕ) (best : Option ℕ) (ws : List ℕ) → distance (fold (closer distance v) best ws) v ≤ distance best v
  from_first v best [] = omega arith
  from_first v best (w ∷ ws) =
      let so_far : distance (fold (closer distance v) (closer distance v best w) ws) v ≤ distance (closer distance v best w) v = from_first v (closer distance v best w) ws in
      omega (arith, so_far, (closer_le v best w).0)

  from_by : (v : ℕ) (n : ℕ) (w x : ℕ) (ws : List ℕ) → n ≤ distance (Some w) v → 1 ≤ times x (w ∷ ws) → (1 ≤ times x ws → n ≤ distance (Some x) v) → Told w x → n ≤ distance (Some x) v
  from_by v n w x ws le is so_far (inl h) = subst (λ (y : ℕ). n ≤ distance (Some y) v) h.1 le
  from_by v n w x ws le is so_far (inr h) = so_far (omega (arith, is, ap one h.0))

  from_each : (v : ℕ) (best : Option ℕ) (ws : List ℕ) (x : ℕ) → 1 ≤ times x ws → distance (fold (closer distance v) best ws) v ≤ distance (Some x) v
  from_each v best [] x is = absurd (omega arith)
  from_each v best (w ∷ ws) x is =
      let next = closer distance v best w in
      let first : distance (fold (closer distance v) next ws) v ≤ distance next v = from_first v next ws in
      from_by v (distance (fold (closer distance v) next ws) v) w x ws (omega (arith, first, (closer_le v best w).1)) is (from_each v next ws x) (eqb_tells w x)

  reach_by : (joined : List ℕ) (v : ℕ) (a : Option ℕ) → IsInside joined a → reach distance joined v ≤ distance a v
  reach_by joined v None is = from_first v None joined
  reach_by joined v (Some w) is = from_each v None joined w is

  -- no point inside is nearer
  pub reach_least : (joined : List ℕ) (v : ℕ) (a : Option ℕ) → IsInside joined a → reach distance joined v ≤ distance a v
  reach_least joined v a is = reach_by joined v a is

  step_inside : (joined : List ℕ) (best : Option ℕ) (w : ℕ) (r : Bool) → IsInside joined best → IsInside joined (Some w) → IsInside joined (if r then Some w else best)
  step_inside joined best w true before here = here
  step_inside joined best w false before here = before

  inside_from : (joined : List ℕ) (v : ℕ) (best : Option ℕ) (ws : List ℕ) → IsInside joined best → ((w : ℕ) → 1 ≤ times w ws → 1 ≤ times w joined) → IsInside joined (fold (closer distance v) best ws)
  inside_from joined v best [] before all = before
  inside_from joined v best (w ∷ ws) before all =
      inside_from joined v (closer distance v best w) ws
      (step_inside joined best w (nat_lt (distance (Some w) v) (distance best v)) before (all w (omega (arith, itself w))))
      (λ u is. all u (omega (arith, is)))

  -- it is inside
  pub closest_inside : (joined : List ℕ) (v : ℕ) → IsInside joined (closest distance joined v)
  closest_inside joined v = inside_from joined v None joined tt (λ w is. is)
