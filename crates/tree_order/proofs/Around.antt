-- The walk through the tree is at most twice as long as the tree weighs: what hangs below a point is walked from the point and
-- back to it, each branch there and back.
use Rattle.std.proofs.Common.{◌≡◌, ◌∙◌, ℕ, ◌+◌, ◌*◌, ◌≤◌, Bool, true, false, if◌then◌else◌, List, [], ◌∷◌, ◌++◌, Option, Some, None, refl, sym, ap, subst, arith}
use Rattle.std.proofs.lemmas.Bool.{eqb-true}
use Rattle.std.proofs.lemmas.List.{map-append}
use Rattle.std.proofs.lemmas.List.Sums.{sum_by-cons, sum_by-append}
use Rattle.tree_order.specs.Trees.{Branch, is_same, views_of, walk, walked, weight}
use Rattle.tree_order.proofs.Metric.{IsMetric, to_view}

pub same_points : (a b : Option ℕ) → is_same a b ≡ true → a ≡ b
same_points None None e = refl
same_points None (Some w) e = absurd cc
same_points (Some v) None e = absurd cc
same_points (Some v) (Some w) e = ap Some (eqb-true v w e)

module _ (d : Option ℕ → Option ℕ → ℕ) (metric : IsMetric d) where
  abbrev far : Option ℕ → ℕ → ℕ
  far = to_view d

  -- from a point through views to a point
  abbrev through : Option ℕ → List ℕ → Option ℕ → ℕ
  through a [] p = d a p
  through a (v ∷ vs) p = d a (Some v) + through (Some v) vs p

  walked_le : (a p : Option ℕ) (vs : List ℕ) → walked far a vs ≤ through a vs p
  walked_le a p [] = omega arith
  walked_le a p (v ∷ vs) = omega (arith, walked_le (Some v) p vs)

  -- the way to the first of them, and further, by way of a point
  by_way_of : (a q p : Option ℕ) (vs : List ℕ) → through a vs p ≤ d a q + through q vs p
  by_way_of a q p [] = metric.by_way a q p
  by_way_of a q p (v ∷ vs) = omega (arith, metric.by_way a q (Some v))

  joined : (a q p : Option ℕ) (vs ws : List ℕ) → through a (vs ++ ws) p ≤ through a vs q + through q ws p
  joined a q p [] ws = by_way_of a q p ws
  joined a q p (v ∷ vs) ws = omega (arith, joined (Some v) q p vs ws)

  around_by : (point : Option ℕ) (b : Branch) (below after : List Branch) (r : Bool) → (r ≡ true → b.parent ≡ point)
      → through (Some b.view) (views_of below) (Some b.view) ≤ weight far below + weight far below
      → through point (views_of after) point ≤ weight far after + weight far after
      → through point (views_of (if r then b ∷ below ++ after else after)) point ≤ weight far (if r then b ∷ below ++ after else after) + weight far (if r then b ∷ below ++ after else after)
  around_by point b below after false parent down on = on
  around_by point b below after true parent down on =
      let v : Option ℕ = Some b.view in
      let split : through v (views_of (below ++ after)) point ≤ through v (views_of below) v + through v (views_of after) point =
      subst (λ (vs : List ℕ). through v vs point ≤ through v (views_of below) v + through v (views_of after) point) (sym (map-append (λ (c : Branch). c.view) below after)) (joined v v point (views_of below) (views_of after)) in
      let home : through v (views_of after) point ≤ d v point + through point (views_of after) point = by_way_of v point point (views_of after) in
      let back : d v point ≡ d point v = metric.back v point in
      let there : d b.parent v ≡ d point v = ap (λ (a : Option ℕ). d a v) (parent refl) in
      let parts : weight far (b ∷ below ++ after) ≡ d b.parent v + (weight far below + weight far after) =
      sum_by-cons (λ (c : Branch). far c.parent c.view) b (below ++ after) ∙ ap (λ (n : ℕ). d b.parent v + n) (sum_by-append (λ (c : Branch). far c.parent c.view) below after) in
      omega (arith, split, home, back, there, parts, down, on)

  around : (point : Option ℕ) (bs : List Branch) → through point (views_of (walk point bs)) point ≤ weight far (walk point bs) + weight far (walk point bs)
  around point [] = omega (arith, metric.itself point)
  around point (b ∷ bs) =
      around_by point b (walk (Some b.view) bs) (walk point bs) (is_same b.parent point) (same_points b.parent point) (around (Some b.view) bs) (around point bs)

  -- what hangs below a point is no longer to walk
  pub twice : (point : Option ℕ) (bs : List Branch) → walked far point (views_of (walk point bs)) ≤ 2 * weight far (walk point bs)
  twice point bs = omega (arith, walked_le point point (views_of (walk point bs)), around point bs)
