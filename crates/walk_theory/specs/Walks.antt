-- Walks over arcs. An arc of any type has two ends, its tail and its head; nodes are numbers.
use Rattle.std.specs.Prelude.{◌≡◌, ℕ, ◌≤◌, ◌<◌, List, [], ◌∷◌, ◌++◌, Contains, length, sum_by}

-- these arcs, each of them among the given ones and each beginning where the one before ends, lead from the first node to
-- the last; no arc at all leads from a node to itself
abbrev pub IsWalk : {A : Type 0} → (A → ℕ × ℕ) → List A → ℕ → List A → ℕ → Type 0
IsWalk ends arcs from [] to = from ≡ to
IsWalk ends arcs from (a ∷ walk) to = Contains arcs a × ((ends a).0 ≡ from) × IsWalk ends arcs (ends a).1 walk to

-- a walk between the same nodes that is no heavier, has fewer arcs than there are nodes, and weighs no more than all arcs
-- together
pub record IsShortened {A : Type 0} (ends : A → ℕ × ℕ) (weight : A → ℕ) (nodes : List ℕ) (arcs : List A) (from : ℕ) (walk : List A) (to : ℕ) : Type 0 where
  pub shorter : List A
  pub leads : IsWalk ends arcs from shorter to
  pub short : length shorter < length nodes
  pub lighter : sum_by weight shorter ≤ sum_by weight walk
  pub light : sum_by weight shorter ≤ sum_by weight arcs

-- an arc back, from the head of an arc to its tail
pub record IsWayBack {A : Type 0} (ends : A → ℕ × ℕ) (arcs : List A) (a : A) : Type 0 where
  pub arc : A
  pub given : Contains arcs arc
  pub tail : (ends arc).0 ≡ (ends a).1
  pub head : (ends arc).1 ≡ (ends a).0

-- a walk from one node to another
pub record IsLinked {A : Type 0} (ends : A → ℕ × ℕ) (arcs : List A) (from to : ℕ) : Type 0 where
  pub walk : List A
  pub leads : IsWalk ends arcs from walk to

-- the walk has a last arc, before which it is a walk to that arc's tail
pub record EndsWithArc {A : Type 0} (ends : A → ℕ × ℕ) (arcs : List A) (from : ℕ) (walk : List A) (to : ℕ) : Type 0 where
  pub before : List A
  pub last : A
  pub same : walk ≡ before ++ (last ∷ [])
  pub leads : IsWalk ends arcs from before (ends last).0
  pub given : Contains arcs last
  pub comes : (ends last).1 ≡ to
