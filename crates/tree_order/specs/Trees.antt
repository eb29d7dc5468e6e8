-- The tree over views by any distance, from a point to a view: a point is the empty column (None) or a view. Then the walk
-- through the tree, and how long an order is.
use Rattle.std.specs.Prelude.{ℕ, zero, suc, ◌+◌, ◌==◌, nat_lt, Bool, true, false, if◌then◌else◌, List, [], ◌∷◌, ◌++◌, length, map, fold, sum_by, Option, Some, None}
use Rattle.view_order.specs.Greedy.{nearest, without}

-- ---- from the points inside to a view

-- the nearer one of two points inside, and of two that are equally near the first
abbrev pub closer : (Option ℕ → ℕ → ℕ) → ℕ → Option ℕ → ℕ → Option ℕ
closer distance v best w = if nat_lt (distance (Some w) v) (distance best v) then Some w else best

-- the point inside that is nearest to a view: the empty column or a view that has joined, and of several the earliest
abbrev pub closest : (Option ℕ → ℕ → ℕ) → List ℕ → ℕ → Option ℕ
closest distance joined v = fold (closer distance v) None joined

-- how far the view is from it
abbrev pub reach : (Option ℕ → ℕ → ℕ) → List ℕ → ℕ → ℕ
reach distance joined v = distance (closest distance joined v) v

-- ---- the tree

-- a view that has joined, with its parent
pub record Branch : Type 0 where
  pub parent : Option ℕ
  pub view : ℕ

abbrev pub branch : Option ℕ → ℕ → Branch
branch parent view = record { parent = parent; view = view }

-- the first so many views to join behind those that have joined: of those outside the nearest one to a point inside, and of
-- several the one declared first; its parent is the point inside that is nearest to it
abbrev pub joins : (Option ℕ → ℕ → ℕ) → ℕ → List ℕ → List ℕ → List Branch
joins distance zero joined outside = []
joins distance (suc n) joined [] = []
joins distance (suc n) joined (v ∷ vs) =
    let next = nearest (reach distance joined) v vs in
    branch (closest distance joined next) next ∷ joins distance n (joined ++ next ∷ []) (without next (v ∷ vs))

-- the tree over these views, which are distinct, in the order of joining
abbrev pub tree : (Option ℕ → ℕ → ℕ) → List ℕ → List Branch
tree distance views = joins distance (length views) [] views

-- the sum of the distances to the parents
abbrev pub weight : (Option ℕ → ℕ → ℕ) → List Branch → ℕ
weight distance branches = sum_by (λ b. distance b.parent b.view) branches

-- ---- the walk

abbrev pub is_same : Option ℕ → Option ℕ → Bool
is_same None None = true
is_same None (Some w) = false
is_same (Some v) None = false
is_same (Some v) (Some w) = v == w

-- what hangs below a point: its children in the order of joining, and behind each of them what hangs below it
abbrev pub walk : Option ℕ → List Branch → List Branch
walk point [] = []
walk point (b ∷ later) = if is_same b.parent point then b ∷ walk (Some b.view) later ++ walk point later else walk point later

-- the tree from the empty column on, as the walk comes to it
abbrev pub tree_walk : (Option ℕ → ℕ → ℕ) → List ℕ → List Branch
tree_walk distance views = walk None (tree distance views)

abbrev pub views_of : List Branch → List ℕ
views_of branches = map (λ (b : Branch). b.view) branches

abbrev pub parents_of : List Branch → List (Option ℕ)
parents_of branches = map (λ (b : Branch). b.parent) branches

-- ---- how long an order is

-- the distances from a point to the first of these views and from each to the next, in all
abbrev pub walked : (Option ℕ → ℕ → ℕ) → Option ℕ → List ℕ → ℕ
walked distance before [] = 0
walked distance before (v ∷ vs) = distance before v + walked distance (Some v) vs
