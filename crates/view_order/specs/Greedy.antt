-- The greedy order by any distance: from a place, or from the start, to a view.
use Rattle.std.specs.Prelude.{ℕ, zero, suc, Bool, not, ◌&&◌, ◌||◌, ◌==◌, nat_lt, if◌then◌else◌, List, [], ◌∷◌, length, map, filter, fold, Option, Some}
use Rattle.graph_model.specs.declared.number.ViewNo.{ViewNo}

-- views by their numbers
abbrev pub numbers : List ViewNo → List ℕ
numbers views = map (λ (view : ViewNo). view.0) views

-- ---- the nearest view

-- whether a view comes before another: it is nearer, or as near and declared before it
abbrev pub is_nearer : (ℕ → ℕ) → ℕ → ℕ → Bool
is_nearer distance v w = nat_lt (distance v) (distance w) || (distance v == distance w && nat_lt v w)

abbrev pub nearer : (ℕ → ℕ) → ℕ → ℕ → ℕ
nearer distance best v = if is_nearer distance v best then v else best

-- the one of a view and others that comes before the rest
abbrev pub nearest : (ℕ → ℕ) → ℕ → List ℕ → ℕ
nearest distance first others = fold (nearer distance) first others

-- ---- the order

abbrev pub without : ℕ → List ℕ → List ℕ
without v vs = filter (λ w. not (w == v)) vs

-- the first so many views of the order: the nearest one, and then the order from there of those that are left
abbrev pub tour : (Option ℕ → ℕ → ℕ) → ℕ → Option ℕ → List ℕ → List ℕ
tour distance zero before views = []
tour distance (suc n) before [] = []
tour distance (suc n) before (v ∷ vs) = let next = nearest (distance before) v vs in next ∷ tour distance n (Some next) (without next (v ∷ vs))

-- the order of these views, which are distinct
abbrev pub greedy : (Option ℕ → ℕ → ℕ) → Option ℕ → List ℕ → List ℕ
greedy distance before views = tour distance (length views) before views
