-- Inside: what the tree keeps of a view while it grows.
use Rattle.std.specs.Prelude.{ℕ, ◌==◌, ◌&&◌, ◌||◌, nat_lt, if◌then◌else◌, List, map, fold, Option, Some, None}
use Rattle.graph_model.specs.declared.number.ViewNo.{ViewNo}
use Rattle.view_matrix.specs.Matrices.{place_of}
use Rattle.view_order.specs.Places.{view}
use Rattle.tree_order.specs.declared.link.Link.{Link}
use Rattle.tree_order.specs.Trees.{Branch, branch, closest, reach}

-- the point of a number, or the empty column
abbrev pub point : Option ℕ → Option ViewNo
point None = None
point (Some v) = Some (view v)

-- the link of a view outside to the nearest one of the points inside
abbrev pub reached : (Option ℕ → ℕ → ℕ) → List ℕ → ℕ → Link
reached distance joined v = record { view = view v; parent = point (closest distance joined v); distance = reach distance joined v }

-- the link of a view outside when one more view has joined
abbrev pub brought : (Option ℕ → ℕ → ℕ) → ViewNo → Link → Link
brought distance joined link =
    if nat_lt (distance (Some joined.0) link.view.0) link.distance
    then record { view = link.view; parent = Some joined; distance = distance (Some joined.0) link.view.0 }
    else link

-- the nearer one of two links, and of two that are equally near the one to the view declared first
abbrev pub nearer_link : Link → Link → Link
nearer_link best other = if nat_lt other.distance best.distance || (other.distance == best.distance && nat_lt other.view.0 best.view.0) then other else best

abbrev pub nearest_link : Link → List Link → Link
nearest_link first others = fold nearer_link first others

abbrev pub branch_of : Link → Branch
branch_of link = branch (place_of link.parent) link.view.0

abbrev pub branches_of : List Link → List Branch
branches_of links = map branch_of links

-- the views of these links, by their numbers
abbrev pub numbers_of : List Link → List ℕ
numbers_of links = map (λ (link : Link). link.view.0) links
