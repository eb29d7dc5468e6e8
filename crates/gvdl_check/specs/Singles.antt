-- Single views, each on the graph or on one before it.
use Rattle.std.specs.Prelude.{ℕ, nat_lt, List, [], ◌∷◌, ◌++◌, get_or, Option, None, Some}
use Rattle.std.specs.Prelude.{if◌then◌else◌}
use Rattle.std.specs.List.{fold}
use Rattle.edge_predicates.specs.declared.pred.Pred.{Pred}
use Rattle.gvdl_check.specs.declared.singles.Single.{Single}

-- The predicates of the graph, which has none, or of the view with this place, where `views` has
-- those of each view.
abbrev pub rules_at : (views : List (List Pred)) → Option ℕ → List Pred
rules_at views None = []
rules_at views (Some place) = get_or views place []

-- with a view more, whose own predicate comes behind those of what it stands on
abbrev pub with_view : List (List Pred) → Option ℕ → Pred → List (List Pred)
with_view views base p = views ++ (rules_at views base ++ p ∷ []) ∷ []

-- the predicates of each view, from the graph on
abbrev pub chained : List Single → List (List Pred)
chained singles = fold (λ views single. with_view views single.base single.pred) [] singles

-- the same place, if it is before this one
abbrev pub before : Option ℕ → ℕ → Option ℕ
before None place = None
before (Some base) place = if nat_lt base place then Some base else None
