-- Edges that come and go.
use Rattle.std.specs.Prelude.{◌≡◌, ◌<◌, Bool, not, List, [], ◌∷◌, length, get_or, set, fold}
use Rattle.graph_model.specs.declared.number.EdgeNo.{EdgeNo}

-- an edge comes (true) or goes
abbrev pub turned : List Bool → EdgeNo × Bool → List Bool
turned present change = set present change.0.0 change.1

abbrev pub changed : List Bool → List (EdgeNo × Bool) → List Bool
changed present changes = fold turned present changes

-- each change names an edge, which isn't there where it comes, and is there where it goes
abbrev pub AreChanges : List Bool → List (EdgeNo × Bool) → Type 0
AreChanges present [] = Unit {0}
AreChanges present (change ∷ changes) = (change.0.0 < length present) × (get_or present change.0.0 change.1 ≡ not change.1) × AreChanges (turned present change) changes
