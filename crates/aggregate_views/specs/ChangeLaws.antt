-- Changes of which each names an edge of its own.
use Rattle.std.specs.Prelude.{◌≡◌, ◌≢◌, ◌<◌, Bool, not, List, [], ◌∷◌, length, get_or}
use Rattle.std.proofs.Common.{sym, subst, ◌∙◌}
use Rattle.std.proofs.lemmas.List.{get_or-set_other, length-set}
use Rattle.graph_model.specs.declared.number.EdgeNo.{EdgeNo}
use Rattle.flow_core.specs.Runs.{Every}
use Rattle.flow_core.specs.Lists.{Every-both}
use Rattle.aggregate_views.specs.Changes.{turned, AreChanges}

-- no edge is named twice
abbrev pub EachOnce : List (EdgeNo × Bool) → Type 0
EachOnce [] = Unit {0}
EachOnce (c ∷ cs) = Every (λ d. d.0.0 ≢ c.0.0) cs × EachOnce cs

-- the edge isn't there where it comes, and is there where it goes
abbrev pub Turns : List Bool → EdgeNo × Bool → Type 0
Turns present c = (c.0.0 < length present) × (get_or present c.0.0 c.1 ≡ not c.1)

pub once_changes : (present : List Bool) (cs : List (EdgeNo × Bool)) → EachOnce cs → Every (Turns present) cs → AreChanges present cs
once_changes present [] o h = tt
once_changes present (c ∷ cs) o h =
    (h.0.0, h.0.1, once_changes (turned present c) cs o.1 (Every-both (λ d. d.0.0 ≢ c.0.0) (Turns present) (Turns (turned present c)) cs (λ d n t. (subst (λ m. d.0.0 < m) (sym (length-set present c.0.0 c.1)) t.0, get_or-set_other present c.0.0 d.0.0 c.1 d.1 n ∙ t.1)) o.0 h.1))
