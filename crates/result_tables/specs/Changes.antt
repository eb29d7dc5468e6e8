-- How two lists of values differ, as a change.
use Rattle.std.specs.Prelude.{ℕ, ◌+◌, List, [], ◌∷◌, if◌then◌else◌}
use Rattle.graph_model.specs.declared.number.NodeNo.{NodeNo}
use Rattle.graph_model.specs.declared.value.Val.{Val}
use Rattle.vertex_lang.specs.Lone.{same_value}

-- the nodes, the first with this number, whose value differs, each with the second
abbrev pub changes_from : ℕ → List Val → List Val → List (NodeNo × Val)
changes_from n [] [] = []
changes_from n [] (y ∷ ys) = []
changes_from n (x ∷ xs) [] = []
changes_from n (x ∷ xs) (y ∷ ys) = if same_value x y then changes_from (n + 1) xs ys else (record { 0 = n }, y) ∷ changes_from (n + 1) xs ys

-- all nodes, the first with this number, each with its value
abbrev pub all_from : ℕ → List Val → List (NodeNo × Val)
all_from n [] = []
all_from n (y ∷ ys) = (record { 0 = n }, y) ∷ all_from (n + 1) ys
