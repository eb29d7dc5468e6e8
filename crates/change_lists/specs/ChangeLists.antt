-- What a history says of the plain run of a view.
use Rattle.std.specs.Prelude.{◌≡◌, ◌<◌, ◌+◌, ◌==◌, ℕ, Bool, not, if◌then◌else◌, List, [], ◌∷◌, length, All}
use Rattle.std.specs.List.{list_any}
use Rattle.graph_model.specs.declared.number.NodeNo.{NodeNo}
use Rattle.graph_model.specs.declared.value.Val.{Val}
use Rattle.vertex_lang.specs.Lone.{same_value}
use Rattle.vertex_lang.specs.Rounds.{value_at}
use Rattle.change_lists.specs.declared.history.Change.{Change}

-- the node is in the list
abbrev pub is_listed : ℕ → List NodeNo → Bool
is_listed v nodes = list_any (λ n. n.0 == v) nodes

-- a change of the node is in the list
abbrev pub is_changed : ℕ → List Change → Bool
is_changed v changes = list_any (λ c. c.node.0 == v) changes

-- the list has the nodes, of so many, at which the test holds
pub record HasNodes (count : ℕ) (test : ℕ → Bool) (nodes : List NodeNo) : Type 0 where
  pub within : All (λ n. n.0 < count) nodes
  pub listed : (v : ℕ) → v < count → is_listed v nodes ≡ test v

-- the list has the nodes, of so many, whose value differs between two lists of values, each with the second
pub record HasChanges (count : ℕ) (before after : List Val) (changes : List Change) : Type 0 where
  pub within : All (λ c. c.node.0 < count) changes
  pub values : All (λ c. c.value ≡ value_at after c.node.0) changes
  pub listed : (v : ℕ) → v < count → is_changed v changes ≡ not (same_value (value_at after v) (value_at before v))

-- the values of the nodes in the list, and of the others as they were
pub record AreChanged (start after now : List Val) (changes : List Change) : Type 0 where
  pub size : length now ≡ length start
  pub at : (v : ℕ) → value_at now v ≡ (if is_changed v changes then value_at after v else value_at start v)

-- the nodes, the first with this number, whose value differs, each with the second
abbrev pub changes_from : ℕ → List Val → List Val → List Change
changes_from n [] [] = []
changes_from n [] (y ∷ ys) = []
changes_from n (x ∷ xs) [] = []
changes_from n (x ∷ xs) (y ∷ ys) = if same_value x y then changes_from (n + 1) xs ys else record { node = record { 0 = n }; value = y } ∷ changes_from (n + 1) xs ys

-- all nodes, the first with this number, each with its value
abbrev pub all_from : ℕ → List Val → List Change
all_from n [] = []
all_from n (y ∷ ys) = record { node = record { 0 = n }; value = y } ∷ all_from (n + 1) ys

abbrev pub mark_if : Bool → NodeNo → List NodeNo
mark_if marked node = if marked then node ∷ [] else []

abbrev pub change_if : Bool → NodeNo → Val → List Change
change_if changed node value = if changed then record { node = node; value = value } ∷ [] else []
