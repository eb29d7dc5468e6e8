-- What contracts see of the answers on views that are held.
use Rattle.std.specs.Prelude.{◌≡◌, ℕ, ◌<◌, ◌==◌, List, [], ◌∷◌, ◌++◌, length, map, fold, slice_set, All, Option, Some, None, IsSome, IsNone}
use Rattle.std.specs.List.{find, range_with_len}
use Rattle.std.specs.Option.{option_map}
use Rattle.graph_model.specs.declared.number.NodeNo.{NodeNo}
use Rattle.graph_model.specs.declared.number.ViewNo.{ViewNo}
use Rattle.graph_model.specs.declared.value.Val.{Val}
use Rattle.vertex_lang.specs.declared.lone.Outcome.{Outcome}
use Rattle.vertex_lang.specs.declared.lone.Outcome.TheVariants as outcome
use Rattle.result_tables.specs.declared.table.Table.{Table}

-- the answer on a view: how its run ended, and the value of each node after all rounds, also where the run was to settle and
-- did not
pub record Held : Type 0 where
  pub view : ViewNo
  pub outcome : Outcome
  pub values : List Val

-- how many nodes there are, and the answers in the order in which they were added
pub record ResultsData : Type 0 where
  pub nodes : ℕ
  pub held : List Held

-- the first answer on the view
abbrev pub held_on : ResultsData → ViewNo → Option Held
held_on m view = find (λ h. h.view.0 == view.0) m.held

abbrev pub IsHeld : ResultsData → ViewNo → Type 0
IsHeld m view = IsSome (held_on m view)

abbrev pub IsNew : ResultsData → ViewNo → Type 0
IsNew m view = IsNone (held_on m view)

-- the view before is held, if there is one
abbrev pub IsBefore : ResultsData → Option ViewNo → Type 0
IsBefore m None = Unit {0}
IsBefore m (Some last) = IsHeld m last

-- ---- changes

-- each node that is named has its new value, one after the other
abbrev pub assigned : List Val → List (NodeNo × Val) → List Val
assigned values change = fold (λ vs c. slice_set vs c.0.0 c.1) values change

abbrev pub values_of : Option Held → List Val
values_of None = []
values_of (Some h) = h.values

-- the values that a change gives: over those of the view before, or all of them, in order
abbrev pub values_after : ResultsData → Option ViewNo → List (NodeNo × Val) → List Val
values_after m None change = map (λ c. c.1) change
values_after m (Some last) change = assigned (values_of (held_on m last)) change

-- a change over the view before names nodes; without one it names each node once, in order
abbrev pub IsChange : ResultsData → Option ViewNo → List (NodeNo × Val) → Type 0
IsChange m None change = map (λ c. c.0.0) change ≡ range_with_len 0 m.nodes
IsChange m (Some last) change = All (λ c. c.0.0 < m.nodes) change

-- with the answer on one more view
abbrev pub with_answer : ResultsData → ViewNo → Option ViewNo → Outcome → List (NodeNo × Val) → ResultsData
with_answer m view before outcome change =
    record { nodes = m.nodes; held = m.held ++ record { view = view; outcome = outcome; values = values_after m before change } ∷ [] }

-- ---- tables

-- the values that a table shows: none where a run that was to settle did not
abbrev pub shown : Outcome → List Val → List Val
shown (outcome.Settled r) values = values
shown (outcome.After n) values = values
shown (outcome.Phases m) values = values
shown outcome.Unsettled values = []

abbrev pub table_held : Held → Table
table_held h = record { outcome = h.outcome; values = shown h.outcome h.values }

-- the table of the view, where its answer is held
abbrev pub table_on : ResultsData → ViewNo → Option Table
table_on m view = option_map table_held (held_on m view)

-- so many values, unless the run was to settle and did not
abbrev pub HasValues : ℕ → Outcome → List Val → Type 0
HasValues nodes (outcome.Settled r) values = length values ≡ nodes
HasValues nodes (outcome.After n) values = length values ≡ nodes
HasValues nodes (outcome.Phases m) values = length values ≡ nodes
HasValues nodes outcome.Unsettled values = Unit {0}
