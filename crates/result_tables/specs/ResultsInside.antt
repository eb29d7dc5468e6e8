-- Inside: how the answers on views lie in memory, and what they say.
use Rattle.std.specs.Prelude.{◌≡◌, ℕ, ◌<◌, ◌≤◌, List, [], ◌∷◌, ◌++◌, length, get_or, slice_get, All, Option}
use Rattle.std.specs.Option.{option_map}
use Rattle.graph_model.specs.declared.value.Val.{Val}
use Rattle.result_tables.specs.declared.table.Table.{Table}
use Rattle.result_tables.specs.declared.entries.Entry.{Entry}
use Rattle.result_tables.specs.declared.entries.Kept.{Kept}
use Rattle.result_tables.specs.declared.entries.Kept.TheVariants.{Full, Over}
use Rattle.result_tables.specs.declared.entries.Entries.{Entries}
use Rattle.result_tables.specs.declared.results.Results.TheInside.{Inside}
use Rattle.result_tables.specs.Results.{Held, ResultsData, assigned, values_of, table_held}

-- the values that are kept so, behind these answers
abbrev pub values_kept : List Held → Kept → List Val
values_kept held (Full values) = values
values_kept held (Over d) = assigned (values_of (slice_get held d.base)) d.change

-- the answer of an entry, behind these answers
abbrev pub answer_of : List Held → Entry → Held
answer_of held e = record { view = e.view; outcome = e.outcome; values = values_kept held e.kept }

-- these answers, and those of the entries behind them
abbrev pub held_behind : List Held → List Entry → List Held
held_behind held [] = held
held_behind held (e ∷ es) = held_behind (held ++ answer_of held e ∷ []) es

abbrev pub held_of : List Entry → List Held
held_of es = held_behind [] es

abbrev pub values_at : List Entry → ℕ → List Val
values_at es place = values_of (slice_get (held_of es) place)

abbrev pub table_at : List Entry → ℕ → Option Table
table_at es place = option_map table_held (slice_get (held_of es) place)

abbrev pub data_of : Entries → ResultsData
data_of e = record { nodes = e.nodes; held = held_of e.list.items }

-- a full list has a value for each node; a difference is over an earlier entry, and names nodes
abbrev pub IsKept : (nodes place : ℕ) → Kept → Type 0
IsKept nodes place (Full values) = length values ≡ nodes
IsKept nodes place (Over d) = (d.base < place) × All (λ c. c.0.0 < nodes) d.change

pub record AreEntries (e : Entries) : Type 0 where
  pub few : e.nodes ≤ 1_000_000
  pub kept : (k : ℕ) (d : Entry) → k < length e.list.items → IsKept e.nodes k (get_or e.list.items k d).kept
  pub sizes : All (λ h. length h.values ≡ e.nodes) (held_of e.list.items)

-- behind these entries so many values are kept so
pub record Keeps (e : Entries) (values : List Val) (kept : Kept) : Type 0 where
  pub is : values_kept (held_of e.list.items) kept ≡ values
  pub at : IsKept e.nodes (length e.list.items) kept
  pub size : length values ≡ e.nodes

-- ---- the whole

abbrev pub results_of : Inside → ResultsData
results_of r = data_of r.entries

abbrev pub AreResults : Inside → Type 0
AreResults r = AreEntries r.entries
