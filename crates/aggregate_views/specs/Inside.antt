-- What contracts see of the groups of a graph's edges, and what holds of its fields.
use Rattle.std.specs.Prelude.{◌≡◌, ℕ, ◌<◌, ◌≤◌, Bool, false, List, length, map, Option}
use Rattle.std.specs.declared.cmp.Ordering.{Ordering}
use Rattle.graph_model.specs.GraphData.{GraphData}
use Rattle.lattice_time.specs.declared.position.Position.{Position}
use Rattle.flow_core.specs.Runs.{Run, Every}
use Rattle.reduce_theory.specs.ByKey.{reduce_apply}
use Rattle.aggregate_views.specs.declared.part.Part.{Part}
use Rattle.aggregate_views.specs.declared.part.Totals.{Totals}
use Rattle.aggregate_views.specs.declared.groups.Groups.TheInside.{Inside}
use Rattle.aggregate_views.specs.Rows.{HasSumColumn, present_edges}
use Rattle.aggregate_views.specs.Coding.{AreCodes, key_cell, entries_of, totals_of, IsKnown}
use Rattle.aggregate_views.specs.Keeping.{IsFed}

-- the graph, the column of the groups and that of the numbers, of each edge whether it is present, how many lists of changes
-- were applied, and whether memory was wanting
pub record GroupsData : Type 0 where
  pub graph : GraphData
  pub column : ℕ
  pub sum : Option ℕ
  pub present : List Bool
  pub applied : ℕ
  pub spent : Bool

abbrev pub data_of : Inside → GroupsData
data_of a = record { graph = a.encoding.graph.now; column = a.column; sum = a.encoding.sum; present = a.present.items; applied = a.kept.at; spent = a.spent }

-- the nodes have the places of their cells, and the operator was fed the entries of the present edges
pub record IsGroups {S : Type 0} (stands : S → Run Position ((ℕ × ℕ) × Part) ((ℕ × ℕ) × Totals) → Type 0) (due : S → List Position) (seal : S → Position) (spent : S → Bool) (apply : S → List (((ℕ × ℕ) × Part) × ℕ) → List (((ℕ × ℕ) × Totals) × ℕ)) (kcmp : ℕ × ℕ → ℕ × ℕ → Ordering) (pcmp : Part → Part → Ordering) (operator : S) (a : Inside) : Type 0 where
  pub column : a.column < length a.encoding.graph.now.node_columns
  pub sum : HasSumColumn a.encoding.graph.now a.encoding.sum
  pub codes : AreCodes a.encoding.graph.now a.column (map key_cell a.keys.items) a.encoding.places.items
  pub groups : a.encoding.groups ≡ length a.keys.items
  pub edges : length a.present.items ≡ length a.encoding.graph.now.ends
  pub few : length a.present.items ≤ 4_000_000
  pub known : Every (IsKnown a.encoding.graph.now a.encoding.sum) (present_edges a.present.items)
  pub fed : a.spent ≡ false → IsFed stands due seal spent operator a.kept.at a.kept.held (entries_of a.encoding.graph.now a.encoding.places.items a.encoding.sum (present_edges a.present.items))
  pub function : apply operator ≡ reduce_apply kcmp pcmp (λ _. totals_of pcmp)
