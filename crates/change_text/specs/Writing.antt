-- The block of a view's table behind that of the view before.
use Rattle.std.specs.Prelude.{◌≡◌, ℕ, Bool, true, false, not, ◌&&◌, if◌then◌else◌, List, [], codes, drop, filter, get_or, map, take, Option, Some, None}
use Rattle.graph_model.specs.GraphData.{GraphData, id_of, nodes_by_id}
use Rattle.graph_model.specs.declared.number.NodeNo.{NodeNo}
use Rattle.graph_model.specs.declared.value.Val.{Val}
use Rattle.graph_model.specs.declared.value.Val.TheVariants.{Nil}
use Rattle.vertex_lang.specs.Lone.{same_value}
use Rattle.vertex_lang.specs.declared.lone.Outcome.{Outcome}
use Rattle.vertex_lang.specs.declared.lone.Outcome.TheVariants as outcome
use Rattle.result_tables.specs.TableText.{IsTable}
use Rattle.result_tables.specs.declared.table.Table.{Table}
use Rattle.change_text.specs.declared.row.Row.{Row}
use Rattle.change_text.specs.declared.kind.Kind.{Kind}
use Rattle.change_text.specs.declared.kind.Kind.TheVariants as kind
use Rattle.change_text.specs.Blocks.{Block}

-- what the table before is of, if there is one
abbrev pub IsTableBefore : GraphData → Option Table → Type 0
IsTableBefore graph None = Unit {0}
IsTableBefore graph (Some table) = IsTable graph table

-- what a table is of begins with the word `view`
abbrev pub IsTableHead : List ℕ → Type 0
IsTableHead head = take 5 head ≡ codes "view "

abbrev pub is_shown : Outcome → Bool
is_shown (outcome.Settled r) = true
is_shown (outcome.After r) = true
is_shown (outcome.Phases r) = true
is_shown outcome.Unsettled = false

-- a change where both tables have rows
abbrev pub kind_behind : Option Table → Table → Kind
kind_behind None table = kind.Full
kind_behind (Some before) table = if is_shown before.outcome && is_shown table.outcome then kind.Change else kind.Full

-- the row of a node, by its number
abbrev pub row_of : GraphData → List Val → NodeNo → Row
row_of graph values n = record { id = id_of graph n.0; value = get_or values n.0 Nil }

-- a row for each node by rising id; none where a run that was to settle did not
abbrev pub table_rows : GraphData → Outcome → List Val → List Row
table_rows graph (outcome.Settled r) values = map (row_of graph values) (nodes_by_id graph.ids)
table_rows graph (outcome.After r) values = map (row_of graph values) (nodes_by_id graph.ids)
table_rows graph (outcome.Phases r) values = map (row_of graph values) (nodes_by_id graph.ids)
table_rows graph outcome.Unsettled values = []

-- whether a node has another value than before
abbrev pub is_changed : List Val → List Val → NodeNo → Bool
is_changed before values n = not (same_value (get_or before n.0 Nil) (get_or values n.0 Nil))

-- the block of all rows of a table that is of `head`
abbrev pub full_of : List ℕ → GraphData → Table → Block
full_of head graph table = record { kind = kind.Full; head = drop 5 head; outcome = table.outcome; rows = table_rows graph table.outcome table.values }

-- a row for each node that has another value than before, by rising id
abbrev pub changed_rows : GraphData → List Val → List Val → List Row
changed_rows graph before values = map (row_of graph values) (filter (is_changed before values) (nodes_by_id graph.ids))

abbrev pub rows_behind : Kind → GraphData → Option Table → Table → List Row
rows_behind kind.Full graph before table = table_rows graph table.outcome table.values
rows_behind kind.Change graph None table = table_rows graph table.outcome table.values
rows_behind kind.Change graph (Some before) table = changed_rows graph before.values table.values

-- the block of a table that is of `head`, behind the table before, if there is one
abbrev pub block_of : List ℕ → GraphData → Option Table → Table → Block
block_of head graph before table =
    record { kind = kind_behind before table; head = drop 5 head; outcome = table.outcome; rows = rows_behind (kind_behind before table) graph before table }
