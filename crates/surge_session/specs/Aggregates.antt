-- The text of an aggregate of a view.
use Rattle.std.specs.Prelude.{ℕ, ℤ, Bool, true, false, List, [], ◌∷◌, ◌++◌, map, flat_map, slice_get, codes, Option, Some, None}
use Rattle.std.specs.Fmt.{decimal, signed_decimal}
use Rattle.graph_model.specs.declared.cell.Column.{Column}
use Rattle.graph_model.specs.GraphData.{GraphData}
use Rattle.gvdl_printer.specs.Canonical.{canonical_property, canonical_string}
use Rattle.gvdl_check.specs.declared.plan.ViewPlan.{ViewPlan}
use Rattle.aggregate_views.specs.declared.cell.Cell.{Cell}
use Rattle.aggregate_views.specs.declared.cell.Cell.TheVariants as cell
use Rattle.aggregate_views.specs.declared.cell.GroupRow.{GroupRow}
use Rattle.aggregate_views.specs.Rows.{rows_of}
use Rattle.result_tables.specs.TableText.{line_end}
use Rattle.surge_session.specs.Live.{LiveGraph, live_edges}

-- a text stands as a string of the script language
abbrev pub cell_text : Cell → List ℕ
cell_text cell.Absent = codes "-"
cell_text (cell.Int z) = signed_decimal z
cell_text (cell.Str text) = canonical_string text
cell_text (cell.Bool true) = codes "true"
cell_text (cell.Bool false) = codes "false"

-- the sum, where there is one
abbrev pub sum_text : Option ℕ → ℤ → List ℕ
sum_text None z = []
sum_text (Some column) z = codes "," ++ signed_decimal z

abbrev pub row_line : Option ℕ → GroupRow → List ℕ
row_line sum row = cell_text row.from ++ (codes "," ++ (cell_text row.to ++ (codes "," ++ (decimal row.count ++ (sum_text sum row.sum ++ line_end)))))

-- the name of a column, as the canonical text of a script writes it
abbrev pub column_name : Option Column → List ℕ
column_name None = []
column_name (Some column) = canonical_property column.name

abbrev pub sum_name : GraphData → Option ℕ → List ℕ
sum_name g None = []
sum_name g (Some column) = codes " sum " ++ column_name (slice_get g.edge_columns column)

abbrev pub aggregate_head : GraphData → (by : ℕ) → Option ℕ → (collection view : List ℕ) → List ℕ
aggregate_head g by sum collection view =
    codes "aggregate " ++ (collection ++ (codes "." ++ (view ++ (codes " by " ++ (column_name (slice_get g.node_columns by) ++ sum_name g sum)))))

-- a line for each pair of groups, and `end`
abbrev pub aggregate_text : LiveGraph → (by : ℕ) → Option ℕ → List ℕ → ViewPlan → List ℕ
aggregate_text w by sum collection view =
    aggregate_head w.graph by sum collection view.name ++ (line_end ++ (flat_map (row_line sum) (rows_of w.graph by sum (map (λ e. e.0) (live_edges w view.rule))) ++ (codes "end" ++ line_end)))

-- ---- inside

-- the first line behind the view's name, for all views
abbrev pub grouped_text : GraphData → (by : ℕ) → Option ℕ → List ℕ
grouped_text g by sum = codes " by " ++ (column_name (slice_get g.node_columns by) ++ (sum_name g sum ++ line_end))

-- the text of a view by these rows, of which `grouped` is the first line behind its name
abbrev pub rows_text : Option ℕ → (collection name grouped : List ℕ) → List GroupRow → List ℕ
rows_text sum collection name grouped rows = codes "aggregate " ++ (collection ++ (codes "." ++ (name ++ (grouped ++ (flat_map (row_line sum) rows ++ (codes "end" ++ line_end))))))
