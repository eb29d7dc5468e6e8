-- The text of a view's table.
use Rattle.std.specs.Prelude.{ℕ, ℤ, List, [], ◌∷◌, ◌++◌, codes, drop, flat_map, get_or, take, sum_by, pos, ◌+ℤ◌}
use Rattle.std.specs.Fmt.{decimal, signed_decimal}
use Rattle.graph_model.specs.GraphData.{GraphData, id_of, nodes_by_id}
use Rattle.graph_model.specs.declared.number.NodeNo.{NodeNo}
use Rattle.graph_model.specs.declared.value.Val.{Val}
use Rattle.graph_model.specs.declared.value.Val.TheVariants.{Nil, Num}
use Rattle.vertex_lang.specs.declared.lone.Outcome.{Outcome}
use Rattle.vertex_lang.specs.declared.lone.Outcome.TheVariants as outcome
use Rattle.vertex_lang.specs.declared.lone.Lone.{Lone}
use Rattle.vertex_lang.specs.Lone.{HasAllValuesAt}
use Rattle.result_tables.specs.declared.table.Table.{Table}
use Rattle.result_tables.specs.declared.form.Form.{Form}
use Rattle.result_tables.specs.declared.form.Form.TheVariants as form

-- the answer of a plain run, as a table
abbrev pub table_of : Lone → Table
table_of lone = record { outcome = lone.outcome; values = lone.values }

-- a value for each node, unless the run was to settle and did not
abbrev pub IsTable : GraphData → Table → Type 0
IsTable graph table = HasAllValuesAt graph table.outcome table.values

-- ---- the table

-- the byte that ends a line
abbrev pub line_end : List ℕ
line_end = 10 ∷ []

abbrev pub value_text : Val → List ℕ
value_text Nil = codes "-"
value_text (Num z) = signed_decimal z

-- the line of a node with this id and value
abbrev pub value_line : ℕ → Val → List ℕ
value_line id value = decimal id ++ (codes "," ++ (value_text value ++ line_end))

abbrev pub outcome_text : Outcome → List ℕ
outcome_text (outcome.Settled r) = codes "settled " ++ decimal r
outcome_text (outcome.After n) = codes "after " ++ decimal n
outcome_text (outcome.Phases m) = codes "phases " ++ decimal m
outcome_text outcome.Unsettled = codes "unsettled"

-- the line of a node, by its number
abbrev pub node_line : GraphData → List Val → NodeNo → List ℕ
node_line graph values n = value_line (id_of graph n.0) (get_or values n.0 Nil)

abbrev pub node_lines : GraphData → List Val → List ℕ
node_lines graph values = flat_map (node_line graph values) (nodes_by_id graph.ids)

-- the lines of the nodes from one place by rising id up to another
abbrev pub lines_between : GraphData → List Val → (from upto : ℕ) → List ℕ
lines_between graph values from upto = flat_map (node_line graph values) (drop from (take upto (nodes_by_id graph.ids)))

-- a line for each node by rising id; none where a run that was to settle did not
abbrev pub rows : GraphData → Outcome → List Val → List ℕ
rows graph (outcome.Settled r) values = node_lines graph values
rows graph (outcome.After n) values = node_lines graph values
rows graph (outcome.Phases m) values = node_lines graph values
rows graph outcome.Unsettled values = []

-- what a table is of: `view C.v P`, with the collection, the view and the call
abbrev pub head_text : List ℕ → List ℕ → List ℕ → List ℕ
head_text collection view call = codes "view " ++ (collection ++ (codes "." ++ (view ++ (codes " " ++ call))))

-- what stands behind the head: how the run ended, the lines of the nodes, and `end`
abbrev pub tail_text : GraphData → Table → List ℕ
tail_text graph table = codes " " ++ (outcome_text table.outcome ++ (line_end ++ (rows graph table.outcome table.values ++ (codes "end" ++ line_end))))

abbrev pub table_text : List ℕ → GraphData → Table → List ℕ
table_text head graph table = head ++ tail_text graph table

-- ---- its summary

-- none is no value, and adds nothing
abbrev pub count_one : Val → ℕ
count_one Nil = 0
count_one (Num z) = 1

abbrev pub number_of : Val → ℤ
number_of Nil = pos 0
number_of (Num z) = z

-- how many values there are
abbrev pub count_values : List Val → ℕ
count_values values = sum_by count_one values

-- their exact sum
abbrev pub sum_values : List Val → ℤ
sum_values [] = pos 0
sum_values (value ∷ values) = number_of value +ℤ sum_values values

-- how many values there are, and their sum
abbrev pub sums_text : List Val → List ℕ
sums_text values = codes " values " ++ (decimal (count_values values) ++ (codes " sum " ++ signed_decimal (sum_values values)))

-- the same; nothing where a run that was to settle did not
abbrev pub totals_text : Outcome → List Val → List ℕ
totals_text (outcome.Settled r) values = sums_text values
totals_text (outcome.After n) values = sums_text values
totals_text (outcome.Phases m) values = sums_text values
totals_text outcome.Unsettled values = []

-- what stands behind the head: how the run ended, how many edges the view has, and, where there are values, how many
-- they are and their sum
abbrev pub summary_tail : (edges : ℕ) → Table → List ℕ
summary_tail edges table = codes " " ++ (outcome_text table.outcome ++ (codes " edges " ++ (decimal edges ++ (totals_text table.outcome table.values ++ line_end))))

abbrev pub summary_text : List ℕ → (edges : ℕ) → Table → List ℕ
summary_text head edges table = head ++ summary_tail edges table

-- ---- in a form

-- a table that stands alone: in a change text it is a block of all its rows
abbrev pub form_text : Form → List ℕ → (edges : ℕ) → GraphData → Table → List ℕ
form_text form.Tables head edges graph table = table_text head graph table
form_text form.Summary head edges graph table = summary_text head edges table
form_text form.Changes head edges graph table = table_text head graph table
