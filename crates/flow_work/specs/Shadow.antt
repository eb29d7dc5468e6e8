-- A program whose nodes start with given values, as a program over a graph that has these values as a property of its nodes.
use Rattle.std.specs.Prelude.{ℤ, List, [], ◌∷◌, map, Option, Some, None}
use Rattle.graph_model.specs.declared.cell.Cells.TheVariants as cells
use Rattle.graph_model.specs.declared.value.Val.{Val}
use Rattle.graph_model.specs.declared.value.Val.TheVariants.{Nil, Num}
use Rattle.graph_model.specs.GraphData.{GraphData, no_column}
use Rattle.vertex_lang.specs.declared.program.Expr.TheVariants as expr
use Rattle.vertex_lang.specs.declared.program.Program.{Program}
use Rattle.vertex_lang.specs.Expressions.{Answer}

-- the program with the first property of a node as its start
abbrev pub by_property : Program → Program
by_property p = record p { start = expr.NodeProp 0 }

abbrev pub as_cell : Val → Option ℤ
as_cell Nil = None
as_cell (Num z) = Some z

-- the graph, whose nodes have these values as their one property
abbrev pub with_property : GraphData → List Val → GraphData
with_property graph values = record graph { node_columns = no_column ∷ []; node_cells = cells.Int (map as_cell values) ∷ [] }

-- what an updater answers for this program, whatever program it is asked for
abbrev pub answer_for : Answer → Program → Answer
answer_for answer p other = answer p
