-- The value of an expression, by cases on its tree.
use Rattle.std.specs.Prelude.{ℕ, pos, Bool, if◌then◌else◌, fold, map, nat_lt, length}
use Rattle.std.specs.List.{list_all}
use Rattle.graph_model.specs.declared.value.Val.{Val}
use Rattle.graph_model.specs.declared.value.Val.TheVariants.{Nil, Num}
use Rattle.graph_model.specs.GraphData.{GraphData, id_of, node_cell_of, edge_cell_of}
use Rattle.vertex_lang.specs.declared.program.Expr.{Expr}
use Rattle.vertex_lang.specs.declared.program.Check.{Check}
use Rattle.vertex_lang.specs.declared.program.Check.TheOpen.{Expr-F, Check-F}
use Rattle.vertex_lang.specs.declared.program.Check.TheFolds.{fold-Expr, fold-Check}
use Rattle.vertex_lang.specs.declared.program.Program.{Program}
use Rattle.vertex_lang.specs.Values.{added, scaled, negated, first_given, lesser, greater, in_range, compares, is_nil, value_of_cell}

-- what the words of an expression stand for: the id, the start and the value of the node, what became of its messages and
-- how many there were, how many arcs leave it, and the values of properties by their columns
pub record Environment : Type 0 where
  pub id : ℕ
  pub start : Val
  pub value : Val
  pub gathered : Val
  pub count : ℕ
  pub outdeg : ℕ
  pub edge_property : ℕ → Val
  pub node_property : ℕ → Val

abbrev pub check_holds : Check-F (Environment → Bool) (Environment → Val) → Environment → Bool
check_holds (Check-F.Compare a sign b) words = compares sign (a words) (b words)
check_holds (Check-F.IsNil a) words = is_nil (a words)

abbrev pub expression_value : Expr-F (Environment → Bool) (Environment → Val) → Environment → Val
expression_value (Expr-F.If checks first second) words = if list_all (λ holds. holds words) checks then first words else second words
expression_value (Expr-F.Else members) words = first_given (map (λ member. member words) members)
expression_value (Expr-F.Sum first rest) words = fold (λ sum member. added member.0 sum (member.1 words)) (first words) rest
expression_value (Expr-F.Product first rest) words = fold (λ product member. scaled member.0 product (member.1 words)) (first words) rest
expression_value (Expr-F.Minus a) words = negated (a words)
expression_value (Expr-F.Number z) words = Num z
expression_value Expr-F.Nil words = Nil
expression_value Expr-F.Id words = Num (pos words.id)
expression_value Expr-F.Start words = words.start
expression_value Expr-F.Value words = words.value
expression_value Expr-F.Gathered words = words.gathered
expression_value Expr-F.Count words = Num (pos words.count)
expression_value Expr-F.Outdeg words = Num (pos words.outdeg)
expression_value (Expr-F.EdgeProp column) words = words.edge_property column
expression_value (Expr-F.NodeProp column) words = words.node_property column
expression_value (Expr-F.Least a b) words = in_range (lesser (a words) (b words))
expression_value (Expr-F.Most a b) words = in_range (greater (a words) (b words))

unfoldable pub value_of : Expr → Environment → Val
value_of = fold-Expr (Environment → Bool) (Environment → Val) check_holds expression_value

unfoldable pub holds_of : Check → Environment → Bool
holds_of = fold-Check (Environment → Bool) (Environment → Val) check_holds expression_value

-- ---- the parts of a program

-- the value of a node's property, and of an edge's; none where the graph has no such column
abbrev pub node_value : GraphData → ℕ → ℕ → Val
node_value graph node column = if nat_lt column (length graph.node_columns) then value_of_cell (node_cell_of graph node column) else Nil

abbrev pub edge_value : GraphData → ℕ → ℕ → Val
edge_value graph edge column = if nat_lt column (length graph.edge_columns) then value_of_cell (edge_cell_of graph edge column) else Nil

abbrev pub no_property : ℕ → Val
no_property column = Nil

-- the words at a start; the others are not used there
abbrev pub start_words : GraphData → ℕ → Environment
start_words graph node = record { id = id_of graph node; start = Nil; value = Nil; gathered = Nil; count = 0; outdeg = 0; edge_property = no_property; node_property = node_value graph node }

abbrev pub send_words : GraphData → ℕ → Val → ℕ → ℕ → Environment
send_words graph tail value outdeg edge = record { id = id_of graph tail; start = Nil; value = value; gathered = Nil; count = 0; outdeg = outdeg; edge_property = edge_value graph edge; node_property = no_property }

abbrev pub update_words : ℕ → Val → Val → Val → ℕ → Environment
update_words id start value gathered count = record { id = id; start = start; value = value; gathered = gathered; count = count; outdeg = 0; edge_property = no_property; node_property = no_property }

-- the value with which a node starts
abbrev pub start_of : Program → GraphData → ℕ → Val
start_of p graph node = value_of p.start (start_words graph node)

-- the message along an edge, from a tail with this value and so many outgoing arcs
abbrev pub sent_by : Program → GraphData → ℕ → Val → ℕ → ℕ → Val
sent_by p graph tail value outdeg edge = value_of p.send (send_words graph tail value outdeg edge)

-- what an updater answers: a function of the program, the id, the start, the value, the gathered value and the count
abbrev pub Answer : Type 0
Answer = Program → ℕ → Val → Val → Val → ℕ → Val

-- the value of the update expression
abbrev pub updated : Answer
updated p id start value gathered count = value_of p.update (update_words id start value gathered count)
