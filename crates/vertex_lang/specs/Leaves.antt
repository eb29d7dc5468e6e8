-- The numbers, words and properties that an expression holds, and which of them each part of a program may hold.
use Rattle.std.specs.Prelude.{ℕ, ℤ, nat_lt, length, ◌&&◌, Bool, true, false, IsTrue, List, [], ◌∷◌, ◌++◌, flat_map, Contains}
use Rattle.std.specs.List.{list_all}
use Rattle.graph_model.specs.declared.cell.Kind.{Kind}
use Rattle.graph_model.specs.declared.cell.Kind.TheVariants as kinds
use Rattle.graph_model.specs.declared.cell.Column.{Column}
use Rattle.graph_model.specs.GraphData.{GraphData, kind_at}
use Rattle.vertex_lang.specs.declared.program.Expr.{Expr}
use Rattle.vertex_lang.specs.declared.program.Check.{Check}
use Rattle.vertex_lang.specs.declared.program.Check.TheOpen.{Expr-F, Check-F}
use Rattle.vertex_lang.specs.declared.program.Check.TheFolds.{fold-Expr, fold-Check}
use Rattle.vertex_lang.specs.declared.program.Program.{Program}

pub data Leaf : Type 0 where
  number : ℤ → Leaf
  id : Leaf
  start : Leaf
  value : Leaf
  gathered : Leaf
  count : Leaf
  outdeg : Leaf
  edge_property : ℕ → Leaf
  node_property : ℕ → Leaf

abbrev pub leaves_in_check : Check-F (List Leaf) (List Leaf) → List Leaf
leaves_in_check (Check-F.Compare a sign b) = a ++ b
leaves_in_check (Check-F.IsNil a) = a

abbrev pub leaves_in : Expr-F (List Leaf) (List Leaf) → List Leaf
leaves_in (Expr-F.If checks first second) = flat_map (λ ls. ls) checks ++ (first ++ second)
leaves_in (Expr-F.Else members) = flat_map (λ ls. ls) members
leaves_in (Expr-F.Sum first rest) = first ++ flat_map (λ p. p.1) rest
leaves_in (Expr-F.Product first rest) = first ++ flat_map (λ p. p.1) rest
leaves_in (Expr-F.Minus a) = a
leaves_in (Expr-F.Number z) = Leaf.number z ∷ []
leaves_in Expr-F.Nil = []
leaves_in Expr-F.Id = Leaf.id ∷ []
leaves_in Expr-F.Start = Leaf.start ∷ []
leaves_in Expr-F.Value = Leaf.value ∷ []
leaves_in Expr-F.Gathered = Leaf.gathered ∷ []
leaves_in Expr-F.Count = Leaf.count ∷ []
leaves_in Expr-F.Outdeg = Leaf.outdeg ∷ []
leaves_in (Expr-F.EdgeProp column) = Leaf.edge_property column ∷ []
leaves_in (Expr-F.NodeProp column) = Leaf.node_property column ∷ []
leaves_in (Expr-F.Least a b) = a ++ b
leaves_in (Expr-F.Most a b) = a ++ b

-- in the order of the text
unfoldable pub leaves_of : Expr → List Leaf
leaves_of = fold-Expr (List Leaf) (List Leaf) leaves_in_check leaves_in

unfoldable pub leaves_of_check : Check → List Leaf
leaves_of_check = fold-Check (List Leaf) (List Leaf) leaves_in_check leaves_in

-- an expression of the program holds this number
abbrev pub HoldsNumber : Program → ℤ → Type 0
HoldsNumber p z = Contains (leaves_of p.start ++ (leaves_of p.send ++ leaves_of p.update)) (Leaf.number z)

-- ---- what each part may hold

abbrev pub is_int : Kind → Bool
is_int kinds.Int = true
is_int kinds.Str = false
is_int kinds.Bool = false

-- the number is that of a column of numbers
abbrev pub is_int_column : List Column → ℕ → Bool
is_int_column columns column = nat_lt column (length columns) && is_int (kind_at columns column)

abbrev pub in_start : List Column → Leaf → Bool
in_start columns (Leaf.number z) = true
in_start columns Leaf.id = true
in_start columns (Leaf.node_property column) = is_int_column columns column
in_start columns _ = false

abbrev pub in_send : List Column → Leaf → Bool
in_send columns (Leaf.number z) = true
in_send columns Leaf.id = true
in_send columns Leaf.value = true
in_send columns Leaf.outdeg = true
in_send columns (Leaf.edge_property column) = is_int_column columns column
in_send columns _ = false

abbrev pub in_update : Leaf → Bool
in_update Leaf.outdeg = false
in_update (Leaf.edge_property column) = false
in_update (Leaf.node_property column) = false
in_update _ = true

pub record IsUpdate (p : Program) : Type 0 where
  pub update : IsTrue (list_all in_update (leaves_of p.update))

-- the program is checked against this graph
pub record IsChecked (p : Program) (graph : GraphData) : Type 0 where
  pub start : IsTrue (list_all (in_start graph.node_columns) (leaves_of p.start))
  pub send : IsTrue (list_all (in_send graph.edge_columns) (leaves_of p.send))
  pub update : IsUpdate p
