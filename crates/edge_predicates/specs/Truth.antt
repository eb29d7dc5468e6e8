-- The truth of a predicate at an edge, by cases on its tree.
use Rattle.std.specs.Prelude.{ℕ, pos, nat_lt, Bool, true, false, not, if◌then◌else◌, length}
use Rattle.std.specs.declared.cmp.Ordering.{Ordering}
use Rattle.std.specs.Ordering.{is_eq, is_ne, is_lt, is_le, is_gt, is_ge, nat_cmp, int_cmp, bool_cmp}
use Rattle.std.specs.Cmp.Lexicographic.{slice_cmp}
use Rattle.std.specs.List.{list_any, list_all}
use Rattle.graph_model.specs.GraphData.{GraphData, Cell, ends_of, id_of, node_cell_of, edge_cell_of}
use Rattle.edge_predicates.specs.declared.pred.Cmp.{Cmp}
use Rattle.edge_predicates.specs.declared.pred.Cmp.TheVariants as cmp
use Rattle.edge_predicates.specs.declared.pred.Place.{Place}
use Rattle.edge_predicates.specs.declared.pred.Place.TheVariants as place
use Rattle.edge_predicates.specs.declared.pred.Pred.{Pred}
use Rattle.edge_predicates.specs.declared.pred.Pred.TheOpen.{Pred-F}
use Rattle.edge_predicates.specs.declared.pred.Pred.TheFolds.{fold-Pred}
use Rattle.edge_predicates.specs.declared.pred.ViewRule.{ViewRule}

-- ---- comparisons

-- whether two values that stand so compare by the sign
abbrev pub agrees : Cmp → Ordering → Bool
agrees cmp.Eq o = is_eq o
agrees cmp.Ne o = is_ne o
agrees cmp.Lt o = is_lt o
agrees cmp.Le o = is_le o
agrees cmp.Gt o = is_gt o
agrees cmp.Ge o = is_ge o

-- truth values are equal or not, and stand in no order
abbrev pub truths_compare : Cmp → Bool → Bool → Bool
truths_compare cmp.Eq a b = is_eq (bool_cmp a b)
truths_compare cmp.Ne a b = is_ne (bool_cmp a b)
truths_compare _ a b = false

-- Numbers compare by value and texts by their bytes. With an absent cell on either side nothing compares, and so with
-- values of two kinds.
abbrev pub cells_compare : Cmp → Cell → Cell → Bool
cells_compare sign (Cell.int a) (Cell.int b) = agrees sign (int_cmp a b)
cells_compare sign (Cell.str a) (Cell.str b) = agrees sign (slice_cmp nat_cmp a b)
cells_compare sign (Cell.bool a) (Cell.bool b) = truths_compare sign a b
cells_compare sign _ _ = false

abbrev pub is_absent : Cell → Bool
is_absent Cell.absent = true
is_absent _ = false

-- ---- places

-- the cell of a node in a column; absent where there is no such column
abbrev pub node_place : GraphData → ℕ → ℕ → Cell
node_place g n column = if nat_lt column (length g.node_columns) then node_cell_of g n column else Cell.absent

-- the cell of an edge in a column; absent where there is no such column
abbrev pub edge_place : GraphData → ℕ → ℕ → Cell
edge_place g e column = if nat_lt column (length g.edge_columns) then edge_cell_of g e column else Cell.absent

-- what is read at a place, at the edge with this number
abbrev pub read_at : GraphData → ℕ → Place → Cell
read_at g e (place.Number z) = Cell.int z
read_at g e (place.Str text) = Cell.str text
read_at g e (place.Bool b) = Cell.bool b
read_at g e place.SrcId = Cell.int (pos (id_of g (ends_of g e).0.0))
read_at g e place.DstId = Cell.int (pos (id_of g (ends_of g e).1.0))
read_at g e (place.Src column) = node_place g (ends_of g e).0.0 column
read_at g e (place.Dst column) = node_place g (ends_of g e).1.0 column
read_at g e (place.Edge column) = edge_place g e column

-- ---- truth

abbrev pub truth_of : GraphData → ℕ → Pred-F Bool → Bool
truth_of g e (Pred-F.Or members) = list_any (λ holds. holds) members
truth_of g e (Pred-F.And members) = list_all (λ holds. holds) members
truth_of g e (Pred-F.Not member) = not member
truth_of g e (Pred-F.Constant b) = b
truth_of g e (Pred-F.Compare a sign b) = cells_compare sign (read_at g e a) (read_at g e b)
truth_of g e (Pred-F.Missing a) = is_absent (read_at g e a)

-- whether the predicate holds of the edge with this number
unfoldable pub truth : GraphData → ℕ → Pred → Bool
truth g e = fold-Pred Bool (truth_of g e)

-- whether each predicate of the rule holds of it
abbrev pub rule_truth : GraphData → ℕ → ViewRule → Bool
rule_truth g e rule = list_all (truth g e) rule.rules
