-- Predicates against the columns of a graph: each property is a column, and what is compared is of
-- one kind.
use Rattle.std.specs.Prelude.{ℕ, Bool, true, false, List, Ok}
use Rattle.graph_model.specs.GraphData.{GraphData}
use Rattle.graph_model.specs.declared.cell.Kind.{Kind}
use Rattle.graph_model.specs.declared.cell.Kind.TheVariants as kind
use Rattle.gvdl_tree.specs.declared.predicate.Cmp.{Cmp}
use Rattle.gvdl_tree.specs.declared.predicate.Cmp.TheVariants as cmp
use Rattle.gvdl_tree.specs.declared.predicate.Field.{Field}
use Rattle.gvdl_tree.specs.declared.predicate.Field.TheVariants as field
use Rattle.gvdl_tree.specs.declared.predicate.Operand.{Operand}
use Rattle.gvdl_tree.specs.declared.predicate.Operand.TheVariants as operand
use Rattle.gvdl_tree.specs.declared.predicate.PredTree.{PredTree}
use Rattle.gvdl_tree.specs.declared.predicate.PredTree.TheOpen.{PredTree-F}
use Rattle.gvdl_tree.specs.declared.predicate.PredTree.TheFolds.{fold-PredTree}
use Rattle.edge_predicates.specs.declared.pred.Cmp.{Cmp as CheckedCmp}
use Rattle.edge_predicates.specs.declared.pred.Cmp.TheVariants as checked
use Rattle.edge_predicates.specs.declared.pred.Place.{Place}
use Rattle.edge_predicates.specs.declared.pred.Place.TheVariants as place
use Rattle.edge_predicates.specs.declared.pred.Pred.{Pred}
use Rattle.edge_predicates.specs.declared.pred.Pred.TheVariants as pred
use Rattle.gvdl_programs.specs.declared.refusal.Refusal.TheVariants as refusal
use Rattle.gvdl_programs.specs.Judging.{Judged, ◌>>=◌, ◌>>◌, expect, each}
use Rattle.gvdl_programs.specs.Columns.{column_of}

-- ---- signs

abbrev pub sign_of : Cmp → CheckedCmp
sign_of cmp.Eq = checked.Eq
sign_of cmp.Ne = checked.Ne
sign_of cmp.Lt = checked.Lt
sign_of cmp.Le = checked.Le
sign_of cmp.Gt = checked.Gt
sign_of cmp.Ge = checked.Ge

abbrev pub is_equality : Cmp → Bool
is_equality cmp.Eq = true
is_equality cmp.Ne = true
is_equality _ = false

-- Both sides are of one kind. Truth values are equal or not, and stand in no order.
abbrev pub compares : Kind → Cmp → Kind → Bool
compares kind.Int sign kind.Int = true
compares kind.Str sign kind.Str = true
compares kind.Bool sign kind.Bool = is_equality sign
compares _ sign _ = false

-- ---- what is read for a side of a comparison, and its kind

abbrev pub source_placed : GraphData → Field → Judged (Place × Kind)
source_placed g field.Id = Ok (place.SrcId, kind.Int)
source_placed g (field.Prop property) = do
  column ← column_of g.node_columns property
  Ok (place.Src column.0, column.1)

abbrev pub target_placed : GraphData → Field → Judged (Place × Kind)
target_placed g field.Id = Ok (place.DstId, kind.Int)
target_placed g (field.Prop property) = do
  column ← column_of g.node_columns property
  Ok (place.Dst column.0, column.1)

abbrev pub edge_placed : GraphData → List ℕ → Judged (Place × Kind)
edge_placed g property = do
  column ← column_of g.edge_columns property
  Ok (place.Edge column.0, column.1)

abbrev pub placed : GraphData → Operand → Judged (Place × Kind)
placed g (operand.Number z) = Ok (place.Number z, kind.Int)
placed g (operand.Str text) = Ok (place.Str text, kind.Str)
placed g (operand.Bool b) = Ok (place.Bool b, kind.Bool)
placed g (operand.Src f) = source_placed g f
placed g (operand.Dst f) = target_placed g f
placed g (operand.Edge property) = edge_placed g property

-- ---- predicates

abbrev pub comparison : GraphData → Operand → Cmp → Operand → Judged Pred
comparison g a sign b = do
  first ← placed g a
  second ← placed g b
  expect (compares first.1 sign second.1) refusal.WrongType
  Ok (pred.Compare first.0 (sign_of sign) second.0)

abbrev pub predicate_of : GraphData → PredTree-F (Judged Pred) → Judged Pred
predicate_of g (PredTree-F.Or members) = do ps ← each members; Ok (pred.Or ps)
predicate_of g (PredTree-F.And members) = do ps ← each members; Ok (pred.And ps)
predicate_of g (PredTree-F.Not member) = do p ← member; Ok (pred.Not p)
predicate_of g (PredTree-F.Constant b) = Ok (pred.Constant b)
predicate_of g (PredTree-F.Compare a sign b) = comparison g a sign b
predicate_of g (PredTree-F.Missing a) = do at ← placed g a; Ok (pred.Missing at.0)

-- the predicate with its properties as columns, walked from the left
unfoldable pub predicate : GraphData → PredTree → Judged Pred
predicate g = fold-PredTree (Judged Pred) (predicate_of g)
