-- An expression of a written program, judged from the left against the columns of a graph.
use Rattle.std.specs.Prelude.{ℕ, pos, Bool, true, false, List, [], ◌∷◌, map, Option, Some, None, Ok, Err, if◌then◌else◌, bytes_eq}
use Rattle.graph_model.specs.GraphData.{GraphData}
use Rattle.gvdl_tree.specs.declared.predicate.Cmp.{Cmp}
use Rattle.gvdl_tree.specs.declared.predicate.Cmp.TheVariants as cmp
use Rattle.gvdl_tree.specs.declared.expression.Word.{Word}
use Rattle.gvdl_tree.specs.declared.expression.Word.TheVariants as word
use Rattle.gvdl_tree.specs.declared.expression.ExprTree.{ExprTree}
use Rattle.gvdl_tree.specs.declared.expression.Test.{Test}
use Rattle.gvdl_tree.specs.declared.expression.ExprTree.TheOpen.{ExprTree-F, Test-F}
use Rattle.gvdl_tree.specs.declared.expression.ExprTree.TheFolds.{fold-ExprTree, fold-Test}
use Rattle.vertex_lang.specs.declared.program.Cmp.{Cmp as ProgramCmp}
use Rattle.vertex_lang.specs.declared.program.Cmp.TheVariants as program_cmp
use Rattle.vertex_lang.specs.Values.{clamped}
use Rattle.gvdl_programs.specs.declared.refusal.Refusal.TheVariants as refusal
use Rattle.gvdl_programs.specs.declared.template.ExprTemplate.{ExprTemplate}
use Rattle.gvdl_programs.specs.declared.template.ExprTemplate.TheVariants as template
use Rattle.gvdl_programs.specs.declared.template.CheckTemplate.{CheckTemplate}
use Rattle.gvdl_programs.specs.declared.template.CheckTemplate.TheVariants as check_template
use Rattle.gvdl_programs.specs.declared.expression.Part.{Part}
use Rattle.gvdl_programs.specs.declared.expression.Part.TheVariants as part
use Rattle.gvdl_programs.specs.Judging.{Judged, ◌>>=◌, ◌>>◌, expect, each}
use Rattle.gvdl_programs.specs.Columns.{int_column}

-- parameters, each with its place
abbrev pub Places : Type 0
Places = List (List ℕ × ℕ)

-- the place of the parameter with this name
abbrev pub place_of : Places → List ℕ → Option ℕ
place_of [] name = None
place_of (taken ∷ more) name = if bytes_eq name taken.0 then Some taken.1 else place_of more name

abbrev pub known_place : Option ℕ → Judged ℕ
known_place None = Err refusal.UnknownName
known_place (Some n) = Ok n

abbrev pub parameter_of : Places → List ℕ → Judged ℕ
parameter_of parameters name = known_place (place_of parameters name)

-- ---- what a part may name

abbrev pub allows_word : Part → Word → Bool
allows_word part.Start word.Id = true
allows_word part.Send word.Id = true
allows_word part.Send word.Value = true
allows_word part.Send word.Outdeg = true
allows_word part.Update word.Id = true
allows_word part.Update word.Start = true
allows_word part.Update word.Value = true
allows_word part.Update word.Gathered = true
allows_word part.Update word.Count = true
allows_word _ _ = false

abbrev pub allows_node : Part → Bool
allows_node part.Start = true
allows_node part.Send = false
allows_node part.Update = false

abbrev pub allows_edge : Part → Bool
allows_edge part.Start = false
allows_edge part.Send = true
allows_edge part.Update = false

abbrev pub word_judged : Part → Word → Judged ExprTemplate
word_judged p w = do
  expect (allows_word p w) refusal.UnknownName
  Ok (template.Word w)

abbrev pub node_judged : GraphData → Part → List ℕ → Judged ExprTemplate
node_judged g p name = do
  expect (allows_node p) refusal.UnknownName
  column ← int_column g.node_columns name
  Ok (template.NodeProp column)

abbrev pub edge_judged : GraphData → Part → List ℕ → Judged ExprTemplate
edge_judged g p name = do
  expect (allows_edge p) refusal.UnknownName
  column ← int_column g.edge_columns name
  Ok (template.EdgeProp column)

-- ---- expressions

abbrev pub sign_of : Cmp → ProgramCmp
sign_of cmp.Eq = program_cmp.Eq
sign_of cmp.Ne = program_cmp.Ne
sign_of cmp.Lt = program_cmp.Lt
sign_of cmp.Le = program_cmp.Le
sign_of cmp.Gt = program_cmp.Gt
sign_of cmp.Ge = program_cmp.Ge

-- a member of a chain, with its sign
abbrev pub signed : Bool × Judged ExprTemplate → Judged (Bool × ExprTemplate)
signed member = do
  e ← member.1
  Ok (member.0, e)

abbrev pub check_judged : Test-F (Judged ExprTemplate) (Judged CheckTemplate) → Judged CheckTemplate
check_judged (Test-F.Compare a sign b) = do
  x ← a
  y ← b
  Ok (check_template.Compare x (sign_of sign) y)
check_judged (Test-F.IsNil a) = do
  x ← a
  Ok (check_template.IsNil x)

abbrev pub expression_judged : GraphData → Part → Places → ExprTree-F (Judged ExprTemplate) (Judged CheckTemplate) → Judged ExprTemplate
expression_judged g p ps (ExprTree-F.If tests a b) = do
  ts ← each tests
  x ← a
  y ← b
  Ok (template.If ts x y)
expression_judged g p ps (ExprTree-F.Else members) = do
  ms ← each members
  Ok (template.Else ms)
expression_judged g p ps (ExprTree-F.Sum first rest) = do
  x ← first
  ms ← each (map signed rest)
  Ok (template.Sum x ms)
expression_judged g p ps (ExprTree-F.Product first rest) = do
  x ← first
  ms ← each (map signed rest)
  Ok (template.Product x ms)
expression_judged g p ps (ExprTree-F.Minus a) = do
  x ← a
  Ok (template.Minus x)
expression_judged g p ps (ExprTree-F.Number n) = Ok (template.Number (clamped (pos n)))
expression_judged g p ps ExprTree-F.Nil = Ok template.Nil
expression_judged g p ps (ExprTree-F.Word w) = word_judged p w
expression_judged g p ps (ExprTree-F.EdgeProp name) = edge_judged g p name
expression_judged g p ps (ExprTree-F.NodeProp name) = node_judged g p name
expression_judged g p ps (ExprTree-F.Param name) = do
  n ← parameter_of ps name
  Ok (template.Param n)
expression_judged g p ps (ExprTree-F.Least a b) = do
  x ← a
  y ← b
  Ok (template.Least x y)
expression_judged g p ps (ExprTree-F.Most a b) = do
  x ← a
  y ← b
  Ok (template.Most x y)

-- an expression in this part of a program with these parameters
unfoldable pub expression : GraphData → Part → Places → ExprTree → Judged ExprTemplate
expression g p ps = fold-ExprTree (Judged ExprTemplate) (Judged CheckTemplate) (expression_judged g p ps) check_judged

unfoldable pub test : GraphData → Part → Places → Test → Judged CheckTemplate
test g p ps = fold-Test (Judged ExprTemplate) (Judged CheckTemplate) (expression_judged g p ps) check_judged
