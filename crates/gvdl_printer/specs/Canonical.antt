-- The canonical text of a script. Parentheses stand only where the place of a tree needs them.
use Rattle.std.specs.Prelude.{ℕ, suc, ℤ, pos, negsuc, Bool, nat_lt, if◌then◌else◌, List, [], ◌∷◌, ◌++◌, Option, Some, None}
use Rattle.std.specs.List.{flat_map, join_by}
use Rattle.gvdl_tokens.specs.declared.token.Token.{Token}
use Rattle.gvdl_tokens.specs.declared.token.Token.TheVariants as t
use Rattle.gvdl_tokens.specs.declared.token.Sign.TheVariants as s
use Rattle.gvdl_tokens.specs.declared.word.Word.TheVariants as w
use Rattle.gvdl_tree.specs.declared.predicate.Field.{Field}
use Rattle.gvdl_tree.specs.declared.predicate.Field.TheVariants as field
use Rattle.gvdl_tree.specs.declared.predicate.Operand.{Operand}
use Rattle.gvdl_tree.specs.declared.predicate.Operand.TheVariants as operand
use Rattle.gvdl_tree.specs.declared.predicate.PredTree.{PredTree}
use Rattle.gvdl_tree.specs.declared.predicate.PredTree.TheOpen.{PredTree-F}
use Rattle.gvdl_tree.specs.declared.predicate.PredTree.TheFolds.{fold-PredTree}
use Rattle.gvdl_tree.specs.declared.expression.ExprTree.{ExprTree}
use Rattle.gvdl_tree.specs.declared.expression.ExprTree.TheOpen.{ExprTree-F, Test-F}
use Rattle.gvdl_tree.specs.declared.expression.ExprTree.TheFolds.{fold-ExprTree, fold-Test}
use Rattle.gvdl_tree.specs.declared.expression.Test.{Test}
use Rattle.gvdl_tree.specs.declared.script.Arg.{Arg}
use Rattle.gvdl_tree.specs.declared.script.Arg.TheVariants as arg
use Rattle.gvdl_tree.specs.declared.script.Call.{Call}
use Rattle.gvdl_tree.specs.declared.script.Item.{Item}
use Rattle.gvdl_tree.specs.declared.script.ItemBody.{ItemBody}
use Rattle.gvdl_tree.specs.declared.script.ItemBody.TheVariants as body
use Rattle.gvdl_tree.specs.declared.script.OrderWord.{OrderWord}
use Rattle.gvdl_tree.specs.declared.script.SplitWord.{SplitWord}
use Rattle.gvdl_tree.specs.declared.script.SplitWord.TheVariants as split
use Rattle.gvdl_tree.specs.declared.script.Statement.{Statement}
use Rattle.gvdl_tree.specs.declared.script.Statement.TheVariants as statement
use Rattle.gvdl_tree.specs.declared.script.Script.{Script}
use Rattle.gvdl_parser.specs.Terminals.{cmp_token, truth_token, value_token, term_token, factor_token, along_token, gather_token, order_token, within_token}
use Rattle.gvdl_printer.specs.Names.{is_name}
use Rattle.gvdl_printer.specs.Layout.{Piece, plain, word, sign, call_open, negative_sign, tokens, laid_out, line}

-- in parentheses, if they are needed
abbrev pub enclosed : Bool → List Piece → List Piece
enclosed needed pieces = if needed then sign s.Open ∷ (pieces ++ sign s.Close ∷ []) else pieces

-- what is written of each, with this piece between each two
abbrev pub joined : {A : Type 0} → Piece → (A → List Piece) → List A → List Piece
joined x f members = join_by f (x ∷ []) members

-- ---- predicates

-- a whole number, without a - before 0
abbrev pub int_pieces : ℤ → List Piece
int_pieces (pos n) = plain (t.Number n) ∷ []
int_pieces (negsuc n) = negative_sign ∷ plain (t.Number (suc n)) ∷ []

-- a property: as a name where it is one, else as a quoted name
abbrev pub prop_piece : List ℕ → Piece
prop_piece p = if is_name p then plain (t.Name p) else plain (t.Quoted p)

abbrev pub field_piece : Field → Piece
field_piece field.Id = word w.Id
field_piece (field.Prop p) = prop_piece p

abbrev pub operand_pieces : Operand → List Piece
operand_pieces (operand.Number n) = int_pieces n
operand_pieces (operand.Str text) = plain (t.Str text) ∷ []
operand_pieces (operand.Bool b) = plain (truth_token b) ∷ []
operand_pieces (operand.Src f) = word w.Src ∷ sign s.Dot ∷ field_piece f ∷ []
operand_pieces (operand.Dst f) = word w.Dst ∷ sign s.Dot ∷ field_piece f ∷ []
operand_pieces (operand.Edge p) = prop_piece p ∷ []

-- The number of a place is how tightly it binds: alone 0, a member of `or` 1, a member of `and` or behind `not` 2.
abbrev pub written_predicate : PredTree-F (ℕ → List Piece) → ℕ → List Piece
written_predicate (PredTree-F.Or members) place = enclosed (nat_lt 0 place) (joined (word w.Or) (λ p. p 1) members)
written_predicate (PredTree-F.And members) place = enclosed (nat_lt 1 place) (joined (word w.And) (λ p. p 2) members)
written_predicate (PredTree-F.Not p) place = word w.Not ∷ p 2
written_predicate (PredTree-F.Constant b) place = plain (truth_token b) ∷ []
written_predicate (PredTree-F.Compare a c b) place = operand_pieces a ++ plain (cmp_token c) ∷ operand_pieces b
written_predicate (PredTree-F.Missing a) place = operand_pieces a ++ word w.Is ∷ word w.Absent ∷ []

unfoldable pub predicate_pieces : PredTree → ℕ → List Piece
predicate_pieces = fold-PredTree (ℕ → List Piece) written_predicate

-- ---- expressions

abbrev pub written_test : Test-F (ℕ → List Piece) (List Piece) → List Piece
written_test (Test-F.Compare a c b) = a 1 ++ plain (cmp_token c) ∷ b 1
written_test (Test-F.IsNil a) = a 1 ++ word w.Is ∷ word w.None ∷ []

-- The number of a place is how tightly it binds: alone 0, a branch or a side of a test 1, a member of a sum 2, a member of a
-- product or behind `-` 3.
abbrev pub written_expression : ExprTree-F (ℕ → List Piece) (List Piece) → ℕ → List Piece
written_expression (ExprTree-F.If tests a b) place = enclosed (nat_lt 0 place) (word w.If ∷ (joined (word w.And) (λ test. test) tests ++ word w.Then ∷ (a 1 ++ word w.Else ∷ b 0)))
written_expression (ExprTree-F.Else members) place = enclosed (nat_lt 0 place) (joined (word w.Else) (λ a. a 1) members)
written_expression (ExprTree-F.Sum first others) place = enclosed (nat_lt 1 place) (first 2 ++ flat_map (λ other. plain (term_token other.0) ∷ other.1 2) others)
written_expression (ExprTree-F.Product first others) place = enclosed (nat_lt 2 place) (first 3 ++ flat_map (λ other. plain (factor_token other.0) ∷ other.1 3) others)
written_expression (ExprTree-F.Minus a) place = negative_sign ∷ a 3
written_expression (ExprTree-F.Number n) place = plain (t.Number n) ∷ []
written_expression ExprTree-F.Nil place = word w.None ∷ []
written_expression (ExprTree-F.Word v) place = plain (value_token v) ∷ []
written_expression (ExprTree-F.EdgeProp p) place = word w.Edge ∷ sign s.Dot ∷ prop_piece p ∷ []
written_expression (ExprTree-F.NodeProp p) place = word w.Node ∷ sign s.Dot ∷ prop_piece p ∷ []
written_expression (ExprTree-F.Param p) place = plain (t.Name p) ∷ []
written_expression (ExprTree-F.Least a b) place = word w.Min ∷ call_open ∷ (a 0 ++ sign s.Comma ∷ (b 0 ++ sign s.Close ∷ []))
written_expression (ExprTree-F.Most a b) place = word w.Max ∷ call_open ∷ (a 0 ++ sign s.Comma ∷ (b 0 ++ sign s.Close ∷ []))

unfoldable pub expression_pieces : ExprTree → ℕ → List Piece
expression_pieces = fold-ExprTree (ℕ → List Piece) (List Piece) written_expression written_test

unfoldable pub test_pieces : Test → List Piece
test_pieces = fold-Test (ℕ → List Piece) (List Piece) written_expression written_test

-- ---- calls and parameters

-- between the parentheses of a call; nothing where there is nothing
abbrev pub in_call : {A : Type 0} → (A → List Piece) → List A → List Piece
in_call f [] = []
in_call f (first ∷ others) = call_open ∷ (joined (sign s.Comma) f (first ∷ others) ++ sign s.Close ∷ [])

abbrev pub arg_pieces : Arg → List Piece
arg_pieces (arg.Number n) = int_pieces n
arg_pieces (arg.Prop p) = prop_piece p ∷ []

abbrev pub call_pieces : Call → List Piece
call_pieces call = plain (t.Name call.name) ∷ in_call arg_pieces call.args

-- ---- statements

abbrev pub body_pieces : ItemBody → List Piece
body_pieces (body.Rule p) = predicate_pieces p 0
body_pieces (body.Window p first last width step) =
    word w.Window ∷ prop_piece p ∷ word w.From ∷ (int_pieces first ++ word w.To ∷ (int_pieces last ++ word w.Width ∷ plain (t.Number width) ∷ word w.Step ∷ plain (t.Number step) ∷ []))

abbrev pub item_pieces : Item → List Piece
item_pieces item = sign s.OpenBracket ∷ plain (t.Name item.name) ∷ sign s.Colon ∷ (body_pieces item.body ++ sign s.CloseBracket ∷ [])

abbrev pub items_pieces : List Item → List Piece
items_pieces items = joined (sign s.Comma) item_pieces items

abbrev pub order_pieces : Option OrderWord → List Piece
order_pieces None = []
order_pieces (Some o) = word w.Order ∷ plain (order_token o) ∷ []

abbrev pub split_pieces : Option SplitWord → List Piece
split_pieces None = []
split_pieces (Some split.Whole) = word w.Split ∷ word w.None ∷ []
split_pieces (Some (split.Every n)) = word w.Split ∷ word w.Every ∷ plain (t.Number n) ∷ []
split_pieces (Some split.Auto) = word w.Split ∷ word w.Auto ∷ []

abbrev pub keep_pieces : Option (List ℕ) → List Piece
keep_pieces None = []
keep_pieces (Some name) = word w.Keep ∷ word w.As ∷ plain (t.Name name) ∷ []

abbrev pub phases_pieces : Option ℕ → List Piece
phases_pieces None = []
phases_pieces (Some n) = word w.Phases ∷ plain (t.Number n) ∷ []

-- what stands behind the rounds of a run
abbrev pub options_pieces : Option OrderWord → Option SplitWord → Option (List ℕ) → Option ℕ → List Piece
options_pieces order split keep phases = phases_pieces phases ++ (order_pieces order ++ (split_pieces split ++ (keep_pieces keep ++ sign s.Semicolon ∷ [])))

abbrev pub sum_pieces : Option (List ℕ) → List Piece
sum_pieces None = []
sum_pieces (Some p) = word w.Sum ∷ prop_piece p ∷ []

abbrev pub statement_pieces : Statement → List Piece
statement_pieces (statement.View name base rule) =
    word w.Create ∷ word w.View ∷ plain (t.Name name) ∷ word w.On ∷ plain (t.Name base) ∷ word w.Edges ∷ word w.Where ∷ (predicate_pieces rule 0 ++ sign s.Semicolon ∷ [])
statement_pieces (statement.Collection name base items) =
    word w.Create ∷ word w.View ∷ word w.Collection ∷ plain (t.Name name) ∷ word w.On ∷ plain (t.Name base) ∷ (items_pieces items ++ sign s.Semicolon ∷ [])
statement_pieces (statement.Program name params along start send gather update) =
    word w.Program ∷ plain (t.Name name) ∷ (in_call (λ p. plain (t.Name p) ∷ []) params ++ sign s.OpenBrace
    ∷ word w.Along ∷ plain (along_token along) ∷ sign s.Semicolon
    ∷ word w.Start ∷ (expression_pieces start 0 ++ sign s.Semicolon
    ∷ word w.Send ∷ (expression_pieces send 0 ++ sign s.Semicolon
    ∷ word w.Gather ∷ plain (gather_token gather) ∷ sign s.Semicolon
    ∷ word w.Update ∷ (expression_pieces update 0 ++ sign s.Semicolon ∷ sign s.CloseBrace ∷ []))))
statement_pieces (statement.Run call target within number order split keep phases) =
    word w.Run ∷ (call_pieces call ++ word w.On ∷ plain (t.Name target) ∷ plain (within_token within) ∷ plain (t.Number number) ∷ word w.Rounds
    ∷ options_pieces order split keep phases)
statement_pieces (statement.Append target items) = word w.Append ∷ word w.To ∷ plain (t.Name target) ∷ (items_pieces items ++ sign s.Semicolon ∷ [])
statement_pieces (statement.ShowOrder name) = word w.Show ∷ word w.Order ∷ plain (t.Name name) ∷ sign s.Semicolon ∷ []
statement_pieces (statement.ShowWork name) = word w.Show ∷ word w.Work ∷ plain (t.Name name) ∷ sign s.Semicolon ∷ []
statement_pieces (statement.ShowTree name) = word w.Show ∷ word w.Tree ∷ plain (t.Name name) ∷ sign s.Semicolon ∷ []
statement_pieces (statement.Insert file) = word w.Insert ∷ word w.Edges ∷ plain (t.Str file) ∷ sign s.Semicolon ∷ []
statement_pieces (statement.Remove rule) = word w.Remove ∷ word w.Edges ∷ word w.Where ∷ (predicate_pieces rule 0 ++ sign s.Semicolon ∷ [])
statement_pieces (statement.Aggregate target by sum) =
    word w.Aggregate ∷ plain (t.Name target) ∷ word w.Group ∷ word w.By ∷ prop_piece by ∷ (sum_pieces sum ++ sign s.Semicolon ∷ [])

abbrev pub load_pieces : Script → List Piece
load_pieces script = word w.Load ∷ word w.Graph ∷ plain (t.Name script.graph) ∷ word w.Nodes ∷ plain (t.Str script.nodes) ∷ word w.Edges ∷ plain (t.Str script.edges) ∷ sign s.Semicolon ∷ []

abbrev pub form_pieces : ℕ → List Piece
form_pieces n = word w.Form ∷ plain (t.Number n) ∷ sign s.Semicolon ∷ []

-- ---- texts

-- the line of the form, where it is written
abbrev pub form_line : Option ℕ → List ℕ
form_line None = []
form_line (Some n) = line (form_pieces n)

abbrev pub form_tokens : Option ℕ → List Token
form_tokens None = []
form_tokens (Some n) = tokens (form_pieces n)

-- one statement a line, the form and the load first
abbrev pub canonical : Script → List ℕ
canonical script = form_line script.form ++ (line (load_pieces script) ++ flat_map (λ statement. line (statement_pieces statement)) script.statements)

-- the tokens of the canonical text
abbrev pub canonical_tokens : Script → List Token
canonical_tokens script = form_tokens script.form ++ (tokens (load_pieces script) ++ flat_map (λ statement. tokens (statement_pieces statement)) script.statements)

-- the canonical text of a property
abbrev pub canonical_property : List ℕ → List ℕ
canonical_property name = laid_out (prop_piece name ∷ [])

-- the canonical text of a string
abbrev pub canonical_string : List ℕ → List ℕ
canonical_string string = laid_out (plain (t.Str string) ∷ [])

-- the canonical text of a call
abbrev pub canonical_call : Call → List ℕ
canonical_call call = laid_out (call_pieces call)
