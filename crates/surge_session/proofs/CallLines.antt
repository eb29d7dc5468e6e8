-- What a table of a plan's run is of is one line.
use Rattle.std.proofs.Common.{◌≡◌, ◌≢◌, ℕ, suc, ◌<◌, ◌^◌, ℤ, pos, negsuc, Bool, true, false, List, [], ◌∷◌, ◌++◌, map, drop, codes, refl, sym, subst, arith}
use Rattle.std.specs.Prelude.{All, Contains, ◌==◌, ◌||◌, if◌then◌else◌}
use Rattle.std.specs.List.{flat_map}
use Rattle.std.proofs.lemmas.List.Elements.{All-nil, All-cons, All-head, All-tail, All-append, All-contains}
use Rattle.graph_model.specs.declared.cell.Column.{Column}
use Rattle.graph_model.specs.GraphData.{GraphData, names_of}
use Rattle.graph_loader.specs.ColumnLaws.{HasPropertyName}
use Rattle.graph_loader.specs.Laws.{names-are-lines}
use Rattle.graph_loader.specs.LoadLaws.{NamesProperties}
use Rattle.gvdl_tokens.specs.declared.token.Token.TheVariants as t
use Rattle.gvdl_tokens.specs.declared.token.Sign.TheVariants as s
use Rattle.gvdl_tokens.specs.Printing.{spell}
use Rattle.gvdl_tokens.specs.Spelling.{doubled, enclosed}
use Rattle.gvdl_tree.specs.declared.script.Arg.{Arg}
use Rattle.gvdl_tree.specs.declared.script.Arg.TheVariants as arg
use Rattle.gvdl_tree.specs.declared.script.Call.{Call}
use Rattle.gvdl_printer.specs.Names.{is_name}
use Rattle.gvdl_printer.specs.Layout.{Piece, call_open, ends_close, laid, negative_sign, plain, sign, space_unless, starts_close}
use Rattle.gvdl_printer.specs.Canonical.{arg_pieces, call_pieces, canonical_call, in_call, int_pieces, joined, prop_piece}
use Rattle.gvdl_programs.specs.Calls.{ArgFits}
use Rattle.change_text.specs.Blocks.{IsHead, IsLine}
use Rattle.result_tables.specs.TableText.{head_text}
use Rattle.gvdl_check.specs.NameLaws.{digits_line, line-append}
use Rattle.gvdl_check.specs.NameLines.{ArgShort, CallNamed, IsShort}

one : (b : ℕ) → b ≢ 10 → IsLine (b ∷ [])
one b ne = All-cons (λ x. x ≢ 10) b [] ne (All-nil (λ x. x ≢ 10))

-- ---- pieces

abbrev PieceLine : Piece → Type 0
PieceLine x = IsLine (spell x.token)

abbrev AreLines : List Piece → Type 0
AreLines pieces = All PieceLine pieces

space_line : (close : Bool) → IsLine (space_unless close)
space_line true = All-nil (λ x. x ≢ 10)
space_line false = one 32 (λ e. omega (arith, e))

laid_line : (close : Bool) (pieces : List Piece) → AreLines pieces → IsLine (laid close pieces)
laid_line close [] h = All-nil (λ x. x ≢ 10)
laid_line close (x ∷ more) h =
    line-append (space_unless (close || starts_close x.token x.tight)) (spell x.token ++ laid (ends_close x.token x.tight) more) (space_line (close || starts_close x.token x.tight))
    (line-append (spell x.token) (laid (ends_close x.token x.tight) more) (All-head PieceLine x more h) (laid_line (ends_close x.token x.tight) more (All-tail PieceLine x more h)))

lone : (x : Piece) → PieceLine x → AreLines (x ∷ [])
lone x h = All-cons PieceLine x [] h (All-nil PieceLine)

-- ---- arguments

int_lines : (z : ℤ) → IsShort z → AreLines (int_pieces z)
int_lines (pos n) h = lone (plain (t.Number n)) (digits_line n (omega (arith, h)))
int_lines (negsuc n) h = All-cons PieceLine negative_sign (plain (t.Number (suc n)) ∷ []) (one 45 (λ e. omega (arith, e))) (lone (plain (t.Number (suc n))) (digits_line (suc n) (omega (arith, h))))

doubled_line : (bytes : List ℕ) → IsLine bytes → IsLine (doubled 34 bytes)
doubled_line [] h = h
doubled_line (b ∷ bs) h =
    by (b == 34) (All-head (λ x. x ≢ 10) b bs h) (doubled_line bs (All-tail (λ x. x ≢ 10) b bs h)) where
      by : (quote : Bool) → b ≢ 10 → IsLine (doubled 34 bs) → IsLine (if quote then b ∷ b ∷ doubled 34 bs else b ∷ doubled 34 bs)
      by true ne rest = All-cons (λ x. x ≢ 10) b (b ∷ doubled 34 bs) ne (All-cons (λ x. x ≢ 10) b (doubled 34 bs) ne rest)
      by false ne rest = All-cons (λ x. x ≢ 10) b (doubled 34 bs) ne rest

enclosed_line : (bytes : List ℕ) → IsLine bytes → IsLine (enclosed 34 bytes)
enclosed_line bytes h = All-cons (λ x. x ≢ 10) 34 (doubled 34 bytes ++ 34 ∷ []) (λ e. omega (arith, e)) (line-append (doubled 34 bytes) (34 ∷ []) (doubled_line bytes h) (one 34 (λ e. omega (arith, e))))

prop_line : (p : List ℕ) → IsLine p → PieceLine (prop_piece p)
prop_line p h = by (is_name p) where
  by : (bare : Bool) → PieceLine (if bare then plain (t.Name p) else plain (t.Quoted p))
  by true = h
  by false = enclosed_line p h

-- the name of a column is a line
column_line : (g : GraphData) → NamesProperties g → (p : List ℕ) → Contains (names_of g.edge_columns) p → IsLine p
column_line g names p among = All-contains IsLine (names_of g.edge_columns) p (all g.edge_columns names.1) among where
  all : (columns : List Column) → All HasPropertyName columns → All IsLine (names_of columns)
  all [] h = All-nil IsLine
  all (c ∷ cs) h = All-cons IsLine c.name (names_of cs) (names-are-lines c (All-head HasPropertyName c cs h)) (all cs (All-tail HasPropertyName c cs h))

arg_lines : (g : GraphData) → NamesProperties g → (a : Arg) → ArgShort a → ArgFits g a → AreLines (arg_pieces a)
arg_lines g names (arg.Number z) short fits = int_lines z short
arg_lines g names (arg.Prop p) short fits = lone (prop_piece p) (prop_line p (column_line g names p fits))

-- ---- calls

module _ (g : GraphData) (names : NamesProperties g) where
  others_lines : (args : List Arg) → All ArgShort args → All (ArgFits g) args → AreLines (flat_map (λ a. (sign s.Comma ∷ []) ++ arg_pieces a) args)
  others_lines [] short fits = All-nil PieceLine
  others_lines (a ∷ more) short fits =
      let rest = flat_map (λ a. (sign s.Comma ∷ []) ++ arg_pieces a) more in
      All-cons PieceLine (sign s.Comma) (arg_pieces a ++ rest) (one 44 (λ e. omega (arith, e)))
      (All-append PieceLine (arg_pieces a) rest (arg_lines g names a (All-head ArgShort a more short) (All-head (ArgFits g) a more fits)) (others_lines more (All-tail ArgShort a more short) (All-tail (ArgFits g) a more fits)))

  in_call_lines : (args : List Arg) → All ArgShort args → All (ArgFits g) args → AreLines (in_call arg_pieces args)
  in_call_lines [] short fits = All-nil PieceLine
  in_call_lines (a ∷ more) short fits =
      let all = joined (sign s.Comma) arg_pieces (a ∷ more) in
      let rest = flat_map (λ a. (sign s.Comma ∷ []) ++ arg_pieces a) more in
      let lines : AreLines all =
      All-append PieceLine (arg_pieces a) rest (arg_lines g names a (All-head ArgShort a more short) (All-head (ArgFits g) a more fits)) (others_lines more (All-tail ArgShort a more short) (All-tail (ArgFits g) a more fits)) in
      All-cons PieceLine call_open (all ++ sign s.Close ∷ []) (one 40 (λ e. omega (arith, e))) (All-append PieceLine all (sign s.Close ∷ []) lines (lone (sign s.Close) (one 41 (λ e. omega (arith, e)))))

  pub call_line : (call : Call) → CallNamed call → All (ArgFits g) call.args → IsLine (canonical_call call)
  call_line call named fits =
      laid_line true (call_pieces call) (All-cons PieceLine (plain (t.Name call.name)) (in_call arg_pieces call.args) named.name (in_call_lines call.args named.args fits))

  -- what a table is of, behind the word `view`
  pub head_is : (collection view : List ℕ) (call : Call) → IsLine collection → IsLine view → CallNamed call → All (ArgFits g) call.args → IsHead (drop 5 (head_text collection view (canonical_call call)))
  head_is collection view call first second named fits =
      let end : List ℕ = codes " " ++ canonical_call call in
      let behind_dot : List ℕ = view ++ end in (
        some collection behind_dot,
        line-append collection (codes "." ++ behind_dot) first
            (All-cons (λ x. x ≢ 10) 46 behind_dot (λ e. omega (arith, e)) (line-append view end second (All-cons (λ x. x ≢ 10) 32 (canonical_call call) (λ e. omega (arith, e)) (call_line call named fits)))),
      ) where
        some : (name rest : List ℕ) → name ++ 46 ∷ rest ≢ []
        some [] rest = λ e. absurd cc
        some (b ∷ name) rest = λ e. absurd cc
