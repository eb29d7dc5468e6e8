-- Columns by their names.
use Rattle.std.specs.Prelude.{ℕ, ◌+◌, List, [], ◌∷◌, Ok, Err, if◌then◌else◌, bytes_eq}
use Rattle.graph_model.specs.declared.cell.Kind.{Kind}
use Rattle.graph_model.specs.declared.cell.Column.{Column}
use Rattle.vertex_lang.specs.Leaves.{is_int}
use Rattle.gvdl_programs.specs.declared.refusal.Refusal.TheVariants as refusal
use Rattle.gvdl_programs.specs.Judging.{Judged, ◌>>=◌, ◌>>◌, expect}

-- the place and the kind of the column with this name, where the first of these has place n
abbrev pub column_from : ℕ → List Column → List ℕ → Judged (ℕ × Kind)
column_from n [] name = Err refusal.UnknownProperty
column_from n (column ∷ more) name = if bytes_eq column.name name then Ok (n, column.kind) else column_from (n + 1) more name

abbrev pub column_of : List Column → List ℕ → Judged (ℕ × Kind)
column_of columns name = column_from 0 columns name

-- the place of a column of whole numbers
abbrev pub int_column : List Column → List ℕ → Judged ℕ
int_column columns name = do
  column ← column_of columns name
  expect (is_int column.1) refusal.WrongType
  Ok column.0
