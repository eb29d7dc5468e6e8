-- What a reader of a data file has still to read.
use Rattle.std.specs.Prelude.{◌≡◌, ℕ, ◌+◌, Bool, true, false, List, [], ◌∷◌, length, Option, Some, None, ⊤}
use Rattle.std.specs.Borrow.{Bor}
use Rattle.csv.specs.Reading.{records_from, default_config, source_of, reader_config, reader_trim, reader_state, is_flexible, has_failed, Ready}
use Rattle.csv.specs.declared.error.ErrorKind.{ErrorKind}
use Rattle.csv.specs.declared.error.ErrorKind.TheVariants as kind
use Rattle.csv.specs.declared.parser.State.{State}
use Rattle.csv.specs.declared.reader.Reader.{Reader}
use Rattle.csv.specs.declared.reader.Trim.TheVariants as trim

abbrev pub rows_from : State → Option (List ℕ) → List (List (List ℕ))
rows_from s None = []
rows_from s (Some bytes) = records_from default_config (length bytes + 1) s bytes

-- the records that a reader over a slice has still to give
abbrev pub left_of : Reader (Bor (List ℕ)) → List (List (List ℕ))
left_of r = rows_from (reader_state r) (source_of (λ s. Some s.now) r)

-- a reader that has met no error, with the settings of a data file
pub record IsReady (r : Reader (Bor (List ℕ))) : Type 0 where
  pub trim : reader_trim r ≡ trim.None
  pub one : Ready r
  pub config : reader_config r ≡ default_config
  pub flexible : is_flexible r ≡ true
  pub sound : has_failed r ≡ false

-- what a read gives: a row and the rest, or that nothing is left
abbrev pub given : Bool → List (List ℕ) → List (List (List ℕ)) → List (List (List ℕ))
given false row rest = []
given true row rest = row ∷ rest

-- an error of memory or of what is read from
abbrev pub IsOfSource : ErrorKind → Type 0
IsOfSource (kind.Io e) = ⊤
IsOfSource kind.OutOfMemory = ⊤
IsOfSource (kind.UnequalLengths pos expected len) = ⊥
IsOfSource (kind.Utf8 pos err) = ⊥
IsOfSource (kind.Serialize text) = ⊥
IsOfSource (kind.Deserialize pos err) = ⊥
