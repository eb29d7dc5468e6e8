-- Inside this room: what its parts promise one another.
use Rattle.std.specs.Prelude.{◌≡◌, ◌≢◌, ℕ, ◌+◌, ◌≤◌, ◌<◌, ◌^◌, Bool, true, false, List, [], ◌∷◌, ◌++◌, length, take, drop, fold, All, Option, Some, None}
use denote.Ref.{Bor}
use Rattle.std.specs.Fmt.{decimal}
use Rattle.surge_outside.specs.declared.trouble.Trouble.{Trouble}
use Rattle.surge_outside.specs.declared.trouble.Trouble.TheVariants as trouble
use Rattle.graph_model.specs.declared.value.Val.{Val}
use Rattle.vertex_lang.specs.declared.lone.Outcome.{Outcome}
use Rattle.vertex_lang.specs.declared.lone.Outcome.TheVariants as outcome
use Rattle.result_tables.specs.TableText.{outcome_text, value_text}
use Rattle.graph_model.specs.GraphData.{GraphData}
use Rattle.result_tables.specs.declared.table.Table.{Table}
use Rattle.change_text.specs.declared.fault.ReplayStop.{ReplayStop}
use Rattle.change_text.specs.declared.fault.ReplayStop.TheVariants as stop
use Rattle.change_text.specs.declared.kind.Kind.{Kind}
use Rattle.change_text.specs.declared.kind.Kind.TheVariants as kind
use Rattle.change_text.specs.declared.opening.Opening.{Opening}
use Rattle.change_text.specs.declared.reader.Opened.{Opened}
use Rattle.change_text.specs.declared.reader.Reader.{Reader}
use Rattle.change_text.specs.declared.row.Row.{Row}
use Rattle.change_text.specs.Blocks.{Block, AreBlocks, Differs, Follows, IsBlock, IsHead, IsOutcome, IsRising, IsRow, IsValue, put, put_all, rows_after, table_of, tables_from, AreFrom}
use Rattle.change_text.specs.Writing.{changed_rows}
use Rattle.change_text.specs.Spelling.{changes_lines, changes_text, front_lines, opening_line, row_line, tables_text, word}

-- the stop of a write that gave an error
abbrev pub stop_of : Trouble → ReplayStop
stop_of trouble.Failed = stop.Failed
stop_of trouble.NoMemory = stop.NoMemory

-- ---- parts of lines

-- none of the bytes is this one
abbrev pub Lacks : ℕ → List ℕ → Type 0
Lacks at bytes = All (λ b. b ≢ at) bytes

-- the bytes are cut at the first of this byte
pub record IsCutAt (at : ℕ) (bytes front behind : List ℕ) : Type 0 where
  pub split : bytes ≡ front ++ at ∷ behind
  pub without : Lacks at front

-- and at its last
pub record IsCutLast (at : ℕ) (bytes front behind : List ℕ) : Type 0 where
  pub split : bytes ≡ front ++ at ∷ behind
  pub without : Lacks at behind

abbrev pub ReadsNumber : List ℕ → Option ℕ → Type 0
ReadsNumber bytes None = (n : ℕ) → n < 2 ^ 63 → bytes ≡ decimal n → ⊥
ReadsNumber bytes (Some n) = (n < 2 ^ 63) × (bytes ≡ decimal n)

abbrev pub ReadsValue : List ℕ → Option Val → Type 0
ReadsValue bytes None = (value : Val) → IsValue value → bytes ≡ value_text value → ⊥
ReadsValue bytes (Some value) = IsValue value × (bytes ≡ value_text value)

abbrev pub ReadsRow : List ℕ → Option Row → Type 0
ReadsRow line None = (row : Row) → IsRow row → line ≡ row_line row → ⊥
ReadsRow line (Some row) = IsRow row × (line ≡ row_line row)

-- so many rounds or phases, below 2^32
abbrev pub ReadsRounds : List ℕ → Option ℕ → Type 0
ReadsRounds bytes None = (n : ℕ) → n < 2 ^ 32 → bytes ≡ decimal n → ⊥
ReadsRounds bytes (Some n) = (n < 2 ^ 32) × (bytes ≡ decimal n)

-- what a table is of, and how the run ended
abbrev pub said : List ℕ → Outcome → List ℕ
said head outcome = head ++ 32 ∷ outcome_text outcome

-- the same, of a run that is settled or after so many rounds or phases
abbrev pub ReadsShown : List ℕ → Option (List ℕ × Outcome) → Type 0
ReadsShown bytes None = (head : List ℕ) (how : Outcome) → how ≢ outcome.Unsettled → IsOutcome how → bytes ≡ said head how → ⊥
ReadsShown bytes (Some p) = IsOutcome p.1 × (bytes ≡ said p.0 p.1)

abbrev pub ReadsSaid : List ℕ → Option (List ℕ × Outcome) → Type 0
ReadsSaid bytes None = (head : List ℕ) (outcome : Outcome) → IsOutcome outcome → bytes ≡ said head outcome → ⊥
ReadsSaid bytes (Some p) = IsOutcome p.1 × (bytes ≡ said p.0 p.1)

-- what the first line of a block says
pub record Opens (k : Kind) (of : List ℕ) (how : Outcome) (line : List ℕ) : Type 0 where
  pub head : IsHead of
  pub outcome : IsOutcome how
  pub line_is : line ≡ opening_line k of how

-- the bytes stand behind the word of a kind
abbrev pub IsBehindWord : Kind → List ℕ → List ℕ → Type 0
IsBehindWord kind bytes line = line ≡ word kind ++ bytes

-- the same with what is lent
abbrev pub held_said : Option (Bor (List ℕ) × Outcome) → Option (List ℕ × Outcome)
held_said None = None
held_said (Some p) = Some (p.0.now, p.1)

abbrev pub OpensAs : List ℕ → Option Opening → Type 0
OpensAs line None = (k : Kind) (head : List ℕ) (how : Outcome) → Opens k head how line → ⊥
OpensAs line (Some o) = Opens o.kind o.head.now o.outcome line

-- ---- rows by their ids

-- the first row whose id isn't below this one stands between two places
pub record IsBetween (table : List Row) (id low high : ℕ) : Type 0 where
  pub order : low ≤ high
  pub within : high ≤ length table
  pub below : All (λ r. r.id < id) (take low table)
  pub above : All (λ r. id ≤ r.id) (drop high table)

-- what the change of a row leaves: the row is put in, and those before the place have ids up to its own
abbrev pub PutsRow : List Row → Row → List Row → Option ℕ → Type 0
PutsRow table row after None = (Differs table row → ⊥) × (after ≡ table)
PutsRow table row after (Some next) = Differs table row × (after ≡ put table row) × (next ≤ length after) × All (λ r. r.id ≤ row.id) (take next after)

-- ---- what was read so far

-- the table before the blocks to come
abbrev pub last_table : Option Block → List Block → Option Block
last_table before [] = before
last_table before (b ∷ bs) = last_table (Some (table_of before b)) bs

abbrev pub last_outcome : Option Block → Option Outcome
last_outcome None = None
last_outcome (Some table) = Some table.outcome

abbrev pub last_rows : Option Block → List Row
last_rows None = []
last_rows (Some table) = table.rows

-- the least id that a row may have behind these
abbrev pub next_id : List Row → ℕ
next_id rows = fold (λ n r. r.id + 1) 0 rows

abbrev pub opened_block : Opened → List Row → Block
opened_block o rows = record { kind = o.kind; head = o.head; outcome = o.outcome; rows = rows }

abbrev pub open_lines : Option Opened → List Row → List (List ℕ)
open_lines None rows = []
open_lines (Some o) rows = front_lines (opened_block o rows)

-- the lines of the blocks, and those of the open one
abbrev pub lines_so_far : Reader → List (List ℕ)
lines_so_far r = changes_lines r.flat.blocks ++ open_lines r.begun r.flat.rows

-- the table that is kept while a block is open: behind a change, with the rows so far; those before a place are passed
abbrev pub KeepsTable : Kind → Option Block → List Row → List Row → ℕ → Type 0
KeepsTable kind.Full before rows table place = place ≤ length table
KeepsTable kind.Change before rows table place = (table ≡ rows_after kind.Change before rows) × (place ≤ length table) × All (λ r. r.id < next_id rows) (take place table)

-- a block is open: as far as it was read it is a block that may stand there
pub record IsOpen (o : Opened) (before : Option Block) (rows table : List Row) (place : ℕ) : Type 0 where
  pub block : IsBlock (opened_block o rows)
  pub follows : Follows before (opened_block o rows)
  pub keeps : KeepsTable o.kind before rows table place

-- no block is open
pub record IsShut (before : Option Block) (rows table : List Row) (place : ℕ) : Type 0 where
  pub none : rows ≡ []
  pub keeps : table ≡ last_rows before
  pub place_is : place ≡ 0

abbrev pub IsPart : Option Opened → Option Block → List Row → List Row → ℕ → Type 0
IsPart None before rows table place = IsShut before rows table place
IsPart (Some o) before rows table place = IsOpen o before rows table place

pub record IsReader (r : Reader) : Type 0 where
  pub are : AreBlocks r.flat.blocks
  pub last : r.last ≡ last_outcome (last_table None r.flat.blocks)
  pub low : r.low ≡ next_id r.flat.rows
  pub part : IsPart r.begun (last_table None r.flat.blocks) r.flat.rows r.table.items r.place

-- no change text has the line behind these
abbrev pub Refused : List (List ℕ) → List ℕ → Type 0
Refused lines line = (blocks : List Block) (more : List (List ℕ)) → AreBlocks blocks → changes_lines blocks ≡ lines ++ line ∷ more → ⊥

-- one more line was taken, or no change text has it there
abbrev pub Takes : Reader → List ℕ → Reader → Bool → Type 0
Takes old line new true = IsReader new × (lines_so_far new ≡ lines_so_far old ++ line ∷ [])
Takes old line new false = Refused (lines_so_far old) line

-- a block of this kind and outcome is open
abbrev pub IsOpenAs : Option Opened → Kind → Outcome → Type 0
IsOpenAs None kind outcome = ⊥
IsOpenAs (Some o) kind outcome = (o.kind ≡ kind) × (o.outcome ≡ outcome)

-- whether a block of this kind and outcome may stand behind a table whose run ended so
abbrev pub may_change : Option Outcome → Outcome → Bool
may_change None outcome = false
may_change (Some outcome.Unsettled) outcome = false
may_change (Some (outcome.Settled r)) outcome.Unsettled = false
may_change (Some (outcome.Settled r)) (outcome.Settled s) = true
may_change (Some (outcome.Settled r)) (outcome.After s) = true
may_change (Some (outcome.Settled r)) (outcome.Phases s) = true
may_change (Some (outcome.After r)) outcome.Unsettled = false
may_change (Some (outcome.After r)) (outcome.Settled s) = true
may_change (Some (outcome.After r)) (outcome.After s) = true
may_change (Some (outcome.After r)) (outcome.Phases s) = true
may_change (Some (outcome.Phases r)) outcome.Unsettled = false
may_change (Some (outcome.Phases r)) (outcome.Settled s) = true
may_change (Some (outcome.Phases r)) (outcome.After s) = true
may_change (Some (outcome.Phases r)) (outcome.Phases s) = true

abbrev pub may_stand : Option Outcome → Kind → Outcome → Bool
may_stand before kind.Full outcome = true
may_stand before kind.Change outcome = may_change before outcome

abbrev pub has_rows : Outcome → Bool
has_rows (outcome.Settled r) = true
has_rows (outcome.After r) = true
has_rows (outcome.Phases r) = true
has_rows outcome.Unsettled = false

-- in an open change the rows that were passed have lower ids than the next
abbrev pub IsChanging : Kind → List Row → ℕ → Row → Type 0
IsChanging kind.Full table place row = Unit {0}
IsChanging kind.Change table place row = IsRising table × All (λ r. r.id < row.id) (take place table)

-- what a row leaves of the table that is kept: all of it, or what a change leaves
abbrev pub Brings : Kind → List Row → ℕ → Row → List Row → Option ℕ → Type 0
Brings kind.Full table place row after None = ⊥
Brings kind.Full table place row after (Some next) = next ≤ length after
Brings kind.Change table place row after result = PutsRow table row after result

-- the table that is kept where a block ends
abbrev pub settled : Kind → List Row → List Row → List Row
settled kind.Full table rows = rows
settled kind.Change table rows = table

-- ---- replays

abbrev pub RisesIn : Option Block → Type 0
RisesIn None = Unit {0}
RisesIn (Some table) = IsRising table.rows

-- what a table may take from a block of this kind, and what it then is
abbrev pub Advances : Kind → List Row → List Row → Type 0
Advances kind.Full table rows = Unit {0}
Advances kind.Change table rows = IsRising table × IsRising rows × All (Differs table) rows

abbrev pub advanced : Kind → List Row → List Row → List Row
advanced kind.Full table rows = rows
advanced kind.Change table rows = put_all table rows

abbrev pub full : List ℕ → Outcome → List Row → Block
full head outcome rows = record { kind = kind.Full; head = head; outcome = outcome; rows = rows }

-- where a replay stands: what was written so far, the table before, and the blocks that are left
pub record Stands (all left : List Block) (text : List ℕ) (rows : List Row) : Type 0 where
  pub before : Option Block
  pub rows_are : rows ≡ last_rows before
  pub rises : RisesIn before
  pub are : AreFrom before left
  pub whole : tables_text all ≡ text ++ changes_text (tables_from before left)

-- ---- writing

-- the change block of a table behind another
abbrev pub change_of : List ℕ → GraphData → Table → Table → Block
change_of head graph before table = record { kind = kind.Change; head = drop 5 head; outcome = table.outcome; rows = changed_rows graph before.values table.values }
