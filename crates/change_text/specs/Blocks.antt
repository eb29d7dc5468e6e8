-- What a change text holds: blocks, one behind the other, and the tables that they come to.
use Rattle.std.specs.Prelude.{◌≡◌, ◌≢◌, ℕ, pos, negsuc, ◌+◌, ◌<◌, ◌^◌, ◌==◌, List, [], ◌∷◌, map, fold, All, Option, Some, None, if◌then◌else◌}
use Rattle.graph_model.specs.declared.value.Val.{Val}
use Rattle.graph_model.specs.declared.value.Val.TheVariants.{Nil, Num}
use Rattle.vertex_lang.specs.declared.lone.Outcome.{Outcome}
use Rattle.vertex_lang.specs.declared.lone.Outcome.TheVariants as outcome
use Rattle.change_text.specs.declared.row.Row.{Row}
use Rattle.change_text.specs.declared.kind.Kind.{Kind}
use Rattle.change_text.specs.declared.kind.Kind.TheVariants as kind

-- a table, as all its rows or as those that differ from the table before: what it is of, behind the first word of its head,
-- how the run ended, and the rows
pub record Block : Type 0 where
  pub kind : Kind
  pub head : List ℕ
  pub outcome : Outcome
  pub rows : List Row

-- ---- tables

-- these rows with another in the place of the one that has its id
abbrev pub put : List Row → Row → List Row
put rows row = map (λ r. if r.id == row.id then row else r) rows

-- these rows with others in the places of those that have their ids
abbrev pub put_all : List Row → List Row → List Row
put_all rows changes = fold put rows changes

-- the rows of a table, by those of the table before it, if there is one, and by the rows of its block
abbrev pub rows_after : Kind → Option Block → List Row → List Row
rows_after kind.Full before rows = rows
rows_after kind.Change None rows = rows
rows_after kind.Change (Some table) rows = put_all table.rows rows

-- the table of a block behind a table, as a full block
abbrev pub table_of : Option Block → Block → Block
table_of before b = record { kind = kind.Full; head = b.head; outcome = b.outcome; rows = rows_after b.kind before b.rows }

-- the tables of blocks that stand behind a table
abbrev pub tables_from : Option Block → List Block → List Block
tables_from before [] = []
tables_from before (b ∷ bs) = table_of before b ∷ tables_from (Some (table_of before b)) bs

abbrev pub tables_of : List Block → List Block
tables_of blocks = tables_from None blocks

-- ---- which blocks there are

-- no byte ends a line
abbrev pub IsLine : List ℕ → Type 0
IsLine bytes = All (λ b. b ≢ 10) bytes

abbrev pub IsHead : List ℕ → Type 0
IsHead head = (head ≢ []) × IsLine head

abbrev pub IsOutcome : Outcome → Type 0
IsOutcome (outcome.Settled r) = r < 2 ^ 32
IsOutcome (outcome.After r) = r < 2 ^ 32
IsOutcome (outcome.Phases r) = r < 2 ^ 32
IsOutcome outcome.Unsettled = Unit {0}

-- none, or a whole number from -(2^63 - 1) to 2^63 - 1
abbrev pub IsValue : Val → Type 0
IsValue Nil = Unit {0}
IsValue (Num (pos n)) = n < 2 ^ 63
IsValue (Num (negsuc n)) = n + 1 < 2 ^ 63

abbrev pub IsRow : Row → Type 0
IsRow row = (row.id < 2 ^ 63) × IsValue row.value

-- each id is above those before it
abbrev pub IsRising : List Row → Type 0
IsRising [] = Unit {0}
IsRising (r ∷ rs) = All (λ s. r.id < s.id) rs × IsRising rs

-- an unsettled table has no rows
abbrev pub HasRows : Outcome → List Row → Type 0
HasRows (outcome.Settled r) rows = Unit {0}
HasRows (outcome.After r) rows = Unit {0}
HasRows (outcome.Phases r) rows = Unit {0}
HasRows outcome.Unsettled rows = rows ≡ []

pub record IsBlock (b : Block) : Type 0 where
  pub head : IsHead b.head
  pub outcome : IsOutcome b.outcome
  pub rows : All IsRow b.rows
  pub rising : IsRising b.rows
  pub unsettled : HasRows b.outcome b.rows

-- the value of the row with this id
abbrev pub value_at : List Row → ℕ → Option Val
value_at [] id = None
value_at (r ∷ rs) id = if r.id == id then Some r.value else value_at rs id

-- the row has the id of one of these rows, and another value
abbrev pub Differs : List Row → Row → Type 0
Differs rows row = (value : Val) × (value_at rows row.id ≡ Some value) × (value ≢ row.value)

-- a change block stands behind a table, neither of them is unsettled, and each of its rows differs
abbrev pub FollowsAs : Kind → Option Block → Block → Type 0
FollowsAs kind.Full before b = Unit {0}
FollowsAs kind.Change None b = ⊥
FollowsAs kind.Change (Some table) b = (table.outcome ≢ outcome.Unsettled) × (b.outcome ≢ outcome.Unsettled) × All (Differs table.rows) b.rows

abbrev pub Follows : Option Block → Block → Type 0
Follows before b = FollowsAs b.kind before b

-- blocks that stand behind a table
abbrev pub AreFrom : Option Block → List Block → Type 0
AreFrom before [] = Unit {0}
AreFrom before (b ∷ bs) = IsBlock b × Follows before b × AreFrom (Some (table_of before b)) bs

-- the blocks of a change text, from its start
abbrev pub AreBlocks : List Block → Type 0
AreBlocks blocks = AreFrom None blocks
