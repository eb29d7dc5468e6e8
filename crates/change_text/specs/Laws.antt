-- What follows from the definitions, each law as one statement.
use Rattle.std.specs.Prelude.{◌≡◌, ℕ, List, Option, Some, None}
use Rattle.graph_model.specs.GraphData.{GraphData}
use Rattle.result_tables.specs.declared.table.Table.{Table}
use Rattle.result_tables.specs.TableText.{table_text}
use Rattle.change_text.specs.Blocks.{Block, Follows, IsBlock, table_of}
use Rattle.change_text.specs.Reading.{IsBadLine, IsChanges}
use Rattle.change_text.specs.Spelling.{block_text}
use Rattle.change_text.specs.Writing.{IsTableHead, block_of, full_of}

-- a text is the change text of one list of blocks at most
abbrev pub OneReading : Type 0
OneReading = (text : List ℕ) (blocks others : List Block) → IsChanges text blocks → IsChanges text others → blocks ≡ others

-- a text has one first bad line at most
abbrev pub OneFault : Type 0
OneFault = (text : List ℕ) (n m : ℕ) → IsBadLine text n → IsBadLine text m → n ≡ m

-- the text of a table alone is that of a block of all its rows
abbrev pub TablesAreBlocks : Type 0
TablesAreBlocks = (head : List ℕ) (graph : GraphData) (table : Table) → IsTableHead head → table_text head graph table ≡ block_text (full_of head graph table)

-- the table before, as a full block, if there is one
abbrev pub before_of : List ℕ → GraphData → Option Table → Option Block
before_of head graph None = None
before_of head graph (Some table) = Some (full_of head graph table)

abbrev pub IsBefore : List ℕ → GraphData → Option Table → Type 0
IsBefore head graph None = Unit {0}
IsBefore head graph (Some table) = IsBlock (full_of head graph table)

-- where all rows of a table are a block, and those of the table before, the block that is written may stand behind the table
-- before, and its table has all those rows again
abbrev pub TablesComeBack : Type 0
TablesComeBack =
    (graph : GraphData) (head earlier : List ℕ) (before : Option Table) (table : Table) → IsBlock (full_of head graph table) → IsBefore earlier graph before
    → IsBlock (block_of head graph before table) × Follows (before_of earlier graph before) (block_of head graph before table)
    × (table_of (before_of earlier graph before) (block_of head graph before table) ≡ full_of head graph table)
