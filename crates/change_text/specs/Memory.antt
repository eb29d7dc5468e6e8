-- Inside this room: how blocks lie in memory.
use Rattle.std.specs.Prelude.{◌≡◌, ℕ, ◌≤◌, List, [], ◌∷◌, length, take, drop}
use Rattle.change_text.specs.declared.flat.End.{End}
use Rattle.change_text.specs.declared.row.Row.{Row}
use Rattle.change_text.specs.Blocks.{Block}

-- blocks, and rows that wait for their block's end
pub record FlatData : Type 0 where
  pub blocks : List Block
  pub rows : List Row

-- each block has the next bytes of the heads and the next rows
abbrev pub blocks_of : List End → List ℕ → List Row → List Block
blocks_of [] heads rows = []
blocks_of (e ∷ es) heads rows = record { kind = e.kind; head = take e.head heads; outcome = e.outcome; rows = take e.rows rows } ∷ blocks_of es (drop e.head heads) (drop e.rows rows)

-- the rows behind those of the blocks
abbrev pub rows_left : List End → List Row → List Row
rows_left [] rows = rows
rows_left (e ∷ es) rows = rows_left es (drop e.rows rows)

-- so many bytes and rows are there, and no bytes are left
abbrev pub AreEnds : List End → List ℕ → List Row → Type 0
AreEnds [] heads rows = heads ≡ []
AreEnds (e ∷ es) heads rows = (e.head ≤ length heads) × (e.rows ≤ length rows) × AreEnds es (drop e.head heads) (drop e.rows rows)
