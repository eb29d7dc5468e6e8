-- Inside this room: what contracts see of blocks in memory.
use Rattle.std.specs.Prelude.{◌≡◌, length}
use Rattle.change_text.specs.declared.flat.Flat.TheInside.{Inside}
use Rattle.change_text.specs.Memory.{AreEnds, FlatData, blocks_of, rows_left}

abbrev pub flat_data : Inside → FlatData
flat_data f = record { blocks = blocks_of f.ends.items f.heads.items f.rows.items; rows = rows_left f.ends.items f.rows.items }

pub record IsFlat (f : Inside) : Type 0 where
  pub are : AreEnds f.ends.items f.heads.items f.rows.items
  pub waiting : length (rows_left f.ends.items f.rows.items) ≡ f.waiting
