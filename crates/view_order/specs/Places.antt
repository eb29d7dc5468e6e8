-- Views by their places.
use Rattle.std.specs.Prelude.{ℕ}
use Rattle.graph_model.specs.declared.number.ViewNo.{ViewNo}

-- the view at this place in declared order, from 0
abbrev pub view : ℕ → ViewNo
view n = record { 0 = n }
