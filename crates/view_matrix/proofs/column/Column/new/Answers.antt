use Rattle.std.proofs.Common.{rules}
use Rattle.view_matrix.proofs.Columns.{no_bits}
use Rattle.view_matrix.proofs.column.Column.new.Goals as goal

pub returns : goal.returns
returns c = no_bits c.in_ok-words.words.items c.div_ceil.result c.args.len (c.in_ok-words.ensures.items_if_clones_equal (search rules))
