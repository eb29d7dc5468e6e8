use Rattle.std.proofs.Common.{◌∙◌, sym, ap, length}
use Rattle.view_matrix.proofs.Columns.{bits_len}
use Rattle.view_matrix.proofs.column.Column.len.Goals as goal

pub returns-clause-count : goal.returns-clause-count
returns-clause-count c = sym (bits_len c.self.inside.words.items c.self.inside.len) ∙ ap (λ bits. length bits) c.self.view_is
