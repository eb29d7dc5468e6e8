use Rattle.std.proofs.Common.{◌∙◌, ◌<◌, ◌/◌, ◌%◌, ℕ, List, Bool, sym, ap, arith, length}
use Rattle.std.proofs.lemmas.List.{get_or_default}
use Rattle.view_matrix.specs.Columns.{at, is_set}
use Rattle.view_matrix.proofs.Columns.{bits_len, at_within}
use Rattle.view_matrix.proofs.column.Column.get.Goals as goal

pub index-requires : goal.index-requires
index-requires c = omega (arith, ap (λ (bits : List Bool). length bits) c.self.view_is, bits_len c.self.inside.words.items c.self.inside.len)

pub returns : goal.returns
returns c =
    let words = c.self.inside.words.items in
    let e = c.args.edge in
    let within : e < c.self.inside.len = omega (arith, ap (λ (bits : List Bool). length bits) c.self.view_is, bits_len words c.self.inside.len) in
    c.is_set.ensures ∙ ap (λ (w : ℕ). is_set w (e % 64)) (c.index.ensures ∙ get_or_default words (e / 64) c.index.result.now 0 (omega (arith, within, c.self.invariant.count))) ∙ sym (at_within words c.self.inside.len e within) ∙ ap (λ (bits : List Bool). at bits e) c.self.view_is
