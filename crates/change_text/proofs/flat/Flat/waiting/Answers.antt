-- The rows that wait stand at the end.
use Rattle.std.proofs.Common.{◌≡◌, ◌∙◌, ◌-◌, ℕ, List, length, drop, ap, arith}
use Rattle.std.proofs.lemmas.List.{take_rest}
use Rattle.change_text.specs.declared.row.Row.{Row}
use Rattle.change_text.specs.Memory.{FlatData, rows_left}
use Rattle.change_text.proofs.Holding.{left_is}
use Rattle.change_text.proofs.flat.Flat.waiting.Goals as goal

pub overflow_sub-result : goal.overflow_sub-result
overflow_sub-result c =
    let f = c.self.inside in
    omega (arith, (left_is f.ends.items f.heads.items f.rows.items c.self.invariant.are).0, c.self.invariant.waiting, c.len.ensures, f.rows.ok.0)

pub returns : goal.returns
returns c =
    let f = c.self.inside in
    let left = left_is f.ends.items f.heads.items f.rows.items c.self.invariant.are in
    let n : ℕ = c.len.result - f.waiting in
    let same : n ≡ length f.rows.items - length (rows_left f.ends.items f.rows.items) = omega (arith, c.self.invariant.waiting, c.len.ensures, f.rows.ok.0) in
    take_rest c.deref.result.now n ∙ ap (λ (rs : List Row). drop n rs) c.deref.ensures.value ∙ ap (λ (m : ℕ). drop m f.rows.items) same ∙ left.1 ∙ ap (λ (d : FlatData). d.rows) c.self.view_is
