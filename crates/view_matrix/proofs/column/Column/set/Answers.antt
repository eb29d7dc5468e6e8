-- One bit is changed, and no other.
use Rattle.std.proofs.Common.{◌≡◌, ◌∙◌, ◌<◌, ◌/◌, ◌%◌, ◌==◌, if◌then◌else◌, ℕ, List, Bool, ap, arith, length, set, get_or}
use Rattle.std.proofs.Math.ListN.{length-set}
use Rattle.std.proofs.lemmas.List.{get_or_default}
use Rattle.view_matrix.specs.Columns.{is_set}
use Rattle.view_matrix.proofs.Columns.{bits_len, small_changed, behind_changed, bits_changed}
use Rattle.view_matrix.proofs.column.Column.set.Goals as goal

pub index-requires : goal.index-requires
index-requires c = omega (arith, ap (λ (bits : List Bool). length bits) c.self.view_is, bits_len c.self.inside.words.items c.self.inside.len)

pub index_mut-requires : goal.index_mut-requires
index_mut-requires c = omega (arith, ap (λ (bits : List Bool). length bits) c.self.view_is, bits_len c.self.inside.words.items c.self.inside.len)

pub invariant_of-self : goal.invariant_of-self
invariant_of-self c =
    let words = c.self.inside.words.items in
    let len = c.self.inside.len in
    let e = c.args.edge in
    let lt : e < len = omega (arith, ap (λ (bits : List Bool). length bits) c.self.view_is, bits_len words len) in
    let within : e / 64 < length words = omega (arith, lt, c.self.invariant.count) in
    let is : (i : ℕ) → i < 64 → is_set c.with_bit.result i ≡ (if i == e % 64 then c.args.bit else is_set (get_or words (e / 64) 0) i) =
    λ i small. c.with_bit.ensures i small ∙ ap (λ (w : ℕ). if i == e % 64 then c.args.bit else is_set w i) (c.index.ensures ∙ get_or_default words (e / 64) c.index.result.now 0 within) in
    record {
      few = c.self.invariant.few;
      count = length-set words (e / 64) c.with_bit.result ∙ c.self.invariant.count;
      small = small_changed words (e / 64) c.with_bit.result within c.with_bit.type_inv c.self.invariant.small;
      behind = behind_changed words e c.with_bit.result c.args.bit within is len lt c.self.invariant.behind;
    }

pub returns : goal.returns
returns c =
    let words = c.self.inside.words.items in
    let len = c.self.inside.len in
    let e = c.args.edge in
    let lt : e < len = omega (arith, ap (λ (bits : List Bool). length bits) c.self.view_is, bits_len words len) in
    let within : e / 64 < length words = omega (arith, lt, c.self.invariant.count) in
    let is : (i : ℕ) → i < 64 → is_set c.with_bit.result i ≡ (if i == e % 64 then c.args.bit else is_set (get_or words (e / 64) 0) i) =
    λ i small. c.with_bit.ensures i small ∙ ap (λ (w : ℕ). if i == e % 64 then c.args.bit else is_set w i) (c.index.ensures ∙ get_or_default words (e / 64) c.index.result.now 0 within) in
    bits_changed words e c.with_bit.result c.args.bit within is len lt ∙ ap (λ (bits : List Bool). set bits e c.args.bit) c.self.view_is
