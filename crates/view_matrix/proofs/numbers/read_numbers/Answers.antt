-- One number more.
use Rattle.std.proofs.Common.{◌≡◌, ◌∙◌, ◌+◌, ◌&&◌, ℕ, ℤ, sym, ap, arith, rules, w64, to_z, of_z}
use Rattle.std.proofs.Math.ListN.{length-set}
use Rattle.edge_predicates.specs.Truth.{edge_place}
use Rattle.view_matrix.specs.declared.bounds.Bounds.{Bounds}
use Rattle.view_matrix.specs.Bounds.{admits, meets}
use Rattle.view_matrix.proofs.NumberWords.{place_within, shown_more}
use Rattle.view_matrix.proofs.numbers.read_numbers.Goals as goal

pub loop-place-preserved : goal.loop-place-preserved
loop-place-preserved c =
    let g = c.args.graph.now in
    let place : ℕ = c.loop-place.place in
    let one : (b : Bounds) → (c.number_in-number.result.1 && admits b c.number_in-number.result.0) ≡ meets b (edge_place g (c.args.first + place) c.args.column) =
    λ b. c.number_in-number.ensures b ∙ ap (meets b) (c.edge_cell-cell.ensures.value ∙ sym (place_within g (c.args.first + place) c.args.column c.requires.column)) in
    let number : ℤ = c.number_in-number.result.0 in
    let back : to_z w64 (of_z w64 number) ≡ number = search rules in
    record {
      long = length-set c.loop-place.numbers place (to_z w64 (of_z w64 number)) ∙ c.loop-place.invariant.long;
      shown = shown_more g c.args.first place c.args.column c.loop-place.numbers c.loop-place.present c.with_bit-present.result (to_z w64 (of_z w64 number)) c.number_in-number.result.1
          (omega (arith, c.loop-place-test.true, c.requires.few)) c.loop-place.invariant.long c.loop-place.invariant.shown c.with_bit-present.ensures (λ b. ap (λ (z : ℤ). c.number_in-number.result.1 && admits b z) back ∙ one b);
    }
