-- One edge more.
use Rattle.std.proofs.Common.{◌≡◌, ◌∙◌, ◌==◌, ◌&&◌, ◌||◌, ℕ, ℤ, Bool, List, pos, get_or, ap, arith, rules, w64, to_z, of_z}
use Rattle.std.proofs.lemmas.List.{get_or_default}
use Rattle.view_matrix.specs.Bounds.{lies_within}
use Rattle.view_matrix.specs.Columns.{is_set}
use Rattle.view_matrix.proofs.Scans.{next_edge}
use Rattle.view_matrix.proofs.NumberWords.{met_word}
use Rattle.view_matrix.proofs.numbers.Numbers.meeting_word.Goals as goal

pub loop-place-preserved : goal.loop-place-preserved
loop-place-preserved c = λ i.
    let bounds = c.args.bounds in
    let numbers : List ℤ = c.args.self.now.numbers.items in
    let masks : List ℕ = c.args.self.now.masks.items in
    let place : ℕ = c.loop-place.place in
    let at : c.index.result.now ≡ get_or numbers place (pos 0) = c.index.ensures ∙ get_or_default numbers place c.index.result.now (pos 0) (omega (arith, c.loop-place-test.true, c.requires.are.long)) in
    let mask_at : c.index-mask.result.now ≡ get_or masks place 0 = c.index-mask.ensures ∙ get_or_default masks place c.index-mask.result.now 0 (omega (arith, c.loop-place-test.true, c.requires.are.masks.long)) in
    let alone : is_set c.index-mask.result.now i ≡ (i == place) = ap (λ (w : ℕ). is_set w i) mask_at ∙ c.requires.are.masks.alone place i (omega (arith, c.loop-place-test.true)) in
    next_edge (λ (j : ℕ). lies_within bounds.low bounds.high (get_or numbers j (pos 0))) c.loop-place.enclosed c.with_mask-enclosed.result place i c.encloses.result
    (c.encloses.ensures ∙ ap (lies_within bounds.low bounds.high) ((let back : to_z w64 (of_z w64 c.index.result.now) ≡ c.index.result.now = search rules in back) ∙ at)) (c.loop-place.invariant i)
    (c.with_mask-enclosed.ensures i ∙ ap (λ (b : Bool). is_set c.loop-place.enclosed i || (c.encloses.result && b)) alone)

pub returns : goal.returns
returns c =
    let n = c.args.self.now in
    met_word c.args.graph.now n.first n.count n.column n.numbers.items n.present c.loop-place.enclosed c.admitted.result c.loop-place.place c.args.bounds c.requires.are.few (omega (arith, c.loop-place-test.false, c.loop-place.auto.place-end)) c.requires.column c.requires.are.shown c.loop-place.invariant
    c.admitted.ensures c.admitted.type_inv
