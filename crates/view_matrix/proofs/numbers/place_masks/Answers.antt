-- One mask more.
use Rattle.std.proofs.Common.{◌∙◌, ◌==◌, ◌||◌, ℕ, Bool, List, ap, arith}
use Rattle.std.proofs.Math.ListN.{length-set}
use Rattle.view_matrix.proofs.Bits.{none_set}
use Rattle.view_matrix.proofs.NumberWords.{masks_more}
use Rattle.view_matrix.proofs.numbers.place_masks.Goals as goal

pub loop-place-preserved : goal.loop-place-preserved
loop-place-preserved c =
    let masks : List ℕ = c.loop-place.masks.items in
    let place : ℕ = c.loop-place.place in
    record {
      long = length-set masks place c.more_bit.result ∙ c.loop-place.invariant.long;
      alone = masks_more masks place c.more_bit.result (omega (arith, c.loop-place-test.true, c.loop-place.invariant.long)) c.loop-place.invariant.alone
          (λ i. c.more_bit.ensures i ∙ ap (λ (b : Bool). b || (i == place)) (none_set i));
    }
