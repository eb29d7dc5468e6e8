-- One more record, and the batches of both sides.
use Rattle.std.proofs.Common.{◌<◌, length, refl, arith}
use Rattle.weighted.specs.Batches.{IsBatch}
use Rattle.flow_core.specs.Sides.{lefts, rights}
use Rattle.flow_core.specs.Functions.{lefts-append, rights-append}
use Rattle.flow_core.proofs.Rises.{IsBatch-lefts, IsBatch-rights}
use Rattle.flow_core.proofs.Walks.{walk_step, walked}
use Rattle.flow_core.proofs.side.split.Goals as goal

pub loop-side-preserved : goal.loop-side-preserved
loop-side-preserved g c =
    let low : c.loop-side.side-index < length c.as_slice-side-items.result.now = omega arith in
    record {
      left = walk_step lefts lefts-append c.loop-side.left.items _ c.as_slice-side-items.result.now c.loop-side.side-index c.loop-side-item.result low c.loop-side-item.is c.loop-side.invariant.left c.in_ok-push_side.ensures.left;
      right = walk_step rights rights-append c.loop-side.right.items _ c.as_slice-side-items.result.now c.loop-side.side-index c.loop-side-item.result low c.loop-side-item.is c.loop-side.invariant.right c.in_ok-push_side.ensures.right;
    }

pub from_rising-left-requires : goal.from_rising-left-requires
from_rising-left-requires g c = walked (λ es. IsBatch g.A.Ord.cmp es) lefts c.as_slice-side-items.result.now c.args.batch.now c.loop-side.side-index c.loop-side.left.items _ c.from_vec.ensures c.loop-side.invariant.left (omega arith) c.as_slice-side-items.ensures.value
    (IsBatch-lefts _ g.A.Ord.cmp g.B.Ord.cmp (λ _ _. refl) (λ _ _. refl) (λ _ _. refl) c.args.batch.now c.as_slice-side-items.ensures.batch)

pub from_rising-right-requires : goal.from_rising-right-requires
from_rising-right-requires g c = walked (λ es. IsBatch g.B.Ord.cmp es) rights c.as_slice-side-items.result.now c.args.batch.now c.loop-side.side-index c.loop-side.right.items _ c.from_vec-2.ensures c.loop-side.invariant.right (omega arith) c.as_slice-side-items.ensures.value
    (IsBatch-rights _ g.A.Ord.cmp g.B.Ord.cmp (λ _ _. refl) (λ _ _. refl) (λ _ _. refl) c.args.batch.now c.as_slice-side-items.ensures.batch)
