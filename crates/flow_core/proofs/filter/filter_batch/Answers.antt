-- One more record, and the batch of those that pass.
use Rattle.std.proofs.Common.{◌≡◌, ◌∙◌, ◌<◌, ◌++◌, ◌∷◌, [], if◌then◌else◌, Bool, length, ap, arith}
use Rattle.weighted.specs.Batches.{IsBatch}
use Rattle.weighted.specs.SumLaws.{filtered, filtered-append}
use Rattle.flow_core.proofs.Rises.{IsBatch-filtered}
use Rattle.flow_core.proofs.Walks.{walk_next, walked}
use Rattle.flow_core.proofs.filter.filter_batch.Goals as goal

pub loop-entry-preserved : goal.loop-entry-preserved
loop-entry-preserved g c =
    let low : c.loop-entry.entry-index < length c.as_slice-entry-items.result.now = omega arith in
    c.in_ok-push_if.ensures
    ∙ ap (λ (b : Bool). c.loop-entry.entries.items ++ (if b then c.entry-item.result ∷ [] else [])) c.keep.ensures
    ∙ walk_next (filtered (g.E.Keep.keeps c.args.keep.now)) (filtered-append (g.E.Keep.keeps c.args.keep.now)) c.loop-entry.entries.items c.as_slice-entry-items.result.now c.loop-entry.entry-index c.entry-item.result low c.entry-item.is c.loop-entry.invariant

pub from_rising-requires : goal.from_rising-requires
from_rising-requires g c = walked (λ es. IsBatch g.A.Ord.cmp es) (filtered (g.E.Keep.keeps c.args.keep.now)) c.as_slice-entry-items.result.now c.args.delta.now c.loop-entry.entry-index c.loop-entry.entries.items _ c.from_vec.ensures c.loop-entry.invariant (omega arith) c.as_slice-entry-items.ensures.value
    (IsBatch-filtered g.A.Ord.cmp (g.E.Keep.keeps c.args.keep.now) c.args.delta.now c.as_slice-entry-items.ensures.batch)
