-- Each entry comes at the time.
use Rattle.std.proofs.Common.{◌≡◌, ◌∙◌, ◌<◌, ◌≤◌, ◌++◌, ◌∷◌, [], length, ap, sym, subst, arith}
use Rattle.std.proofs.lemmas.List.{take_all}
use Rattle.weighted.specs.Batches.{IsBatch}
use Rattle.weighted.specs.WordLaws.{mapped}
use Rattle.trace_store.specs.Traces.{at_time, in_turn, trace_cmp}
use Rattle.trace_store.proofs.Steps.{mapped_step}
use Rattle.trace_store.proofs.Values.{IsBatch-at_time}
use Rattle.trace_store.proofs.stamped.stamped.Goals as goal

pub loop-record-preserved : goal.loop-record-preserved
loop-record-preserved g c =
    let low : c.loop-record.record-index < length c.as_slice-record-items.result.now = omega arith in
    (c.push.ensures.items ∙ ap (λ v. v ++ ((c.loop-record-item.result.0, c.args.t), c.loop-record-item.result.1) ∷ []) c.loop-record.invariant.0 ∙ sym (mapped_step (at_time c.args.t) c.as_slice-record-items.result.now c.loop-record.record-index c.loop-record-item.result low c.loop-record-item.is), omega (arith, c.loop-record.invariant.1))

pub from_entries-requires : goal.from_entries-requires
from_entries-requires g c =
    let all : c.loop-record.entries.items ≡ mapped (at_time c.args.t) c.args.batch.now = c.loop-record.invariant.0 ∙ ap (mapped (at_time c.args.t)) (take_all c.loop-record.record-index c.as_slice-record-items.result.now (omega arith) ∙ c.as_slice-record-items.ensures.value) in
    subst (λ es. IsBatch (trace_cmp g.K.Ord.cmp g.V.Ord.cmp g.T.Ord.cmp) es) (sym all) (IsBatch-at_time (in_turn g.K.Ord.cmp g.V.Ord.cmp) g.T.Ord.cmp c.args.t c.args.batch.now c.as_slice-record-items.ensures.batch)

pub returns : goal.returns
returns g c =
    c.from_entries.ensures ∙ c.loop-record.invariant.0 ∙ ap (mapped (at_time c.args.t)) (take_all c.loop-record.record-index c.as_slice-record-items.result.now (omega arith) ∙ c.as_slice-record-items.ensures.value)
