-- The negative of a batch is a batch.
use Rattle.std.proofs.Common.{◌≡◌, ◌∙◌, ◌<◌, ◌++◌, ◌∷◌, [], ℕ, length, take, ap, sym, subst, arith}
use Rattle.std.proofs.lemmas.List.{take_all}
use Rattle.weighted.specs.Alike.{Alike-refl, negated}
use Rattle.weighted.specs.Batches.{IsBatch}
use Rattle.weighted.specs.Normal.{normal-only}
use Rattle.weighted.proofs.Rises.{IsBatch-negated, negated_more}
use Rattle.weighted.proofs.batch.Batch.negate.Goals as goal

pub invariant_of-result : goal.invariant_of-result
invariant_of-result g c =
    let all : c.loop-record.entries.items ≡ negated c.as_slice-record-items.result.now = c.loop-record.invariant ∙ ap negated (take_all c.loop-record.record-index c.as_slice-record-items.result.now (omega arith)) in
    subst (λ es. IsBatch g.R.Ord.cmp es) (sym all) (IsBatch-negated g.R.Ord.cmp c.as_slice-record-items.result.now (subst (λ es. IsBatch g.R.Ord.cmp es) (sym c.as_slice-record-items.ensures.value) c.as_slice-record-items.ensures.batch))

pub loop-record-preserved : goal.loop-record-preserved
loop-record-preserved g c =
    let low : c.loop-record.record-index < length c.as_slice-record-items.result.now = omega arith in
    c.in_ok-push.ensures.items
    ∙ ap (λ v. v ++ (c.loop-record-item.result.0, c.negate.result) ∷ []) c.loop-record.invariant
    ∙ ap (λ (w : ℕ). negated (take c.loop-record.record-index c.as_slice-record-items.result.now) ++ (c.loop-record-item.result.0, w) ∷ []) c.negate.ensures
    ∙ sym (negated_more c.as_slice-record-items.result.now c.loop-record.record-index c.loop-record-item.result.0 c.loop-record-item.result.1 low c.loop-record-item.is)

pub returns-clause-normal : goal.returns-clause-normal
returns-clause-normal g c =
    let all : c.loop-record.entries.items ≡ negated c.args.self.now = c.loop-record.invariant ∙ ap negated (take_all c.loop-record.record-index c.as_slice-record-items.result.now (omega arith) ∙ c.as_slice-record-items.ensures.value) in
    let batch : IsBatch g.R.Ord.cmp (negated c.args.self.now) = IsBatch-negated g.R.Ord.cmp c.args.self.now c.as_slice-record-items.ensures.batch in
    all ∙ normal-only g.R.Ord.cmp g.met.R.Ord.total g.met.R.Record.same (negated c.args.self.now) (negated c.args.self.now) batch.rising batch.weighty (Alike-refl (negated c.args.self.now))

pub returns-clause-batch : goal.returns-clause-batch
returns-clause-batch g c =
    let all : c.loop-record.entries.items ≡ negated c.as_slice-record-items.result.now = c.loop-record.invariant ∙ ap negated (take_all c.loop-record.record-index c.as_slice-record-items.result.now (omega arith)) in
    subst (λ es. IsBatch g.R.Ord.cmp es) (sym all) (IsBatch-negated g.R.Ord.cmp c.as_slice-record-items.result.now (subst (λ es. IsBatch g.R.Ord.cmp es) (sym c.as_slice-record-items.ensures.value) c.as_slice-record-items.ensures.batch))
