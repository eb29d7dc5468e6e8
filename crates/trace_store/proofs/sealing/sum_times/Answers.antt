-- One more time.
use Rattle.std.proofs.Common.{◌≡◌, ◌∙◌, ◌-◌, ◌++◌, ◌∷◌, [], take, drop, ap, sym, arith}
use Rattle.weighted.specs.WordLaws.{mapped}
use Rattle.trace_store.proofs.Steps.{mapped_between}
use Rattle.trace_store.proofs.sealing.sum_times.Goals as goal

pub loop-i-preserved : goal.loop-i-preserved
loop-i-preserved g c =
    let more = mapped_between (λ r. g.T.Time.lub r.1 c.args.f.now) c.args.layer.now c.args.start c.loop-i.i c.get-entry.result (omega arith) c.get-entry.ensures in
    c.in_ok-push.ensures.ok ∙ ap (λ v. v ++ (c.lub.result, c.get-entry.result.1) ∷ []) c.loop-i.invariant ∙ ap (λ s. mapped (λ r. g.T.Time.lub r.1 c.args.f.now) (take (c.loop-i.i - c.args.start) (drop c.args.start c.args.layer.now)) ++ (s, c.get-entry.result.1) ∷ []) c.lub.ensures ∙ sym more
