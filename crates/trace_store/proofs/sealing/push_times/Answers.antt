-- One more time.
use Rattle.std.proofs.Common.{◌≡◌, ◌∙◌, ◌<◌, ◌++◌, ◌∷◌, [], length, ap, sym, arith, append_assoc}
use Rattle.trace_store.proofs.Steps.{mapped_step}
use Rattle.trace_store.proofs.sealing.push_times.Goals as goal

pub loop-time-preserved : goal.loop-time-preserved
loop-time-preserved g c =
    let low : c.loop-time.time-index < length c.args.times.now = omega arith in
    record {
      items = c.push.ensures.items ∙ ap (λ v. v ++ ((c.args.pair, c.loop-time-item.result.0), c.loop-time-item.result.1) ∷ []) c.loop-time.invariant.items ∙ append_assoc c.args.made.now.items _ _ ∙ ap (λ v. c.args.made.now.items ++ v) (sym (mapped_step (λ s. (c.args.pair, s)) c.args.times.now c.loop-time.time-index c.loop-time-item.result low c.loop-time-item.is));
      spare = omega arith;
    }
