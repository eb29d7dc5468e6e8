-- One more record.
use Rattle.std.proofs.Common.{◌∙◌, ℕ, ◌<◌, ◌++◌, ◌∷◌, [], length, ap, arith}
use Rattle.weighted.specs.Alike.{negated}
use Rattle.diff_reduce.proofs.LaterLaws.{negated-append}
use Rattle.diff_reduce.proofs.Walks.{walk_onto}
use Rattle.diff_reduce.proofs.evaluate.push_taken.Goals as goal

pub loop-output-preserved : goal.loop-output-preserved
loop-output-preserved g c =
    let low : c.loop-output.output-index < length c.args.before.now = omega arith in
    walk_onto negated negated-append _ c.loop-output.given _ c.args.before.now c.loop-output.output-index c.loop-output-item.result low c.loop-output-item.is c.loop-output.invariant (c.in_ok-push.ensures.ok ∙ ap (λ (w : ℕ). c.loop-output.given ++ (c.loop-output-item.result.0, w) ∷ []) c.negate.ensures)
