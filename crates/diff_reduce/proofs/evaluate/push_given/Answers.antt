-- One more record.
use Rattle.std.proofs.Common.{◌<◌, length, arith}
use Rattle.weighted.specs.WordLaws.{mapped, mapped-append}
use Rattle.diff_reduce.proofs.Walks.{walk_onto}
use Rattle.diff_reduce.proofs.evaluate.push_given.Goals as goal

pub loop-output-preserved : goal.loop-output-preserved
loop-output-preserved g c =
    let low : c.loop-output.output-index < length c.args.given.now = omega arith in
    walk_onto (mapped (λ o. (c.args.key, o))) (mapped-append (λ o. (c.args.key, o))) _ c.loop-output.made.items _ c.args.given.now c.loop-output.output-index c.loop-output-item.result low c.loop-output-item.is c.loop-output.invariant c.in_ok-push.ensures.items
