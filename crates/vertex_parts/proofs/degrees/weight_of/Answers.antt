-- One more weight.
use Rattle.std.proofs.Common.{◌≡◌, ◌∙◌, ◌<◌, length, arith}
use Rattle.vertex_parts.proofs.Walks.{walk_sum}
use Rattle.vertex_parts.proofs.degrees.weight_of.Goals as goal

pub loop-weight-preserved : goal.loop-weight-preserved
loop-weight-preserved c =
    let low : c.loop-weight.weight-index < length c.args.words.now = omega arith in
    c.add-sum.ensures ∙ walk_sum (λ a. a.1) c.loop-weight.sum c.args.words.now c.loop-weight.weight-index c.loop-weight-item.result low c.loop-weight-item.is c.loop-weight.invariant
