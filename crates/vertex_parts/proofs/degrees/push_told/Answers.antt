-- One more arc.
use Rattle.std.proofs.Common.{◌≡◌, ◌∙◌, ◌<◌, length, arith}
use Rattle.weighted.specs.WordLaws.{mapped, mapped-append}
use Rattle.vertex_parts.proofs.Walks.{walk_onto}
use Rattle.vertex_parts.proofs.degrees.push_told.Goals as goal

pub loop-arc-preserved : goal.loop-arc-preserved
loop-arc-preserved c =
    let low : c.loop-arc.arc-index < length c.args.words.now = omega arith in
    c.in_ok-push.ensures.ok ∙ walk_onto (mapped (λ a. (a, c.args.told))) (mapped-append (λ a. (a, c.args.told))) c.args.into.now c.loop-arc.into c.args.words.now c.loop-arc.arc-index c.loop-arc-item.result low c.loop-arc-item.is c.loop-arc.invariant
