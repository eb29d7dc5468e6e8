-- One more record at the round.
use Rattle.std.proofs.Common.{◌<◌, length, arith}
use Rattle.weighted.specs.WordLaws.{mapped-append}
use Rattle.loop_theory.specs.Loops.{in_round, at_round}
use Rattle.diff_iterate.proofs.Walks.{walk_onto}
use Rattle.diff_iterate.proofs.parts.push_round.Goals as goal

pub loop-record-preserved : goal.loop-record-preserved
loop-record-preserved g c =
    let low : c.loop-record.record-index < length c.as_slice-record-items.result.now = omega arith in
    walk_onto (at_round c.args.round.0) (mapped-append (in_round c.args.round.0)) _ c.loop-record.entries.items _ c.as_slice-record-items.result.now c.loop-record.record-index c.loop-record-item.result low c.loop-record-item.is c.loop-record.invariant c.in_ok-push.ensures.items
