-- One more record as a moving one.
use Rattle.std.proofs.Common.{◌<◌, length, IfOk, subst, arith}
use Rattle.weighted.specs.Alike.{Alike}
use Rattle.weighted.specs.WordLaws.{mapped-append}
use Rattle.loop_theory.specs.declared.input.LoopInput.TheVariants.{Moving}
use Rattle.loop_theory.specs.Inputs.{as_moving}
use Rattle.diff_iterate.proofs.Walks.{walk_step, walked}
use Rattle.diff_iterate.proofs.parts.moving_batch.Goals as goal

pub loop-record-preserved : goal.loop-record-preserved
loop-record-preserved g c =
    let low : c.loop-record.record-index < length c.as_slice-record-items.result.now = omega arith in
    walk_step as_moving (mapped-append Moving) c.loop-record.entries.items _ c.as_slice-record-items.result.now c.loop-record.record-index c.loop-record-item.result low c.loop-record-item.is c.loop-record.invariant c.in_ok-push.ensures.items

pub returns : goal.returns
returns g c = subst (λ es. IfOk c.from_entries.result (λ b. Alike b es)) (walked as_moving _ c.loop-record.entries.items c.as_slice-record-items.result.now c.args.change.now c.loop-record.record-index c.from_vec.ensures c.loop-record.invariant (omega arith) c.as_slice-record-items.ensures.value) c.from_entries.ensures.alike
