-- One more record of the moving part.
use Rattle.std.proofs.Common.{◌<◌, length, IfOk, subst, arith}
use Rattle.weighted.specs.Alike.{Alike}
use Rattle.loop_theory.specs.Inputs.{moving, moving-append}
use Rattle.diff_iterate.proofs.Walks.{walk_step, walked}
use Rattle.diff_iterate.proofs.parts.moving_part.Goals as goal

pub loop-input-preserved : goal.loop-input-preserved
loop-input-preserved g c =
    let low : c.loop-input.input-index < length c.as_slice-input-items.result.now = omega arith in
    walk_step moving moving-append c.loop-input.entries.items _ c.as_slice-input-items.result.now c.loop-input.input-index c.loop-input-item.result low c.loop-input-item.is c.loop-input.invariant c.in_ok-push_moving.ensures

pub returns : goal.returns
returns g c = subst (λ es. IfOk c.from_entries.result (λ b. Alike b es)) (walked moving _ c.loop-input.entries.items c.as_slice-input-items.result.now c.args.delta.now c.loop-input.input-index c.from_vec.ensures c.loop-input.invariant (omega arith) c.as_slice-input-items.ensures.value) c.from_entries.ensures.alike
