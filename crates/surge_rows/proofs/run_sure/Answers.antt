-- Ends that never fail count no failure.
use Rattle.std.proofs.Common.{◌<◌, arith}
use Rattle.surge_outside.specs.Counts.{HasRisen}
use Rattle.surge_rows.proofs.run_sure.Goals as goal

never : HasRisen 0 0 → ⊥
never risen = omega (arith, risen)

pub returns : goal.returns
returns g c = c.surge.ensures.complete (record { reads = λ name risen. never risen; writes = λ risen. never risen })
