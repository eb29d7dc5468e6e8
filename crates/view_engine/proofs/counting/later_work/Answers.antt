-- The sum of few small works is small.
use Rattle.std.proofs.Common.{arith}
use Rattle.view_engine.proofs.Deciding.{few_sum}
use Rattle.view_engine.proofs.counting.later_work.Goals as goal

pub all_work-requires : goal.all_work-requires
all_work-requires c = omega (arith, few_sum c.args.works.now c.requires.few c.requires.small)
