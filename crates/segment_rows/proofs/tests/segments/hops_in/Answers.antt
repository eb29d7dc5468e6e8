use Rattle.segment_rows.proofs.Fresh.{fresh-stands}
use Rattle.segment_rows.proofs.tests.segments.hops_in.Goals as goal

pub step_all-requires-clause-plan : goal.step_all-requires-clause-plan
step_all-requires-clause-plan g c = record {
  checked = c.in_ok-program.ensures.checked _;
  kernel = c.in_ok-kernel.ensures.kernel;
  some = c.requires.at_least;
  limit = c.requires.limit;
}

pub step_all-requires-clause-stands : goal.step_all-requires-clause-stands
step_all-requires-clause-stands g c = fresh-stands _ c.in_ok-segment.segment c.in_ok-segment.ensures.works c.in_ok-segment.ensures.history c.in_ok-segment.ensures.flags
