-- The loop inside is a new one.
use Rattle.phase_flow.proofs.rounds.StartFlowsMakesRounds.make.Goals as goal

pub returns-clause-fresh : goal.returns-clause-fresh
returns-clause-fresh g c = record {
  is_new = c.start_flow.ensures.fresh.is_new;
  nothing_due = c.start_flow.ensures.fresh.nothing_due;
  at_least = c.start_flow.ensures.fresh.at_least;
  live = c.start_flow.ensures.fresh.live;
}
