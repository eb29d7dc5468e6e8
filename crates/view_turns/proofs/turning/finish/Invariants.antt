use Rattle.std.proofs.Common.{◌≡◌, ◌+◌, ◌≤◌, false}
use Rattle.view_engine.specs.Engines.{IsEngine, Stands, IsSameRun, stepped_in}
use Rattle.view_turns.specs.Turns.{after_turns, seeded, done, AreTurned}
use Rattle.view_turns.proofs.turning.finish.Given as goal

abbrev pub invariant-loop-turn : goal.invariant-loop-turn
invariant-loop-turn g l = record {
  engine : IsEngine l.engine;
  fresh : l.engine.spent ≡ false;
  stands : Stands g.U.Updater.answer l.matrix l.engine;
  run : IsSameRun l.fn.engine l.engine;
  order : l.engine.order ≡ l.fn.engine.order;
  draws : l.draws ≡ after_turns (seeded l.fn.turns) l._turn;
  turned : AreTurned g.U.Updater.answer l.matrix (seeded l.fn.turns) l._turn l.fn.engine (g.U.Counted.calls l.fn.updater) l.engine (g.U.Counted.calls l.updater);
  stepped : l._turn ≤ stepped_in l.engine;
  calls : g.U.Counted.calls l.updater + done l.fn.engine ≡ g.U.Counted.calls l.fn.updater + done l.engine;
}
