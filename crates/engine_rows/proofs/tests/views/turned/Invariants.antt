-- The engine stands behind each turn.
use Rattle.std.proofs.Common.{◌≡◌, false}
use Rattle.view_engine.specs.Engines.{IsEngine, Stands}
use Rattle.engine_rows.proofs.tests.views.turned.Given as goal

abbrev pub invariant-loop-number : goal.invariant-loop-number
invariant-loop-number g l = record {
  engine : IsEngine l.engine;
  fresh : l.engine.spent ≡ false;
  stands : Stands g.U.Updater.answer l.matrix l.engine;
  order : l.engine.order ≡ l.fn.engine.order;
  grows : l.engine.grows ≡ l.fn.engine.grows;
}
