use Rattle.std.proofs.Common.{◌≡◌, ◌≤◌, false, length}
use Rattle.view_versions.specs.Engines.{IsEngine, Stands}
use Rattle.vertex_rows.proofs.tests.followed.follow.Given as goal

abbrev pub invariant-loop-version : goal.invariant-loop-version
invariant-loop-version g l = record {
  fresh : l.engine.spent ≡ false;
  engine : IsEngine l.engine;
  stands : Stands g.U.Updater.answer l.matrix l.engine;
  edges : l.edges ≤ length l.matrix.live;
}
