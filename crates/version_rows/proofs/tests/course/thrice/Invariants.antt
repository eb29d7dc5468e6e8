use Rattle.std.proofs.Common.{◌≡◌}
use Rattle.version_rows.specs.Courses.{IsCourse}
use Rattle.version_rows.proofs.tests.course.thrice.Given as goal

abbrev pub invariant-loop-edit : goal.invariant-loop-edit
invariant-loop-edit g l = record {
  same : l.former ≡ l.matrix;
  columns : l.matrix.columns ≡ l.fn.matrix.columns;
  course : IsCourse g.U.Updater.answer l.scene.graph.now l.matrix l.engine;
}
