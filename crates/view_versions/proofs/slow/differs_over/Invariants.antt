use Rattle.std.proofs.Common.{◌≡◌, false}
use Rattle.lone_work.specs.Inputs.{input}
use Rattle.view_versions.specs.Touched.{differs}
use Rattle.view_versions.proofs.slow.differs_over.Given as goal

abbrev pub invariant-loop-round : goal.invariant-loop-round
invariant-loop-round g l = differs (input g.U.Updater.answer l.versions.program.now l.versions.graph.now l.new l.node) (input g.U.Updater.answer l.versions.program.now l.versions.graph.now l.old l.node) l.round ≡ false
