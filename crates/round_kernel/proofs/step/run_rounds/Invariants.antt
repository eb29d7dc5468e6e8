use Rattle.std.proofs.Common.{◌≡◌, ◌≤◌, ◌+◌, ◌*◌, ◌-◌}
use Rattle.lone_work.specs.Work.{work}
use Rattle.round_kernel.specs.Changes.{StandsBefore}
use Rattle.round_kernel.specs.Frames.{new_arcs, old_arcs}
use Rattle.round_kernel.specs.Steps.{IsLog}
use Rattle.round_kernel.proofs.step.run_rounds.Given as goal

abbrev pub invariant-loop-round : goal.invariant-loop-round
invariant-loop-round g l = record {
  log : IsLog g.U.Updater.answer l.frame l.round l.log;
  keeps : l.log.keeps ≡ l.keeps;
  state : StandsBefore g.U.Updater.answer l.frame l.round l.state;
  within : l.round ≤ l.frame.limit;
  work : l.work ≡ work g.U.Updater.answer l.frame.program.now l.frame.graph.now (new_arcs l.frame) (old_arcs l.frame) l.round;
  few : l.work ≤ 1_000_000 * l.round;
  calls : g.U.Counted.calls l.updater ≡ g.U.Counted.calls l.initial.updater + l.work;
}

abbrev pub decreases-loop-round : goal.decreases-loop-round
decreases-loop-round g l = l.frame.limit - l.round
