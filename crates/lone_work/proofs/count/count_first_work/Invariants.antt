use Rattle.std.proofs.Common.{◌≡◌, ◌≤◌, ◌*◌, None}
use Rattle.lone_work.specs.Work.{work}
use Rattle.lone_work.proofs.count.count_first_work.Given as goal

abbrev pub invariant-loop-round : goal.invariant-loop-round
invariant-loop-round g l = record {
  total : l.total ≡ work g.U.Updater.answer l.program l.graph l.new None l.round;
  few : l.total ≤ 1_000_000 * l.round;
}
