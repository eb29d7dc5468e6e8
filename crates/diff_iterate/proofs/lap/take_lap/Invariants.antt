use Rattle.std.proofs.Common.{◌≡◌, ◌+◌, ◌-◌, ◌<◌, ◌≤◌, ◌⊎◌, IsTrue, false}
use Rattle.flow_core.specs.Runs.{Every, Member}
use Rattle.loop_theory.specs.Underway.{Underway}
use Rattle.diff_iterate.proofs.lap.take_lap.Given as goal

abbrev pub invariant-loop-round : goal.invariant-loop-round
invariant-loop-round g l = record {
  lap : Underway g.T.Time.leq (g.B.Operator.stands l.fn.body) (g.B.Operator.stands l.body) l.t l.delta l.round l.change l.entries.items (g.B.Operator.charge l.body - g.B.Operator.charge l.fn.body);
  some : 0 < l.round;
  most : l.round ≤ l.rounds;
  due : Every (λ d. Member d (g.B.Operator.due l.fn.body) ⊎ IsTrue (g.T.Time.leq l.t d.outer)) (g.B.Operator.due l.body);
  seal : g.B.Operator.seal l.body ≡ g.B.Operator.seal l.fn.body;
  live : g.B.Operator.spent l.body ≡ false;
  apply : g.B.Operator.apply l.body ≡ g.B.Operator.apply l.fn.body;
  kept : g.B.Operator.kept l.body ≡ g.B.Operator.kept l.fn.body;
  charge : g.B.Operator.charge l.fn.body ≤ g.B.Operator.charge l.body;
  calls : g.U.Counted.calls l.fn.updater ≤ g.U.Counted.calls l.updater;
  cost : g.U.Counted.calls l.updater + g.B.Operator.charge l.fn.body ≤ g.U.Counted.calls l.fn.updater + g.B.Operator.charge l.body;
}

abbrev pub decreases-loop-round : goal.decreases-loop-round
decreases-loop-round g l = l.rounds - l.round
