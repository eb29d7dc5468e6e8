use Rattle.std.proofs.Common.{◌≡◌, ◌≤◌, Some}
use Rattle.std.specs.List.{count_by, range_with_len}
use Rattle.lone_work.specs.Work.{node_counted}
use Rattle.lone_work.proofs.count.count_round.Given as goal

abbrev pub invariant-loop-node : goal.invariant-loop-node
invariant-loop-node g l = record {
  counted : l.count ≡ count_by (λ v. node_counted g.U.Updater.answer l.program l.graph l.new (Some l.old) v l.round) (range_with_len 0 l.node);
  few : l.count ≤ l.node;
}
