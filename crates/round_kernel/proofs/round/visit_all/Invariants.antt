use Rattle.std.proofs.Common.{◌≡◌, ◌+◌, length}
use Rattle.round_kernel.specs.Frames.{AreShown}
use Rattle.round_kernel.proofs.Stepping.{IsVisiting}
use Rattle.round_kernel.proofs.KeptRounds.{IsKeeping}
use Rattle.round_kernel.proofs.round.visit_all.Given as goal

abbrev pub invariant-loop-node : goal.invariant-loop-node
invariant-loop-node g l = record {
  visiting : IsVisiting g.U.Updater.answer l.stage.frame l.stage.round l.initial.made.marks l.lists.queue l.lists l.made l.work;
  keeping : IsKeeping g.U.Updater.answer l.stage.frame l.stage.round l.lists.queue l.kept;
  shown : AreShown g.U.Updater.answer l.stage.frame l.stage.round l.lists;
  marked : l.lists.marked ≡ l.initial.lists.marked;
  listed : l.lists.shown ≡ l.initial.lists.shown;
  calls : g.U.Counted.calls l.updater ≡ g.U.Counted.calls l.initial.updater + l.work;
}

abbrev pub decreases-loop-node : goal.decreases-loop-node
decreases-loop-node g l = length l.lists.queue.nodes.items
