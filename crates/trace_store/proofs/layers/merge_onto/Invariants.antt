use Rattle.std.proofs.Common.{◌≤◌, ◌+◌, ◌++◌, length, drop}
use Rattle.weighted.specs.Alike.{Alike}
use Rattle.weighted.specs.Batches.{joined}
use Rattle.trace_store.proofs.layers.merge_onto.Given as goal

abbrev pub invariant-loop-left : goal.invariant-loop-left
invariant-loop-left g l = record {
  bound : l.left ≤ length l.layers;
  alike : Alike l.merged (joined (drop l.left l.layers) ++ l.fn.newest);
  short : length l.merged ≤ length (joined (drop l.left l.layers)) + length l.fn.newest;
}

abbrev pub decreases-loop-left : goal.decreases-loop-left
decreases-loop-left g l = l.left
