use Rattle.std.proofs.Common.{◌≡◌, ◌++◌}
use Rattle.sample_data.specs.Sample.{edges_drawn}
use Rattle.sample_data.proofs.push_edges.Given as goal

abbrev pub decreases-loop-left : goal.decreases-loop-left
decreases-loop-left l = l.left

abbrev pub invariant-loop-left : goal.invariant-loop-left
invariant-loop-left l = record {
  pushed : l.text.items ++ edges_drawn l.left l.draws.state ≡ l.fn.text.items ++ edges_drawn 10_000 l.fn.draws.state;
}
