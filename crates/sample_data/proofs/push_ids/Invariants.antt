use Rattle.std.proofs.Common.{◌≡◌, ◌≤◌, ◌-◌, ◌++◌}
use Rattle.sample_data.specs.Sample.{ids_from}
use Rattle.sample_data.proofs.push_ids.Given as goal

abbrev pub decreases-loop-left : goal.decreases-loop-left
decreases-loop-left l = l.left

abbrev pub invariant-loop-left : goal.invariant-loop-left
invariant-loop-left l = record {
  few : l.left ≤ 2_000;
  pushed : l.text.items ++ ids_from (2_001 - l.left) l.left ≡ l.fn.text.items ++ ids_from 1 2_000;
}
