use Rattle.std.proofs.Common.{◌≡◌, fold, length, take}
use Rattle.view_segment.specs.Steps.{with_turned}
use Rattle.view_segment.proofs.flags.turned_flags.Given as goal

abbrev pub invariant-loop-edge : goal.invariant-loop-edge
invariant-loop-edge l = record {
  turned_so_far : l.new.items ≡ fold with_turned l.flags (take l.edge-index l.turned);
  count : length l.new.items ≡ length l.flags;
}
