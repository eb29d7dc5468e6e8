use Rattle.std.proofs.Common.{◌≡◌, fold, length, take}
use Rattle.view_versions.specs.Flags.{with_former}
use Rattle.view_versions.proofs.flags.former_flags.Given as goal

abbrev pub invariant-loop-edge : goal.invariant-loop-edge
invariant-loop-edge l = record {
  so_far : l.old.items ≡ fold (with_former l.matrix) l.fn.flags.items (take l.edge-index l.turned);
  count : length l.old.items ≡ length l.fn.flags.items;
}
