use Rattle.std.proofs.Common.{◌≡◌, fold, length, take}
use Rattle.view_versions.specs.Flags.{with_flag}
use Rattle.view_versions.proofs.flags.told.Given as goal

abbrev pub invariant-loop-edge : goal.invariant-loop-edge
invariant-loop-edge l = record {
  so_far : l.told.items ≡ fold with_flag l.fn.flags.items (take l.edge-index l.edges);
  count : length l.told.items ≡ length l.fn.flags.items;
}
