use Rattle.std.proofs.Common.{◌≡◌, fold, length, take}
use Rattle.view_versions.specs.Flags.{with_bit}
use Rattle.view_versions.proofs.flags.moved.Given as goal

abbrev pub invariant-loop-edge : goal.invariant-loop-edge
invariant-loop-edge l = record {
  so_far : l.moved.items ≡ fold (with_bit l.matrix l.view.0) l.fn.flags.items (take l.edge-index l.edges);
  count : length l.moved.items ≡ length l.fn.flags.items;
}
