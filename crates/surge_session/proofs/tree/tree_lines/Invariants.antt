use Rattle.std.proofs.Common.{◌≡◌, length, take, flat_map}
use Rattle.std.specs.List.{range_with_len}
use Rattle.tree_order.specs.Trees.{tree_walk}
use Rattle.surge_session.specs.Output.{branch_line, difference}
use Rattle.surge_session.specs.State.{shown_graph}
use Rattle.surge_session.proofs.tree.tree_lines.Given as goal

abbrev pub invariant-loop-i : goal.invariant-loop-i
invariant-loop-i l = record {
  text : l.text.items ≡ flat_map (branch_line (difference (shown_graph l.graph l.matrix) l.views) l.views) (take l.i (tree_walk (difference (shown_graph l.graph l.matrix) l.views) (range_with_len 0 (length l.views))));
}
