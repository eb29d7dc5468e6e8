use Rattle.std.proofs.Common.{◌≡◌, ◌++◌, ◌≤◌, ◌-◌, flat_map, take, length}
use Rattle.graph_model.specs.GraphData.{nodes_by_id}
use Rattle.result_tables.specs.TableText.{node_line}
use Rattle.result_tables.proofs.lines.push_values.Given as goal

abbrev pub invariant-loop-done : goal.invariant-loop-done
invariant-loop-done l = record {
  within : l.done ≤ l.count;
  room : length l.room ≡ 2_752;
  lines : l.text.items ≡ l.fn.text.items ++ flat_map (node_line l.graph l.values) (take l.done (nodes_by_id l.graph.ids));
}

abbrev pub decreases-loop-done : goal.decreases-loop-done
decreases-loop-done l = l.count - l.done
