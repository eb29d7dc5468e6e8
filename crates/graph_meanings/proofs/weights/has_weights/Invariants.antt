use Rattle.std.proofs.Common.{◌≡◌, ◌<◌, ◌^◌, take}
use Rattle.std.specs.Prelude.{ℕ, pos, All, sum_by}
use Rattle.graph_model.specs.GraphData.{Cell, edge_cell_of}
use Rattle.graph_meanings.specs.Meanings.{weight_in}
use Rattle.graph_meanings.proofs.weights.has_weights.Given as goal

abbrev pub invariant-loop-arc : goal.invariant-loop-arc
invariant-loop-arc l = record {
  present : All (λ a. (n : ℕ) × (edge_cell_of l.graph a.edge.0 l.column ≡ Cell.int (pos n))) (take l.arc-index l.arcs);
  counted : l.total ≡ sum_by (weight_in l.graph l.column) (take l.arc-index l.arcs);
  small : l.total < 2 ^ 62;
}
