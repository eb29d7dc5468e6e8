-- The edges of a view.
use Rattle.std.specs.Prelude.{ℕ, List, length, map, filter}
use Rattle.std.specs.List.{range_with_len}
use Rattle.graph_model.specs.declared.number.EdgeNo.{EdgeNo}
use Rattle.graph_model.specs.GraphData.{GraphData}
use Rattle.edge_predicates.specs.declared.pred.ViewRule.{ViewRule}
use Rattle.edge_predicates.specs.Truth.{rule_truth}

abbrev pub edge : ℕ → EdgeNo
edge n = record { 0 = n }

-- the edges of a graph, in the order of the file
abbrev pub edges_of : GraphData → List EdgeNo
edges_of g = map edge (range_with_len 0 (length g.ends))

-- the edges of a view: those for which each predicate of its rule holds, in the order of the file
abbrev pub view_edges : GraphData → ViewRule → List EdgeNo
view_edges g rule = filter (λ e. rule_truth g e.0 rule) (edges_of g)
