use Rattle.std.proofs.Common.{◌<◌, ◌≤◌, length}
use Rattle.std.specs.Prelude.{All}
use Rattle.algorithm_rows.proofs.tests.views.edges_at.Given as goal

abbrev pub invariant-loop-edge : goal.invariant-loop-edge
invariant-loop-edge l = record {
  within : All (λ e. e.0 < length l.graph.ends) l.edges.items;
  few : length l.edges.items ≤ l.edge;
}
