use Rattle.std.proofs.Common.{◌≡◌, ◌≤◌, ◌<◌, length, All}
use Rattle.edge_predicates.proofs.Kept.{kept}
use Rattle.edge_predicates.proofs.edges.view_edges.Given as goal

abbrev pub invariant-loop-number : goal.invariant-loop-number
invariant-loop-number l = record {
  all : l.number-end ≡ length l.graph.ends;
  limit : l.number-end ≤ 4_000_000;
  edges : l.edges ≡ kept l.graph l.rule l.number;
  within : All (λ e. e.0 < length l.graph.ends) l.edges;
  few : length l.edges ≤ l.number;
}
