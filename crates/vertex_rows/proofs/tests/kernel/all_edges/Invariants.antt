use Rattle.std.proofs.Common.{◌<◌, length}
use Rattle.std.specs.Prelude.{All}
use Rattle.vertex_rows.proofs.Small.{AllBefore}
use Rattle.vertex_rows.proofs.tests.kernel.all_edges.Given as goal

abbrev pub invariant-loop-edge : goal.invariant-loop-edge
invariant-loop-edge l = record {
  within : All (λ e. e.0 < length l.graph.ends) l.edges.items;
  all : AllBefore l.edges.items l.edge;
}
