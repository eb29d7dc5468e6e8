-- The edge is one of the graph's, and all up to it are told.
use Rattle.std.proofs.Common.{◌<◌, ◌+◌, List, length, subst, sym}
use Rattle.std.specs.Prelude.{All}
use Rattle.std.proofs.lemmas.List.Elements.{All-push}
use Rattle.graph_model.specs.declared.number.EdgeNo.{EdgeNo}
use Rattle.arc_rows.specs.RowLists.{edge}
use Rattle.vertex_rows.proofs.Small.{AllBefore, all-pushed}
use Rattle.vertex_rows.proofs.tests.kernel.all_edges.Goals as goal

pub loop-edge-preserved : goal.loop-edge-preserved
loop-edge-preserved c =
    let had = c.loop-edge.edges.items in
    let i = c.loop-edge.edge in
    let ends = c.args.graph.now.ends in
    let below = subst (λ n. i < n) c.edge_count-edge-end.ensures.count c.loop-edge-test.true in
    let pushed = sym c.in_ok-push.ensures.items in
    let within = All-push (λ e. e.0 < length ends) had (edge i) c.loop-edge.invariant.within below in
    record {
      within = subst (λ (es : List EdgeNo). All (λ e. e.0 < length ends) es) pushed within;
      all = subst (λ (es : List EdgeNo). AllBefore es (i + 1)) pushed (all-pushed had i c.loop-edge.invariant.all);
    }
