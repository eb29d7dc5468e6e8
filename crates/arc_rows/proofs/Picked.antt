-- The edges of the arcs of a row.
use Rattle.std.proofs.Common.{◌≡◌, ◌<◌, sym, subst, ℕ, Bool, List, length, arith}
use Rattle.std.specs.Prelude.{All, ◌==◌}
use Rattle.std.proofs.lemmas.List.Elements.{All-filter, All-weaker}
use Rattle.graph_model.specs.GraphData.{GraphData}
use Rattle.vertex_lang.specs.declared.arc.Arc.{Arc}
use Rattle.vertex_lang.specs.Arcs.{IsArc}
use Rattle.arc_rows.specs.declared.rows.Rows.{Rows}
use Rattle.arc_rows.specs.RowLists.{AreRows}
use Rattle.arc_rows.specs.Views.{row_of}

-- there is a flag for the edge of each arc of a row
pub row-edges : (graph : GraphData) (rows : Rows) (edges : List Bool) (row : List Arc) (v : ℕ) → AreRows graph rows → length edges ≡ length graph.ends → row ≡ row_of rows.by_head v → All (λ a. a.edge.0 < length edges) row
row-edges graph rows edges row v are size e =
    subst (λ (xs : List Arc). All (λ a. a.edge.0 < length edges) xs) (sym e)
    (All-filter (λ (a : Arc). a.head.0 == v) (λ (a : Arc). a.edge.0 < length edges) rows.by_head
    (All-weaker (IsArc graph) (λ a. a.edge.0 < length edges) (λ a arc. omega (arith, arc.edge, size)) rows.by_head are.arcs))
