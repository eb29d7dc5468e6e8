-- Rows of all edges run in their direction, and what is kept of a view may be another.
use Rattle.std.specs.Prelude.{◌≡◌, List, length, map, All}
use Rattle.std.specs.List.{range_with_len}
use Rattle.std.specs.List.Sorted.{IsPermutation}
use Rattle.std.proofs.Common.{sym, subst}
use Rattle.std.proofs.lemmas.List.Sorted.{All-permutation}
use Rattle.graph_model.specs.GraphData.{GraphData}
use Rattle.vertex_lang.specs.declared.arc.Arc.{Arc}
use Rattle.vertex_lang.specs.declared.program.Along.{Along}
use Rattle.vertex_lang.specs.ArcLaws.{arcs-run}
use Rattle.vertex_lang.specs.Arcs.{arcs_between}
use Rattle.vertex_lang.specs.Directions.{RunsAlong}
use Rattle.arc_rows.specs.declared.rows.Rows.{Rows}
use Rattle.arc_rows.specs.RowLists.{edge, AreOfAll, AreAlong}

-- the arcs of all edges run in their direction
pub all-along : (way : Along) (graph : GraphData) (rows : Rows) → AreOfAll way graph rows → AreAlong way graph rows
all-along way graph rows is =
    let edges = map edge (range_with_len 0 (length graph.ends)) in
    All-permutation (RunsAlong way graph) (arcs_between way graph edges) rows.by_head is (arcs-run way graph edges)

-- rows of the same arcs are of all edges too, and run in the same direction
pub all-still : (way : Along) (graph : GraphData) (rows others : Rows) → others.by_head ≡ rows.by_head → AreOfAll way graph rows → AreOfAll way graph others
all-still way graph rows others same is = subst (λ (arcs : List Arc). IsPermutation (arcs_between way graph (map edge (range_with_len 0 (length graph.ends)))) arcs) (sym same) is

pub along-still : (way : Along) (graph : GraphData) (rows others : Rows) → others.by_head ≡ rows.by_head → AreAlong way graph rows → AreAlong way graph others
along-still way graph rows others same is = subst (λ (arcs : List Arc). All (RunsAlong way graph) arcs) (sym same) is
