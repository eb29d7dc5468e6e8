-- `wcc` holds only the words that each part of a program may hold.
use Rattle.std.proofs.Common.{List, refl, sym, subst}
use Rattle.std.specs.Prelude.{IsTrue, pos}
use Rattle.std.specs.List.{list_all}
use Rattle.graph_model.specs.GraphData.{GraphData}
use Rattle.vertex_lang.specs.Leaves.{Leaf, IsChecked, in_start, in_send, in_update}
use Rattle.vertex_lang.specs.Trees.{leaves-Id, leaves-Value}
use Rattle.graph_algos.specs.Wcc.{wcc}
use Rattle.graph_algos.specs.HopsLaws.{update_leaves}

-- so it fits every graph
pub wcc_checked : (graph : GraphData) → IsChecked wcc graph
wcc_checked graph = record {
  start = subst (λ (ls : List Leaf). IsTrue (list_all (in_start graph.node_columns) ls)) (sym leaves-Id) refl;
  send = subst (λ (ls : List Leaf). IsTrue (list_all (in_send graph.edge_columns) ls)) (sym leaves-Value) refl;
  update = record { update = subst (λ (ls : List Leaf). IsTrue (list_all in_update ls)) (sym (update_leaves (pos 0))) refl };
}
