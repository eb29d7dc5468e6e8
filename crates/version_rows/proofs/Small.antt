-- Programs whose parts are single words.
use Rattle.std.proofs.Common.{◌≡◌, List, sym, subst}
use Rattle.std.specs.Prelude.{IsTrue}
use Rattle.std.specs.List.{list_all}
use Rattle.graph_model.specs.GraphData.{GraphData}
use Rattle.vertex_lang.specs.declared.program.Program.{Program}
use Rattle.vertex_lang.specs.Leaves.{Leaf, IsChecked, leaves_of, in_start, in_send, in_update}

pub fits : (p : Program) (graph : GraphData) (start send update : List Leaf)
    → leaves_of p.start ≡ start → leaves_of p.send ≡ send → leaves_of p.update ≡ update
    → IsTrue (list_all (in_start graph.node_columns) start) → IsTrue (list_all (in_send graph.edge_columns) send)
    → IsTrue (list_all in_update update) → IsChecked p graph
fits p graph start send update e f g h k l = record {
  start = subst (λ (ls : List Leaf). IsTrue (list_all (in_start graph.node_columns) ls)) (sym e) h;
  send = subst (λ (ls : List Leaf). IsTrue (list_all (in_send graph.edge_columns) ls)) (sym f) k;
  update = record { update = subst (λ (ls : List Leaf). IsTrue (list_all in_update ls)) (sym g) l };
}
