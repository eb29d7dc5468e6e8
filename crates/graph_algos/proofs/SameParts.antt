-- A program whose expressions are those of a program that fits a graph fits it too.
use Rattle.std.proofs.Common.{◌≡◌, sym, subst}
use Rattle.std.specs.Prelude.{IsTrue}
use Rattle.std.specs.List.{list_all}
use Rattle.graph_model.specs.GraphData.{GraphData}
use Rattle.vertex_lang.specs.declared.program.Along.{Along}
use Rattle.vertex_lang.specs.declared.program.Gather.{Gather}
use Rattle.vertex_lang.specs.declared.program.Expr.{Expr}
use Rattle.vertex_lang.specs.declared.program.Program.{Program}
use Rattle.vertex_lang.specs.Leaves.{IsChecked, leaves_of, in_start, in_send, in_update}

pub same_parts : (p : Program) (graph : GraphData) (way : Along) (first message : Expr) (kind : Gather) (later : Expr)
    → first ≡ p.start → message ≡ p.send → later ≡ p.update → IsChecked p graph
    → IsChecked (record { along = way; start = first; send = message; gather = kind; update = later }) graph
same_parts p graph way first message kind later e f g h = record {
  start = subst (λ (x : Expr). IsTrue (list_all (in_start graph.node_columns) (leaves_of x))) (sym e) h.start;
  send = subst (λ (x : Expr). IsTrue (list_all (in_send graph.edge_columns) (leaves_of x))) (sym f) h.send;
  update = record { update = subst (λ (x : Expr). IsTrue (list_all in_update (leaves_of x))) (sym g) h.update.update };
}
