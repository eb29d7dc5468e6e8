-- `dist` holds only the words that each part of a program may hold, and one property of the edges.
use Rattle.std.proofs.Common.{◌≡◌, ◌∙◌, ◌++◌, ◌∷◌, [], ℕ, ℤ, Bool, List, refl, sym, ap, subst, true, false}
use Rattle.std.specs.Prelude.{IsTrue, ◌&&◌}
use Rattle.std.specs.List.{list_all}
use Rattle.graph_model.specs.GraphData.{GraphData}
use Rattle.vertex_lang.specs.declared.program.Expr.TheVariants as expr
use Rattle.vertex_lang.specs.Leaves.{Leaf, IsChecked, is_int_column, leaves_of, in_start, in_send, in_update}
use Rattle.vertex_lang.specs.Trees.{leaves-Sum, leaves-Value, leaves-EdgeProp}
use Rattle.graph_algos.specs.Dist.{dist}
use Rattle.graph_algos.specs.HopsLaws.{start_leaves, update_leaves}

send_leaves : (s : ℤ) (column : ℕ) → leaves_of (dist s column).send ≡ Leaf.value ∷ Leaf.edge_property column ∷ []
send_leaves s column =
    leaves-Sum expr.Value ((true, expr.EdgeProp column) ∷ [])
    ∙ ap (λ (ls : List Leaf). ls ++ (leaves_of (expr.EdgeProp column) ++ [])) leaves-Value
    ∙ ap (λ (ls : List Leaf). (Leaf.value ∷ []) ++ (ls ++ [])) (leaves-EdgeProp column)

alone : (b : Bool) → IsTrue b → IsTrue (b && true)
alone true h = h
alone false h = h

-- so it fits every graph that has a column of numbers of this number on its edges
pub dist_checked : (s : ℤ) (column : ℕ) (graph : GraphData) → IsTrue (is_int_column graph.edge_columns column) → IsChecked (dist s column) graph
dist_checked s column graph h = record {
  start = subst (λ (ls : List Leaf). IsTrue (list_all (in_start graph.node_columns) ls)) (sym (start_leaves s)) refl;
  send = subst (λ (ls : List Leaf). IsTrue (list_all (in_send graph.edge_columns) ls)) (sym (send_leaves s column)) (alone (is_int_column graph.edge_columns column) h);
  update = record { update = subst (λ (ls : List Leaf). IsTrue (list_all in_update ls)) (sym (update_leaves s)) refl };
}
