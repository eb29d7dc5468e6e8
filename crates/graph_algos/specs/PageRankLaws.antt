-- `pagerank` holds only the words that each part of a program may hold.
use Rattle.std.proofs.Common.{◌≡◌, ◌∙◌, ◌++◌, ◌∷◌, [], pos, List, refl, sym, ap, subst, true, false}
use Rattle.std.specs.Prelude.{IsTrue}
use Rattle.std.specs.List.{list_all}
use Rattle.graph_model.specs.GraphData.{GraphData}
use Rattle.vertex_lang.specs.declared.program.Expr.TheVariants as expr
use Rattle.vertex_lang.specs.Leaves.{Leaf, IsChecked, leaves_of, in_start, in_send, in_update}
use Rattle.vertex_lang.specs.Trees.{leaves-Sum, leaves-Product, leaves-Number, leaves-Value, leaves-Gathered, leaves-Outdeg}
use Rattle.graph_algos.specs.PageRank.{pagerank, share}

send_leaves : leaves_of pagerank.send ≡ Leaf.value ∷ Leaf.outdeg ∷ []
send_leaves =
    leaves-Product expr.Value ((false, expr.Outdeg) ∷ [])
    ∙ ap (λ (ls : List Leaf). ls ++ (leaves_of expr.Outdeg ++ [])) leaves-Value
    ∙ ap (λ (ls : List Leaf). (Leaf.value ∷ []) ++ (ls ++ [])) leaves-Outdeg

share_leaves : leaves_of share ≡ Leaf.gathered ∷ Leaf.number (pos 850000) ∷ Leaf.number (pos 1000000) ∷ []
share_leaves =
    leaves-Product expr.Gathered ((true, expr.Number (pos 850000)) ∷ (false, expr.Number (pos 1000000)) ∷ [])
    ∙ ap (λ (ls : List Leaf). ls ++ (leaves_of (expr.Number (pos 850000)) ++ (leaves_of (expr.Number (pos 1000000)) ++ []))) leaves-Gathered
    ∙ ap (λ (ls : List Leaf). (Leaf.gathered ∷ []) ++ (ls ++ (leaves_of (expr.Number (pos 1000000)) ++ []))) (leaves-Number (pos 850000))
    ∙ ap (λ (ls : List Leaf). (Leaf.gathered ∷ []) ++ ((Leaf.number (pos 850000) ∷ []) ++ (ls ++ []))) (leaves-Number (pos 1000000))

update_leaves : leaves_of pagerank.update ≡ Leaf.number (pos 150000) ∷ Leaf.gathered ∷ Leaf.number (pos 850000) ∷ Leaf.number (pos 1000000) ∷ []
update_leaves =
    leaves-Sum (expr.Number (pos 150000)) ((true, share) ∷ [])
    ∙ ap (λ (ls : List Leaf). ls ++ (leaves_of share ++ [])) (leaves-Number (pos 150000))
    ∙ ap (λ (ls : List Leaf). (Leaf.number (pos 150000) ∷ []) ++ (ls ++ [])) share_leaves

-- so it fits every graph
pub pagerank_checked : (graph : GraphData) → IsChecked pagerank graph
pagerank_checked graph = record {
  start = subst (λ (ls : List Leaf). IsTrue (list_all (in_start graph.node_columns) ls)) (sym (leaves-Number (pos 1000000))) refl;
  send = subst (λ (ls : List Leaf). IsTrue (list_all (in_send graph.edge_columns) ls)) (sym send_leaves) refl;
  update = record { update = subst (λ (ls : List Leaf). IsTrue (list_all in_update ls)) (sym update_leaves) refl };
}
