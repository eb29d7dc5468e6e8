-- `hops` holds only the words that each part of a program may hold.
use Rattle.std.proofs.Common.{◌≡◌, ◌∙◌, ◌++◌, ◌∷◌, [], ℤ, pos, List, refl, sym, ap, subst, flat_map, true}
use Rattle.std.specs.Prelude.{IsTrue}
use Rattle.std.specs.List.{list_all}
use Rattle.graph_model.specs.GraphData.{GraphData}
use Rattle.vertex_lang.specs.declared.program.Cmp.TheVariants as cmp
use Rattle.vertex_lang.specs.declared.program.Check.TheVariants as check
use Rattle.vertex_lang.specs.declared.program.Expr.TheVariants as expr
use Rattle.vertex_lang.specs.Leaves.{Leaf, IsChecked, leaves_of, leaves_of_check, in_start, in_send, in_update}
use Rattle.vertex_lang.specs.Trees.{leaves-If, leaves-Sum, leaves-Number, leaves-Nil, leaves-Id, leaves-Start, leaves-Value, leaves-Gathered, leaves-Least, leaves-Compare}
use Rattle.graph_algos.specs.Hops.{hops}

is_source : (s : ℤ) → flat_map leaves_of_check (check.Compare expr.Id cmp.Eq (expr.Number s) ∷ []) ≡ Leaf.id ∷ Leaf.number s ∷ []
is_source s = ap (λ (ls : List Leaf). ls ++ []) (leaves-Compare expr.Id cmp.Eq (expr.Number s)) ∙ ap (λ (ls : List Leaf). (ls ++ leaves_of (expr.Number s)) ++ []) leaves-Id ∙ ap (λ (ls : List Leaf). ((Leaf.id ∷ []) ++ ls) ++ []) (leaves-Number s)

pub start_leaves : (s : ℤ) → leaves_of (hops s).start ≡ Leaf.id ∷ Leaf.number s ∷ Leaf.number (pos 0) ∷ []
start_leaves s =
    leaves-If (check.Compare expr.Id cmp.Eq (expr.Number s) ∷ []) (expr.Number (pos 0)) expr.Nil
    ∙ ap (λ (ls : List Leaf). ls ++ (leaves_of (expr.Number (pos 0)) ++ leaves_of expr.Nil)) (is_source s)
    ∙ ap (λ (ls : List Leaf). (Leaf.id ∷ Leaf.number s ∷ []) ++ (ls ++ leaves_of expr.Nil)) (leaves-Number (pos 0))
    ∙ ap (λ (ls : List Leaf). (Leaf.id ∷ Leaf.number s ∷ []) ++ ((Leaf.number (pos 0) ∷ []) ++ ls)) leaves-Nil

send_leaves : (s : ℤ) → leaves_of (hops s).send ≡ Leaf.value ∷ Leaf.number (pos 1) ∷ []
send_leaves s =
    leaves-Sum expr.Value ((true, expr.Number (pos 1)) ∷ [])
    ∙ ap (λ (ls : List Leaf). ls ++ (leaves_of (expr.Number (pos 1)) ++ [])) leaves-Value
    ∙ ap (λ (ls : List Leaf). (Leaf.value ∷ []) ++ (ls ++ [])) (leaves-Number (pos 1))

pub update_leaves : (s : ℤ) → leaves_of (hops s).update ≡ Leaf.start ∷ Leaf.gathered ∷ []
update_leaves s = leaves-Least expr.Start expr.Gathered ∙ ap (λ (ls : List Leaf). ls ++ leaves_of expr.Gathered) leaves-Start ∙ ap (λ (ls : List Leaf). (Leaf.start ∷ []) ++ ls) leaves-Gathered

-- so it fits every graph
pub hops_checked : (s : ℤ) (graph : GraphData) → IsChecked (hops s) graph
hops_checked s graph = record {
  start = subst (λ (ls : List Leaf). IsTrue (list_all (in_start graph.node_columns) ls)) (sym (start_leaves s)) refl;
  send = subst (λ (ls : List Leaf). IsTrue (list_all (in_send graph.edge_columns) ls)) (sym (send_leaves s)) refl;
  update = record { update = subst (λ (ls : List Leaf). IsTrue (list_all in_update ls)) (sym (update_leaves s)) refl };
}
