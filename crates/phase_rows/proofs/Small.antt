-- The programs of the cases fit every graph.
use Rattle.std.proofs.Common.{◌≡◌, ◌∙◌, ◌++◌, ◌∷◌, [], Bool, List, true, pos, ap, sym, subst, refl}
use Rattle.std.specs.Prelude.{IsTrue}
use Rattle.std.specs.List.{list_all}
use Rattle.graph_model.specs.GraphData.{GraphData}
use Rattle.vertex_lang.specs.declared.program.Check.TheVariants as check
use Rattle.vertex_lang.specs.declared.program.Cmp.TheVariants as cmp
use Rattle.vertex_lang.specs.declared.program.Expr.{Expr}
use Rattle.vertex_lang.specs.declared.program.Expr.TheVariants as expr
use Rattle.vertex_lang.specs.declared.program.Program.{Program}
use Rattle.vertex_lang.specs.Leaves.{Leaf, IsChecked, leaves_of, leaves_of_check, in_start, in_send, in_update}
use Rattle.vertex_lang.specs.Trees.{leaves-Compare, leaves-Gathered, leaves-If, leaves-Number, leaves-Start, leaves-Sum, leaves-Value}
use Rattle.phase_rows.specs.Programs.{grown, grown_at_first, plus}

pub fits : (p : Program) (graph : GraphData) (start send : List Leaf) → leaves_of p.start ≡ start → leaves_of p.send ≡ send
    → IsTrue (list_all (in_start graph.node_columns) start) → IsTrue (list_all (in_send graph.edge_columns) send) → IsTrue (list_all in_update (leaves_of p.update)) → IsChecked p graph
fits p graph start send e f h k l = record {
  start = subst (λ (ls : List Leaf). IsTrue (list_all (in_start graph.node_columns) ls)) (sym e) h;
  send = subst (λ (ls : List Leaf). IsTrue (list_all (in_send graph.edge_columns) ls)) (sym f) k;
  update = record { update = l };
}

plus_leaves : (a b : Expr) (first second : List Leaf) → leaves_of a ≡ first → leaves_of b ≡ second → leaves_of (plus a b) ≡ first ++ (second ++ [])
plus_leaves a b first second e f =
    leaves-Sum a ((true, b) ∷ [])
    ∙ ap (λ (ls : List Leaf). ls ++ (leaves_of b ++ [])) e
    ∙ ap (λ (ls : List Leaf). first ++ (ls ++ [])) f

grown_leaves : leaves_of grown ≡ Leaf.start ∷ Leaf.gathered ∷ []
grown_leaves = plus_leaves expr.Start expr.Gathered (Leaf.start ∷ []) (Leaf.gathered ∷ []) leaves-Start leaves-Gathered

low_leaves : leaves_of_check (check.Compare expr.Start cmp.Lt (expr.Number (pos 3))) ≡ Leaf.start ∷ Leaf.number (pos 3) ∷ []
low_leaves =
    leaves-Compare expr.Start cmp.Lt (expr.Number (pos 3))
    ∙ ap (λ (ls : List Leaf). ls ++ leaves_of (expr.Number (pos 3))) leaves-Start
    ∙ ap (λ (ls : List Leaf). (Leaf.start ∷ []) ++ ls) (leaves-Number (pos 3))

first_leaves : leaves_of grown_at_first ≡ Leaf.start ∷ Leaf.number (pos 3) ∷ Leaf.start ∷ Leaf.gathered ∷ Leaf.value ∷ Leaf.gathered ∷ []
first_leaves =
    let more : Expr = plus expr.Value expr.Gathered in
    leaves-If (check.Compare expr.Start cmp.Lt (expr.Number (pos 3)) ∷ []) grown more
    ∙ ap (λ (ls : List Leaf). (ls ++ []) ++ (leaves_of grown ++ leaves_of more)) low_leaves
    ∙ ap (λ (ls : List Leaf). (Leaf.start ∷ Leaf.number (pos 3) ∷ []) ++ (ls ++ leaves_of more)) grown_leaves
    ∙ ap (λ (ls : List Leaf). (Leaf.start ∷ Leaf.number (pos 3) ∷ []) ++ ((Leaf.start ∷ Leaf.gathered ∷ []) ++ ls)) (plus_leaves expr.Value expr.Gathered (Leaf.value ∷ []) (Leaf.gathered ∷ []) leaves-Value leaves-Gathered)

pub grown_fits : (e : Expr) → e ≡ grown → IsTrue (list_all in_update (leaves_of e))
grown_fits e is = subst (λ (ls : List Leaf). IsTrue (list_all in_update ls)) (sym (ap leaves_of is ∙ grown_leaves)) refl

pub first_fits : (e : Expr) → e ≡ grown_at_first → IsTrue (list_all in_update (leaves_of e))
first_fits e is = subst (λ (ls : List Leaf). IsTrue (list_all in_update ls)) (sym (ap leaves_of is ∙ first_leaves)) refl
