-- The programs of the updates hold only the words that an update may hold.
use Rattle.std.proofs.Common.{◌≡◌, ◌∙◌, ◌++◌, ◌∷◌, [], true, false, ℤ, Bool, List, refl, sym, ap, subst}
use Rattle.std.specs.Prelude.{IsTrue}
use Rattle.std.specs.List.{list_all}
use Rattle.vertex_lang.specs.declared.program.Expr.{Expr}
use Rattle.vertex_lang.specs.declared.program.Expr.TheVariants as expr
use Rattle.vertex_lang.specs.declared.program.Program.{Program}
use Rattle.vertex_lang.specs.Leaves.{Leaf, IsUpdate, leaves_of, in_update}
use Rattle.vertex_lang.specs.Trees.{leaves-Least, leaves-Sum, leaves-Product, leaves-Number, leaves-Start, leaves-Gathered}

by-leaves : (p : Program) (leaves : List Leaf) → leaves_of p.update ≡ leaves → IsTrue (list_all in_update leaves) → IsUpdate p
by-leaves p leaves e h = record { update = subst (λ (ls : List Leaf). IsTrue (list_all in_update ls)) (sym e) h }

pub least_fits : (p : Program) → p.update ≡ expr.Least expr.Start expr.Gathered → IsUpdate p
least_fits p is =
    by-leaves p (Leaf.start ∷ Leaf.gathered ∷ [])
    (ap leaves_of is ∙ leaves-Least expr.Start expr.Gathered
    ∙ ap (λ (ls : List Leaf). ls ++ leaves_of expr.Gathered) leaves-Start
    ∙ ap (λ (ls : List Leaf). (Leaf.start ∷ []) ++ ls) leaves-Gathered)
    refl

share_leaves : (factor divisor : ℤ) → leaves_of (expr.Product expr.Gathered ((true, expr.Number factor) ∷ (false, expr.Number divisor) ∷ [])) ≡ Leaf.gathered ∷ Leaf.number factor ∷ Leaf.number divisor ∷ []
share_leaves factor divisor =
    leaves-Product expr.Gathered ((true, expr.Number factor) ∷ (false, expr.Number divisor) ∷ [])
    ∙ ap (λ (ls : List Leaf). ls ++ (leaves_of (expr.Number factor) ++ (leaves_of (expr.Number divisor) ++ []))) leaves-Gathered
    ∙ ap (λ (ls : List Leaf). (Leaf.gathered ∷ []) ++ (ls ++ (leaves_of (expr.Number divisor) ++ []))) (leaves-Number factor)
    ∙ ap (λ (ls : List Leaf). (Leaf.gathered ∷ []) ++ ((Leaf.number factor ∷ []) ++ (ls ++ []))) (leaves-Number divisor)

share_tree_fits : (p : Program) (plus : Bool) (base factor divisor : ℤ) → p.update ≡ expr.Sum (expr.Number base) ((plus, expr.Product expr.Gathered ((true, expr.Number factor) ∷ (false, expr.Number divisor) ∷ [])) ∷ []) → IsUpdate p
share_tree_fits p plus base factor divisor is =
    let share = expr.Product expr.Gathered ((true, expr.Number factor) ∷ (false, expr.Number divisor) ∷ []) in
    by-leaves p (Leaf.number base ∷ Leaf.gathered ∷ Leaf.number factor ∷ Leaf.number divisor ∷ [])
    (ap leaves_of is ∙ leaves-Sum (expr.Number base) ((plus, share) ∷ [])
    ∙ ap (λ (ls : List Leaf). ls ++ (leaves_of share ++ [])) (leaves-Number base)
    ∙ ap (λ (ls : List Leaf). (Leaf.number base ∷ []) ++ (ls ++ [])) (share_leaves factor divisor))
    refl

-- from the parts of the tree, as they are made
pub share_fits : (p : Program) (plus : Bool) (base factor divisor : ℤ) (share : Expr) (rest : List (Bool × Expr)) → p.update ≡ expr.Sum (expr.Number base) rest → rest ≡ (plus, share) ∷ [] → share ≡ expr.Product expr.Gathered ((true, expr.Number factor) ∷ (false, expr.Number divisor) ∷ []) → IsUpdate p
share_fits p plus base factor divisor share rest is more what =
    share_tree_fits p plus base factor divisor
    (is ∙ ap (λ (ms : List (Bool × Expr)). expr.Sum (expr.Number base) ms) (more ∙ ap (λ (e : Expr). (plus, e) ∷ []) what))
