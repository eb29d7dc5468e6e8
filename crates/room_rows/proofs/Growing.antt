-- The program of the rows of phases: what is sent is a number, and what comes is added to the start.
use Rattle.std.proofs.Common.{◌≡◌, ◌∙◌, ◌++◌, ◌∷◌, [], true, ℤ, Bool, List, refl, ap}
use Rattle.graph_model.specs.GraphData.{GraphData}
use Rattle.vertex_lang.specs.declared.program.Expr.{Expr}
use Rattle.vertex_lang.specs.declared.program.Expr.TheVariants as expr
use Rattle.vertex_lang.specs.declared.program.Program.{Program}
use Rattle.vertex_lang.specs.Leaves.{Leaf, IsChecked, leaves_of}
use Rattle.vertex_lang.specs.Trees.{leaves-Sum, leaves-Number, leaves-Start, leaves-Gathered}
use Rattle.room_rows.proofs.Programs.{fits}

sum-leaves : leaves_of (expr.Sum expr.Start ((true, expr.Gathered) ∷ [])) ≡ Leaf.start ∷ Leaf.gathered ∷ []
sum-leaves =
    leaves-Sum expr.Start ((true, expr.Gathered) ∷ [])
    ∙ ap (λ (ls : List Leaf). ls ++ (leaves_of expr.Gathered ++ [])) leaves-Start
    ∙ ap (λ (ls : List Leaf). (Leaf.start ∷ []) ++ (ls ++ [])) leaves-Gathered

-- the update from its parts, as they are made
pub grow-fits : (p : Program) (graph : GraphData) (begin : Expr) (rest : List (Bool × Expr)) (first sent : ℤ) → p.start ≡ expr.Number first → p.send ≡ expr.Number sent → p.update ≡ expr.Sum begin rest
    → begin ≡ expr.Start → rest ≡ (true, expr.Gathered) ∷ [] → IsChecked p graph
grow-fits p graph begin rest first sent from sends updates is-start is-rest =
    fits p graph (Leaf.number first ∷ []) (Leaf.number sent ∷ []) (Leaf.start ∷ Leaf.gathered ∷ [])
    (ap leaves_of from ∙ leaves-Number first)
    (ap leaves_of sends ∙ leaves-Number sent)
    (ap leaves_of updates ∙ ap (λ (e : Expr). leaves_of (expr.Sum e rest)) is-start ∙ ap (λ (ms : List (Bool × Expr)). leaves_of (expr.Sum expr.Start ms)) is-rest ∙ sum-leaves)
    refl refl refl
