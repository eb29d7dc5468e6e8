-- The functions of parts, told in other words.
use Rattle.std.specs.declared.cmp.Ordering.{Ordering}
use Rattle.std.proofs.Common.{◌≡◌, ◌∙◌, ℕ, List, ◌++◌, ap}
use Rattle.graph_model.specs.declared.number.NodeNo.{NodeNo}
use Rattle.vertex_lang.specs.declared.arc.Arc.{Arc}
use Rattle.vertex_lang.specs.declared.program.Program.{Program}
use Rattle.flow_core.specs.Expanded.{expanded}
use Rattle.view_items.specs.Collections.{InLoop}
use Rattle.view_items.specs.Prepared.{arcs_in_loop}

-- one after the other
pub chain_is : {I M O : Type 0} (first first' : List (I × ℕ) → List (M × ℕ)) (second second' : List (M × ℕ) → List (O × ℕ)) (whole : List (I × ℕ) → List (O × ℕ)) → whole ≡ (λ xs. second (first xs)) → first ≡ first' → second ≡ second' → whole ≡ (λ xs. second' (first' xs))
chain_is {I} {M} {O} first first' second second' whole w f s = w ∙ ap (λ (k : List (I × ℕ) → List (M × ℕ)). (λ xs. second (k xs))) f ∙ ap (λ (k : List (M × ℕ) → List (O × ℕ)). (λ xs. k (first' xs))) s

-- past another one
pub bypass_is : {I M O : Type 0} (past : List (I × ℕ) → List (O × ℕ)) (into : List (I × ℕ) → List (M × ℕ)) (inner inner' : List (M × ℕ) → List (O × ℕ)) (whole : List (I × ℕ) → List (O × ℕ)) → whole ≡ (λ xs. past xs ++ inner (into xs)) → inner ≡ inner' → whole ≡ (λ xs. past xs ++ inner' (into xs))
bypass_is {I} {M} {O} past into inner inner' whole w n = w ∙ ap (λ (k : List (M × ℕ) → List (O × ℕ)). (λ xs. past xs ++ k (into xs))) n

-- what comes into the loop, by other words for what begins and for the arcs by their tails
pub prepared_by : {I : Type 0} (ncmp : NodeNo → NodeNo → Ordering) (acmp : Arc → Arc → Ordering) (p : Program) (begins begins' : I → List InLoop) (tails tails' : I → List (NodeNo × Arc)) (whole : List (I × ℕ) → List (InLoop × ℕ)) → whole ≡ (λ fed. expanded begins fed ++ arcs_in_loop ncmp acmp p (expanded tails fed)) → begins ≡ begins' → tails ≡ tails' → whole ≡ (λ fed. expanded begins' fed ++ arcs_in_loop ncmp acmp p (expanded tails' fed))
prepared_by {I} ncmp acmp p begins begins' tails tails' whole w b t =
    w
    ∙ ap (λ (k : I → List InLoop). (λ fed. expanded k fed ++ arcs_in_loop ncmp acmp p (expanded tails fed))) b
    ∙ ap (λ (k : I → List (NodeNo × Arc)). (λ fed. expanded begins' fed ++ arcs_in_loop ncmp acmp p (expanded k fed))) t

-- two parts, told in other words
pub pair_is : {A B : Type 0} (whole : A × B) (first first' : A) (second second' : B) → whole ≡ (first, second) → first ≡ first' → second ≡ second' → whole ≡ (first', second')
pair_is {A} {B} whole first first' second second' w f s = w ∙ ap (λ (k : A). (k, second)) f ∙ ap (λ (k : B). (first', k)) s
