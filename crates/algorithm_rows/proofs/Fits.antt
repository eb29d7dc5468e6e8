-- The operations hold only words that an update may hold.
use Rattle.std.proofs.Common.{◌≡◌, ◌∙◌, ◌++◌, ◌∷◌, [], Bool, List, refl, sym, ap, subst}
use Rattle.std.specs.Prelude.{IsTrue}
use Rattle.std.specs.List.{list_all}
use Rattle.vertex_lang.specs.declared.program.Expr.{Expr}
use Rattle.vertex_lang.specs.declared.program.Expr.TheVariants as expr
use Rattle.vertex_lang.specs.Leaves.{Leaf, leaves_of, in_update}
use Rattle.vertex_lang.specs.Trees.{leaves-Sum, leaves-Product, leaves-Least, leaves-Most, leaves-Else, leaves-Minus, leaves-Start, leaves-Value}
use Rattle.algorithm_rows.specs.Operations.{summed, multiplied, lesser_of_both, greater_of_both, first_of_both, negative}

abbrev Fits : Expr → Type 0
Fits e = IsTrue (list_all in_update (leaves_of e))

-- of the leaves of both words
both : leaves_of expr.Start ++ (leaves_of expr.Value ++ []) ≡ Leaf.start ∷ Leaf.value ∷ []
both = ap (λ (ls : List Leaf). ls ++ (leaves_of expr.Value ++ [])) leaves-Start ∙ ap (λ (ls : List Leaf). (Leaf.start ∷ []) ++ (ls ++ [])) leaves-Value

two : leaves_of expr.Start ++ leaves_of expr.Value ≡ Leaf.start ∷ Leaf.value ∷ []
two = ap (λ (ls : List Leaf). ls ++ leaves_of expr.Value) leaves-Start ∙ ap (λ (ls : List Leaf). (Leaf.start ∷ []) ++ ls) leaves-Value

fits : (e : Expr) (leaves : List Leaf) → leaves_of e ≡ leaves → IsTrue (list_all in_update leaves) → Fits e
fits e leaves is h = subst (λ (ls : List Leaf). IsTrue (list_all in_update ls)) (sym is) h

same : (e d : Expr) → e ≡ d → Fits d → Fits e
same e d is h = subst Fits (sym is) h

pub fits_summed : (plus : Bool) (e : Expr) → e ≡ summed plus → Fits e
fits_summed plus e is = same e _ is (fits (summed plus) (Leaf.start ∷ Leaf.value ∷ []) (leaves-Sum expr.Start ((plus, expr.Value) ∷ []) ∙ both) refl)

pub fits_multiplied : (times : Bool) (e : Expr) → e ≡ multiplied times → Fits e
fits_multiplied times e is = same e _ is (fits (multiplied times) (Leaf.start ∷ Leaf.value ∷ []) (leaves-Product expr.Start ((times, expr.Value) ∷ []) ∙ both) refl)

pub fits_lesser : (e : Expr) → e ≡ lesser_of_both → Fits e
fits_lesser e is = same e _ is (fits lesser_of_both (Leaf.start ∷ Leaf.value ∷ []) (leaves-Least expr.Start expr.Value ∙ two) refl)

pub fits_greater : (e : Expr) → e ≡ greater_of_both → Fits e
fits_greater e is = same e _ is (fits greater_of_both (Leaf.start ∷ Leaf.value ∷ []) (leaves-Most expr.Start expr.Value ∙ two) refl)

pub fits_first : (e : Expr) → e ≡ first_of_both → Fits e
fits_first e is = same e _ is (fits first_of_both (Leaf.start ∷ Leaf.value ∷ []) (leaves-Else (expr.Start ∷ expr.Value ∷ []) ∙ both) refl)

pub fits_negative : (e : Expr) → e ≡ negative → Fits e
fits_negative e is = same e _ is (fits negative (Leaf.start ∷ []) (leaves-Minus expr.Start ∙ leaves-Start) refl)

pub ruleset fitting = (fits_summed, fits_multiplied, fits_lesser, fits_greater, fits_first, fits_negative)
