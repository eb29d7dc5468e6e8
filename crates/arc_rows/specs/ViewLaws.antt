-- A node that doesn't wait isn't active.
use Rattle.std.proofs.Common.{◌≡◌, ◌∙◌, ◌+◌, ◌∷◌, [], sym, ap, refl, ℕ, Bool, true, false, List, cond, arith, ◌≤◌, length}
use Rattle.std.specs.Prelude.{All, ◌==◌, if◌then◌else◌}
use Rattle.std.proofs.lemmas.Bool.{ne_eqb}
use Rattle.std.proofs.lemmas.List.Sums.{sum_by-cons, length-filter, count_by-le-length}
use Rattle.std.proofs.lemmas.List.Elements.{All-head, All-tail}
use Rattle.vertex_lang.specs.declared.arc.Arc.{Arc}
use Rattle.vertex_lang.specs.Arcs.{outdeg}
use Rattle.arc_rows.specs.Views.{in_view, arcs_in, row_of}
use Rattle.arc_rows.specs.ListLaws.{clash}

-- the edge of an arc is in both views or in neither
pub same-or-turned : (a b : Bool) → ((a ≡ b → ⊥) → ⊥) → a ≡ b
same-or-turned true true h = refl
same-or-turned true false h = absurd (h (λ e. absurd cc))
same-or-turned false true h = absurd (h (λ e. absurd cc))
same-or-turned false false h = refl

outdeg-cons : (u : ℕ) (a : Arc) (xs : List Arc) → outdeg (a ∷ xs) u ≡ (if a.tail.0 == u then 1 else 0) + outdeg xs u
outdeg-cons u a xs = sum_by-cons (λ (b : Arc). cond (b.tail.0 == u) 1 0) a xs

degree-step : (u : ℕ) (a : Arc) (n o : Bool) (ns os : List Arc) → outdeg ns u ≡ outdeg os u → (a.tail.0 ≡ u → o ≡ n) → outdeg (if n then a ∷ ns else ns) u ≡ outdeg (if o then a ∷ os else os) u
degree-step u a true true ns os e h = outdeg-cons u a ns ∙ ap (λ k. (if a.tail.0 == u then 1 else 0) + k) e ∙ sym (outdeg-cons u a os)
degree-step u a true false ns os e h = outdeg-cons u a ns ∙ omega (arith, e, ap {B = ℕ} (λ (b : Bool). if b then 1 else 0) (ne_eqb a.tail.0 u (λ t. clash false refl (h t))))
degree-step u a false true ns os e h = sym (outdeg-cons u a os ∙ omega (arith, e, ap {B = ℕ} (λ (b : Bool). if b then 1 else 0) (ne_eqb a.tail.0 u (λ t. clash false refl (sym (h t))))))
degree-step u a false false ns os e h = e

-- from each node that no turned arc leaves, as many arcs leave in both views
pub same-degree : (old new : List Bool) (u : ℕ) (all : List Arc) → All (λ a. a.tail.0 ≡ u → in_view old a ≡ in_view new a) all → outdeg (arcs_in all new) u ≡ outdeg (arcs_in all old) u
same-degree old new u [] each = refl
same-degree old new u (a ∷ all) each =
    let P = λ (b : Arc). b.tail.0 ≡ u → in_view old b ≡ in_view new b in
    degree-step u a (in_view new a) (in_view old a) (arcs_in all new) (arcs_in all old) (same-degree old new u all (All-tail P a all each)) (All-head P a all each)

pub row-few : (all row : List Arc) (v : ℕ) → row ≡ row_of all v → length row ≤ length all
row-few all row v e = omega (arith, ap (λ (xs : List Arc). length xs) e, length-filter (λ (a : Arc). a.head.0 == v) all, count_by-le-length (λ (a : Arc). a.head.0 == v) all)
