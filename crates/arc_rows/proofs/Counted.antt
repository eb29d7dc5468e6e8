-- How many arcs of a view leave each node, as the code counts them; lists of how values differ.
use Rattle.std.proofs.Common.{◌≡◌, ◌∙◌, ◌<◌, ◌≤◌, ◌+◌, ◌++◌, ◌∷◌, [], sym, ap, ℕ, Bool, true, false, List, length, get_or, set, take, cond, arith, inl, inr}
use Rattle.std.specs.Prelude.{◌==◌, if◌then◌else◌}
use Rattle.std.proofs.lemmas.Bool.{cases_eq, eq-eqb, ne_eqb}
use Rattle.std.proofs.lemmas.Grind.{get_or-set_at}
use Rattle.std.proofs.lemmas.List.{get_or-set_other, append-nil}
use Rattle.std.proofs.lemmas.List.Elements.{filter_more}
use Rattle.std.proofs.lemmas.List.Sums.{sum_by_push, count_by-le-length, length-filter}
use Rattle.vertex_lang.specs.declared.arc.Arc.{Arc}
use Rattle.vertex_lang.specs.Arcs.{outdeg}
use Rattle.arc_rows.specs.Views.{in_view, arcs_in}

pub degree-in : (arcs : List Arc) (i : ℕ) (d : Arc) (edges : List Bool) (u : ℕ) → i < length arcs → in_view edges (get_or arcs i d) ≡ true
    → outdeg (arcs_in (take (i + 1) arcs) edges) u ≡ outdeg (arcs_in (take i arcs) edges) u + (if (get_or arcs i d).tail.0 == u then 1 else 0)
degree-in arcs i d edges u low e =
    ap (λ (xs : List Arc). outdeg xs u) (filter_more (in_view edges) arcs i d low ∙ ap (λ (b : Bool). arcs_in (take i arcs) edges ++ cond b (get_or arcs i d ∷ []) []) e)
    ∙ sum_by_push (λ (a : Arc). cond (a.tail.0 == u) 1 0) (arcs_in (take i arcs) edges) (get_or arcs i d)

pub degree-out : (arcs : List Arc) (i : ℕ) (d : Arc) (edges : List Bool) (u : ℕ) → i < length arcs → in_view edges (get_or arcs i d) ≡ false
    → outdeg (arcs_in (take (i + 1) arcs) edges) u ≡ outdeg (arcs_in (take i arcs) edges) u
degree-out arcs i d edges u low e =
    ap (λ (xs : List Arc). outdeg xs u) (filter_more (in_view edges) arcs i d low ∙ ap (λ (b : Bool). arcs_in (take i arcs) edges ++ cond b (get_or arcs i d ∷ []) []) e ∙ append-nil (arcs_in (take i arcs) edges))

pub degree-set : (arcs : List Arc) (i : ℕ) (d : Arc) (edges : List Bool) (degrees : List ℕ) (n : ℕ) → i < length arcs → in_view edges (get_or arcs i d) ≡ true → (get_or arcs i d).tail.0 < length degrees
    → n ≡ get_or degrees (get_or arcs i d).tail.0 0 → (u : ℕ) → get_or degrees u 0 ≡ outdeg (arcs_in (take i arcs) edges) u
    → get_or (set degrees (get_or arcs i d).tail.0 (n + 1)) u 0 ≡ outdeg (arcs_in (take (i + 1) arcs) edges) u
degree-set arcs i d edges degrees n low e within en u h =
    let t = (get_or arcs i d).tail.0 in
    elim (cases_eq u t) [
      | inl same ↦ get_or-set_at degrees t u (n + 1) 0 same within ∙ omega (arith, en, ap (λ k. get_or degrees k 0) same, h, degree-in arcs i d edges u low e, ap {B = ℕ} (λ (b : Bool). if b then 1 else 0) (eq-eqb t u (sym same)))
      | inr other ↦ get_or-set_other degrees t u (n + 1) 0 other ∙ omega (arith, h, degree-in arcs i d edges u low e, ap {B = ℕ} (λ (b : Bool). if b then 1 else 0) (ne_eqb t u (λ s. other (sym s))))
    ]

pub degree-small : (arcs : List Arc) (edges : List Bool) (u : ℕ) → outdeg (arcs_in arcs edges) u ≤ length arcs
degree-small arcs edges u = omega (arith, count_by-le-length (λ (a : Arc). a.tail.0 == u) (arcs_in arcs edges), count_by-le-length (in_view edges) arcs, length-filter (in_view edges) arcs)
