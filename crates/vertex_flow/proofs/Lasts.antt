-- The last entry of a list that rises has its last round.
use Rattle.std.specs.declared.cmp.Ordering.{Ordering}
use Rattle.std.specs.declared.cmp.Ordering.TheVariants.{Less, Equal, Greater}
use Rattle.std.specs.Ordering.{nat_cmp, ordering_then}
use Rattle.std.specs.Cmp.{ranked}
use Rattle.std.proofs.Common.{◌≡◌, ℕ, suc, ◌-◌, ◌<◌, ◌≤◌, List, [], ◌∷◌, length, arith, ap, subst, inl, inr, refl, sym}
use Rattle.std.specs.Prelude.{Option, Some, None, slice_get}
use Rattle.lattice_time.specs.declared.round.Round.{Round}
use Rattle.weighted.specs.Normal.{Below, Rising}
use Rattle.flow_core.specs.Runs.{Every, Member}
use Rattle.vertex_flow.specs.Last.{IsLastRound}

pub less_then : (x y : ℕ) (o rest : Ordering) → o ≡ nat_cmp x y → ordering_then o rest ≡ Less → x ≤ y
less_then x y Less rest e h = let s : x < y = ranked x y Less e in omega arith
less_then x y Equal rest e h = let s : x ≡ y = ranked x y Equal e in omega arith
less_then x y Greater rest e h = absurd (cc)

some_is : {A : Type 0} (x y : A) → Some x ≡ Some y → x ≡ y
some_is x y h = ap (λ (o : Option _). elim o [ None ↦ x | Some z ↦ z ]) h

module _ {X : Type 0} (cmp : Round × X → Round × X → Ordering) (less : (x y : Round × X) → cmp x y ≡ Less → x.0.0 ≤ y.0.0) where
  below_member : (x : Round × X) (es : List ((Round × X) × ℕ)) (e : (Round × X) × ℕ) → Below cmp x es → Member e es → x.0.0 ≤ e.0.0.0
  below_member x [] e b m = absurd m
  below_member x (y ∷ ys) e b (inl is) = rw is (less x y.0 b.0)
  below_member x (y ∷ ys) e b (inr m) = below_member x ys e b.1 m

  last_of : (es : List ((Round × X) × ℕ)) (e : (Round × X) × ℕ) → Rising cmp es → slice_get es (length es - 1) ≡ Some e → Every (λ x. x.0.0.0 ≤ e.0.0.0) es × Member e es
  last_of [] e r h = absurd (cc)
  last_of (x ∷ []) e r h = let is : x ≡ e = some_is x e h in ((rw is (omega arith), tt), inl (sym is))
  last_of (x ∷ y ∷ ys) e r h =
      let place : length (x ∷ y ∷ ys) - 1 ≡ suc (length (y ∷ ys) - 1) = omega arith in
      let rest = last_of (y ∷ ys) e r.1 (subst (λ i. slice_get (x ∷ y ∷ ys) i ≡ Some e) place h) in
      ((below_member x.0 (y ∷ ys) e r.0 rest.1, rest.0), inr rest.1)

  pub last-round : (es : List ((Round × X) × ℕ)) (e : (Round × X) × ℕ) → Rising cmp es → slice_get es (length es - 1) ≡ Some e → IsLastRound e.0.0 es
  last-round es e r h = let last = last_of es e r h in record { within = last.0; reached = (e, last.1, refl) }

pub none_there : {A : Type 0} (es : List A) → slice_get es (length es - 1) ≡ None → es ≡ []
none_there [] h = refl
none_there (x ∷ []) h = absurd (cc)
none_there (x ∷ y ∷ ys) h =
    let place : length (x ∷ y ∷ ys) - 1 ≡ suc (length (y ∷ ys) - 1) = omega arith in
    let none : (y ∷ ys) ≡ [] = none_there (y ∷ ys) (subst (λ i. slice_get (x ∷ y ∷ ys) i ≡ None) place h) in
    absurd (cc)
