-- Walks with an arc more at their end, and walks one after the other.
use Rattle.std.specs.Prelude.{ℕ, List, [], ◌∷◌, ◌++◌, Contains, refl}
use Rattle.std.proofs.Common.{ap, sym, subst}
use Rattle.walk_theory.specs.Walks.{IsWalk, EndsWithArc}

module _ {A : Type 0} (ends : A → ℕ × ℕ) (arcs : List A) where
  -- first the one walk, and then the other
  pub walk-after : (u : ℕ) (walk : List A) (v : ℕ) (more : List A) (w : ℕ) → IsWalk ends arcs u walk v → IsWalk ends arcs v more w → IsWalk ends arcs u (walk ++ more) w
  walk-after u [] v more w e h = subst (λ (x : ℕ). IsWalk ends arcs x more w) (sym e) h
  walk-after u (a ∷ walk) v more w g h = (g.0, g.1, walk-after (ends a).1 walk v more w g.2 h)

  -- one arc more
  pub walk-more : (u : ℕ) (walk : List A) (a : A) → IsWalk ends arcs u walk (ends a).0 → Contains arcs a → IsWalk ends arcs u (walk ++ (a ∷ [])) (ends a).1
  walk-more u walk a h c = walk-after u walk (ends a).0 (a ∷ []) (ends a).1 h (c, refl, refl)

  -- a walk of some arcs is a walk and one arc more
  pub ends-with : (u : ℕ) (a : A) (walk : List A) (v : ℕ) → IsWalk ends arcs u (a ∷ walk) v → EndsWithArc ends arcs u (a ∷ walk) v
  ends-with u a [] v h = record { before = []; last = a; same = refl; leads = sym h.1; given = h.0; comes = h.2 }
  ends-with u a (b ∷ walk) v h =
      let rest = ends-with (ends a).1 b walk v h.2 in
      record { before = a ∷ rest.before; last = rest.last; same = ap (λ (ys : List A). a ∷ ys) rest.same; leads = (h.0, h.1, rest.leads); given = rest.given; comes = rest.comes }
