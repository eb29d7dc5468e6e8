-- Walks the other way round, where each arc has a way back.
use Rattle.std.specs.Prelude.{◌≡◌, ℕ, List, [], ◌∷◌, ◌++◌, Contains}
use Rattle.std.proofs.Common.{sym, ◌∙◌, subst}
use Rattle.walk_theory.specs.Walks.{IsWalk, IsWayBack, IsLinked}
use Rattle.walk_theory.specs.Joining.{walk-more}

module _ {A : Type 0} (ends : A → ℕ × ℕ) (arcs : List A) where
  -- a walk, and then back along an arc that begins where the walk began
  one-back : (u : ℕ) (a : A) (v : ℕ) → (ends a).0 ≡ u → IsWayBack ends arcs a → IsLinked ends arcs v (ends a).1 → IsLinked ends arcs v u
  one-back u a v e b rest = record {
    walk = rest.walk ++ (b.arc ∷ []);
    leads = subst (λ (x : ℕ). IsWalk ends arcs v (rest.walk ++ (b.arc ∷ [])) x) (b.head ∙ e) (walk-more ends arcs v rest.walk b.arc (subst (λ (x : ℕ). IsWalk ends arcs v rest.walk x) (sym b.tail) rest.leads) b.given);
  }

  pub turned : ((a : A) → Contains arcs a → IsWayBack ends arcs a) → (u : ℕ) (walk : List A) (v : ℕ) → IsWalk ends arcs u walk v → IsLinked ends arcs v u
  turned back u [] v e = record { walk = []; leads = sym e }
  turned back u (a ∷ walk) v h = one-back u a v h.1 (back a h.0) (turned back (ends a).1 walk v h.2)
