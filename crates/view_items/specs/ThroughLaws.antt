-- One collection is one collection up to each round.
use Rattle.std.specs.Prelude.{◌≡◌, ℕ, ◌+◌, ◌*◌, nat_le, Bool, true, false, List, [], ◌∷◌, if◌then◌else◌, refl}
use Rattle.std.proofs.Common.{arith, ap, ◌∙◌}
use Rattle.lattice_time.specs.declared.round.Round.{Round}
use Rattle.weighted.specs.WordLaws.{total}
use Rattle.weighted.specs.Alike.{Alike}
use Rattle.view_items.specs.Rounds.{through}

module _ {X : Type 0} (g : X → ℕ) where
  total_by : (b : Bool) (x : X) (w n : ℕ) (es : List (X × ℕ)) → total g es ≡ n → total g (if b then (x, w) ∷ es else es) ≡ (if b then g x else 0) * w + n
  total_by true x w n es h = ap (λ m. g x * w + m) h
  total_by false x w n es h = omega (arith, h)

  pub through_total : (r : ℕ) (es : List ((Round × X) × ℕ)) → total g (through r es) ≡ total (λ e. if nat_le e.0.0 r then g e.1 else 0) es
  through_total r [] = refl
  through_total r (e ∷ es) = total_by (nat_le e.0.0.0 r) e.0.1 e.1 (total (λ d. if nat_le d.0.0 r then g d.1 else 0) es) (through r es) (through_total r es)

pub Alike-through : {X : Type 0} (r : ℕ) (xs ys : List ((Round × X) × ℕ)) → Alike xs ys → Alike (through r xs) (through r ys)
Alike-through r xs ys s = record { totals = λ g. rw (through_total g r xs, through_total g r ys) (s.totals (λ e. if nat_le e.0.0 r then g e.1 else 0)) }
