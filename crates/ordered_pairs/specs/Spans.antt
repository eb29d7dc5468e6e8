-- The span of the second parts of pairs: a least and a greatest.
use Rattle.std.specs.Prelude.{◌≡◌, false, List, []}
use Rattle.std.specs.declared.cmp.Ordering.{Ordering}
use Rattle.std.specs.declared.option.Option.{Option}
use Rattle.std.specs.declared.option.Option.TheVariants.{None, Some}
use Rattle.std.specs.List.{All}
use Rattle.std.specs.Ordering.{is_gt, is_lt}

-- a second part is not below the least nor above the greatest
abbrev pub InSpan : {B : Type 0} → (B → B → Ordering) → B × B → B → Type 0
InSpan bcmp ends b = (is_gt (bcmp ends.0 b) ≡ false) × (is_lt (bcmp ends.1 b) ≡ false)

-- each second part is in the span; where there is none, there is no pair
abbrev pub IsSpanned : {A B : Type 0} → (B → B → Ordering) → Option (B × B) → List (A × B) → Type 0
IsSpanned bcmp None pairs = pairs ≡ []
IsSpanned {A} {B} bcmp (Some ends) pairs = (is_gt (bcmp ends.0 ends.1) ≡ false) × All (λ (p : A × B). InSpan bcmp ends p.1) pairs
