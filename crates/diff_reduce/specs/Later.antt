-- The times that are due after an evaluation.
use Rattle.std.specs.Prelude.{◌≡◌, ◌≢◌, ◌⊎◌, ◌&&◌, not, Bool, false, List, [], ◌∷◌, if◌then◌else◌, Option, Some, None}
use Rattle.std.specs.declared.cmp.Ordering.{Ordering}
use Rattle.std.specs.Ordering.{is_ne}
use Rattle.flow_core.specs.Runs.{Member}
use Rattle.reduce_theory.specs.Kept.{IsCovered as covers}

-- an evaluation at the last of some times covers that of a mark at t: t is at or above that time, and at or below its least
-- upper bound with the mark. So both have one bound with the mark, which was named due there.
abbrev pub covered : {T : Type 0} → (T → T → Bool) → (T → T → T) → T → Option T → T → Bool
covered leq lub t None x = false
covered leq lub t (Some a) x = leq a t && leq t (lub a x)

-- the least upper bounds of t and each of some times, but t itself and those that are covered
abbrev pub later_of : {K T : Type 0} → (T → T → Bool) → (T → T → T) → (T → T → Ordering) → T → Option T → K → List T → List (T × K)
later_of leq lub tcmp t last k [] = []
later_of leq lub tcmp t last k (x ∷ xs) = if is_ne (tcmp (lub t x) t) && not (covered leq lub t last x) then (lub t x, k) ∷ later_of leq lub tcmp t last k xs else later_of leq lub tcmp t last k xs

-- some evaluation of the key covers that of a mark at t
abbrev pub IsCovered : {K T : Type 0} → (T → T → Bool) → (T → T → T) → List (K × T) → T → K → T → Type 0
IsCovered leq lub points t k x = covers leq lub (λ a. Member (k, a) points) t x

-- the pairs are those of each of some keys with the least upper bounds of t and the key's marks, but t itself and what is
-- covered
pub record AreLater {K T : Type 0} (leq : T → T → Bool) (lub : T → T → T) (Mark : K → T → Type 0) (points : List (K × T)) (t : T) (ks : List K) (pairs : List (T × K)) : Type 0 where
  pub each : (k : K) (x : T) → Member k ks → Mark k x → (lub t x ≡ t) ⊎ (Member (lub t x, k) pairs ⊎ IsCovered leq lub points t k x)
  pub only : (d : T) (k : K) → Member (d, k) pairs → (d ≢ t) × (Member k ks × ((x : T) × Mark k x × (d ≡ lub t x)))
