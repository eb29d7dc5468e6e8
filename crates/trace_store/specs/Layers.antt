-- Layers of entries, from the oldest and longest to the newest and shortest.
use Rattle.std.specs.Prelude.{ℕ, ◌*◌, ◌<◌, ◌≤◌, ◌==◌, List, [], ◌∷◌, ◌++◌, length, if◌then◌else◌}

-- each layer has an entry, and at least twice as many as the next newer one
abbrev pub AreHalving : {A : Type 0} → List (List A) → Type 0
AreHalving [] = Unit {0}
AreHalving (l ∷ []) = 0 < length l
AreHalving (l ∷ m ∷ ls) = (2 * length m ≤ length l) × AreHalving (m ∷ ls)

-- the layers with one more, where it has an entry
abbrev pub with_layer : {A : Type 0} → List (List A) → List A → List (List A)
with_layer ls l = ls ++ (if length l == 0 then [] else l ∷ [])
