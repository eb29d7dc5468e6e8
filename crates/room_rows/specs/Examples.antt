-- Three arcs, as pairs of numbers.
use Rattle.std.specs.Prelude.{ℕ, List, [], ◌∷◌}

abbrev pub three : List (ℕ × ℕ)
three = (0, 1) ∷ (1, 2) ∷ (0, 2) ∷ []

abbrev pub pair : ℕ × ℕ → ℕ × ℕ
pair a = a

-- an arc weighs as much as the number that it comes to
abbrev pub heavy : ℕ × ℕ → ℕ
heavy a = a.1
