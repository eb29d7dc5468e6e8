-- What was written to a sink.
use Rattle.std.specs.Prelude.{◌≡◌, ℕ, ◌≤◌, List, ◌++◌, length, take, Option, Some, None}

-- what was written with more at its end, where it is told
abbrev pub appended : Option (List ℕ) → List ℕ → Option (List ℕ)
appended None more = None
appended (Some written) more = Some (written ++ more)

-- what was written grew by a front of these bytes
abbrev pub GrewByFront : Option (List ℕ) → Option (List ℕ) → List ℕ → Type 0
GrewByFront old new bytes = (n : ℕ) × (n ≤ length bytes) × (new ≡ appended old (take n bytes))
