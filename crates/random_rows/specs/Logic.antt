-- What the functions of the tests make.
use Rattle.std.specs.Prelude.{ℕ, suc, ◌+◌, ◌%◌, ◌^◌, List, [], ◌∷◌, length}
use Rattle.flow_core.specs.declared.side.Side.{Side}
use Rattle.flow_core.specs.declared.side.Side.TheVariants.{Left, Right}
use Rattle.lattice_time.specs.declared.round.Round.{Round}
use Rattle.loop_theory.specs.declared.input.LoopInput.{LoopInput}
use Rattle.loop_theory.specs.declared.input.LoopInput.TheVariants.{Fixed, Moving}

-- the least value of a key with its weight, as often as there are values
abbrev pub least_and_count : List (ℕ × ℕ) → List ((ℕ × ℕ) × ℕ)
least_and_count [] = []
least_and_count (word ∷ words) = ((word.0, word.1), length (word ∷ words)) ∷ []

-- a moving pair turned round, with one more, below four; a fixed one as it is
abbrev pub next_of : LoopInput (ℕ × ℕ) (ℕ × ℕ) → ℕ × ℕ
next_of (Fixed p) = p
next_of (Moving p) = (((p.1 + 1) % 2 ^ 32) % 4, p.0)

-- fixed pairs on the left side, moving ones on the right
abbrev pub as_sides : LoopInput (ℕ × ℕ) (ℕ × ℕ) → Side (ℕ × ℕ) (ℕ × ℕ)
as_sides (Fixed p) = Left p
as_sides (Moving p) = Right p

-- fixed pairs as they are, moving ones turned round
abbrev pub as_pairs : LoopInput (ℕ × ℕ) (ℕ × ℕ) → ℕ × ℕ
as_pairs (Fixed p) = p
as_pairs (Moving p) = (p.1, p.0)

-- the least value, once
abbrev pub least : List (ℕ × ℕ) → List (ℕ × ℕ)
least [] = []
least (word ∷ words) = (word.0, 1) ∷ []

-- a record without its round
abbrev pub without_round : Round × (ℕ × ℕ) → ℕ × ℕ
without_round made = made.1
