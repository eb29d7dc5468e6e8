-- A stream of numbers that a seed fixes: a linear congruential generator of 64 bits, of which the high half is drawn.
use Rattle.std.specs.Prelude.{ℕ, ◌+◌, ◌*◌, ◌/◌, ◌%◌, ◌^◌}

-- the state behind this one
abbrev pub next_state : ℕ → ℕ
next_state x = (6_364_136_223_846_793_005 * x + 1_442_695_040_888_963_407) % 2 ^ 64

-- what is drawn in this state, below a number
abbrev pub drawn : (state below : ℕ) → ℕ
drawn x k = (next_state x / 2 ^ 32) % k
