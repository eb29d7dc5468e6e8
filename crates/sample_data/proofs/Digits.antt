-- How the digits of a number are laid out from the last one back.
use Rattle.std.proofs.Common.{◌^◌, ◌<◌, ◌≤◌, ℕ, length, arith}
use Rattle.std.specs.Fmt.{decimal}
pub use Rattle.std.proofs.lemmas.Fmt.{decimal_digit, decimal_step, decimal_nonempty, length-decimal-le}
pub use Rattle.std.proofs.lemmas.Grind.{common_steps}

pub at_most_ten : (n : ℕ) → n < 2 ^ 32 → length (decimal n) ≤ 10
at_most_ten n small = length-decimal-le 10 n (omega arith) (omega arith) (omega arith)

pub ruleset digits = (at_most_ten, decimal_nonempty, decimal_digit, decimal_step, common_steps)
