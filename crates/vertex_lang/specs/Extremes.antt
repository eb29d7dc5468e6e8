-- The least and the greatest of messages.
use Rattle.std.specs.Prelude.{◌≡◌, ℤ, ◌≤ℤ◌, List, Contains}
use Rattle.graph_model.specs.declared.value.Val.{Val}
use Rattle.graph_model.specs.declared.value.Val.TheVariants.{Num}

-- what is gathered is one of the messages' numbers, and each of them stands to it as the order says; so it is none exactly
-- where no message is a number
pub record IsExtreme (order : ℤ → ℤ → Type 0) (ms : List Val) (m : Val) : Type 0 where
  pub member : (z : ℤ) → m ≡ Num z → Contains ms (Num z)
  pub bounds : (z : ℤ) → Contains ms (Num z) → (y : ℤ) × (m ≡ Num y) × order y z

abbrev pub IsLeast : List Val → Val → Type 0
IsLeast ms m = IsExtreme (λ y z. y ≤ℤ z) ms m

abbrev pub IsGreatest : List Val → Val → Type 0
IsGreatest ms m = IsExtreme (λ y z. z ≤ℤ y) ms m
