-- Nodes that wait: one more, one less, and those who still wait.
use Rattle.std.proofs.Common.{◌≡◌, ◌<◌, ◌+◌, ℕ, Bool, true, false, List, length, get_or, take, arith, inl, inr}
use Rattle.std.specs.Prelude.{All, replicate}
use Rattle.std.proofs.lemmas.Bool.{cases_lt}
use Rattle.std.proofs.lemmas.List.{get_or_past, get_or-replicate, length-replicate}
use Rattle.std.proofs.lemmas.List.Elements.{All-weaker, All-more}

pub clash : (b : Bool) → b ≡ false → b ≡ true → ⊥
clash true f t = absurd cc
clash false f t = absurd cc

pub more-of : {X : Type 0} (P Q : X → Type 0) (xs : List X) (i : ℕ) (d : X) → i < length xs → ((x : X) → P x → Q x) → All P (take i xs) → Q (get_or xs i d) → All Q (take (i + 1) xs)
more-of P Q xs i d low weaker all here = All-more Q xs i d low (All-weaker P Q weaker (take i xs) all) here

-- in a list of nothing but false no place is true
pub never : (n u : ℕ) → get_or (replicate n false) u false ≡ false
never n u = elim (cases_lt u n) [
  | inl low ↦ get_or-replicate n u false false low
  | inr high ↦ get_or_past (replicate n false) u false (omega (arith, high, length-replicate {A = Bool} n false))
]
