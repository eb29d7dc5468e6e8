-- Inside: what is left of the bits of a word.
use Rattle.std.specs.Prelude.{◌≡◌, ℕ, ◌+◌, ◌<◌, ◌≤◌, ◌^◌, false, List, map}
use Rattle.view_matrix.specs.declared.set_bits.SetBits.TheInside.{Inside}
use Rattle.view_matrix.specs.Columns.{is_set, set_in}

-- the bits of the rest, behind those that were passed
abbrev pub left : Inside → List ℕ
left bits = map (λ i. bits.place + i) (set_in bits.rest)

-- no more than 64 were passed, and the rest has none behind the 64th
pub record IsWithin (bits : Inside) : Type 0 where
  pub few : bits.place ≤ 64
  pub small : bits.rest < 2 ^ 64
  pub none : (i : ℕ) → 64 ≤ bits.place + i → is_set bits.rest i ≡ false
