-- What a contract sees of a list in chunks.
use Rattle.std.specs.Prelude.{ℕ, List, refl}
use Rattle.std.specs.Coded.{Coded, code_by, coded×, coded_list, coded_ℕ}

-- the items in order, and how many more can be pushed without memory
pub record Chunked (X : Type 0) : Type 0 where
  pub items : List X
  pub spare : ℕ

module _ {X : Type 0} where
  abbrev pub chunked : List X → ℕ → Chunked X
  chunked xs n = record { items = xs; spare = n }

  abbrev pub chunked_code : Coded X → Coded (Chunked X)
  chunked_code c = code_by (List X × ℕ) (coded× (coded_list c) coded_ℕ) (λ l. (l.items, l.spare)) (λ p. chunked p.0 p.1) (λ _. refl)
