-- What a contract sees of a trace.
use Rattle.std.specs.Prelude.{ℕ, List, refl}
use Rattle.std.specs.Coded.{Coded, code_by, coded×, coded_list, coded_ℕ}

-- the normal form of all entries; how many entries are kept, equal records of two layers counted twice; in how many layers
pub record Stored (R : Type 0) : Type 0 where
  pub items : List (R × ℕ)
  pub entries : ℕ
  pub layers : ℕ

module _ {R : Type 0} where
  abbrev pub stored : List (R × ℕ) → ℕ → ℕ → Stored R
  stored es n m = record { items = es; entries = n; layers = m }

  abbrev pub stored_code : Coded R → Coded (Stored R)
  stored_code c = code_by (List (R × ℕ) × (ℕ × ℕ)) (coded× (coded_list (coded× c coded_ℕ)) (coded× coded_ℕ coded_ℕ)) (λ s. (s.items, (s.entries, s.layers))) (λ p. stored p.0 p.1.0 p.1.1) (λ _. refl)
