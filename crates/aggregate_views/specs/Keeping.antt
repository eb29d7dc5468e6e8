-- Internal definitions: an operator that is stepped at one position after another, and the sum of what it made.
use Rattle.std.specs.Prelude.{◌≡◌, ℕ, ◌≤◌, Bool, false, nat_le, List, []}
use Rattle.weighted.specs.Alike.{Alike}
use Rattle.lattice_time.specs.declared.position.Position.{Position}
use Rattle.flow_core.specs.Runs.{Run, Every, fed_to, made_to, times_of}

abbrev pub below : Position → Position → Bool
below s t = nat_le s.0 t.0

-- of a run that takes its steps at positions up to this one: what was fed comes to this collection, and what was made to that
pub record IsRunTo {I O : Type 0} (at : ℕ) (fed : List (I × ℕ)) (made : List (O × ℕ)) (run : Run Position I O) : Type 0 where
  pub times : Every (λ t. t.0 ≤ at) (times_of run.steps)
  pub fed_is : (t : Position) → at ≤ t.0 → Alike (fed_to below run.steps t) fed
  pub made_is : (t : Position) → at ≤ t.0 → Alike (made_to below run.steps t) made

-- the operator stands for such a run, nothing is due to it, its seal is at or below the position, and it isn't spent
pub record IsFed {S I O : Type 0} (stands : S → Run Position I O → Type 0) (due : S → List Position) (seal : S → Position) (spent : S → Bool) (operator : S) (at : ℕ) (held : List (O × ℕ)) (fed : List (I × ℕ)) : Type 0 where
  pub run : Run Position I O
  pub is_run : stands operator run
  pub to : IsRunTo at fed held run
  pub nothing_due : due operator ≡ []
  pub low : (seal operator).0 ≤ at
  pub live : spent operator ≡ false
