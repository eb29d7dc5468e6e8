-- An operator that is driven from outside, by the times of its steps and its seal.
use Rattle.std.specs.Prelude.{◌≡◌, Bool, false, List}
use Rattle.flow_core.specs.Runs.{Run, times_of}

-- it stands for some run whose steps had these times, it has this seal, and it is not spent
pub record Drives {S T I O : Type 0} (stands : S → Run T I O → Type 0) (seal_of : S → T) (spent : S → Bool) (operator : S) (times : List T) (seal : T) : Type 0 where
  pub run : Run T I O
  pub stood : stands operator run
  pub times_are : times_of run.steps ≡ times
  pub sealed_at : seal_of operator ≡ seal
  pub live : spent operator ≡ false
