-- Counts of files that only rise.
use Rattle.std.proofs.Common.{◌∙◌, ◌≤◌, ℕ, refl, arith}
use Rattle.surge_outside.specs.Counts.{HasRisen}
use Rattle.surge_cli.specs.FilesState.{FilesState, GoesOn}

pub same_files : (a : FilesState) → GoesOn a a
same_files a = record { held = refl; faults = λ name. omega arith; absences = λ name. omega arith; asked = λ name. omega arith }

pub both_on : (a b c : FilesState) → GoesOn a b → GoesOn b c → GoesOn a c
both_on a b c first second = record {
  held = second.held ∙ first.held;
  faults = λ name. at (first.faults name) (second.faults name);
  absences = λ name. at (first.absences name) (second.absences name);
  asked = λ name. at (first.asked name) (second.asked name);
} where
  at : {m n k : ℕ} → m ≤ n → n ≤ k → m ≤ k
  at h k = omega (arith, h, k)

-- what rose since a later time rose since an earlier one
pub risen_since : (a b c : ℕ) → a ≤ b → HasRisen b c → HasRisen a c
risen_since a b c le h = omega (arith, le, h)
