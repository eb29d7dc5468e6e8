-- What is promised where nothing fails: all that is asked for is written, or memory was wanting.
use Rattle.std.specs.Prelude.{◌≡◌, ℕ, List, Option, IfSome, Ok}
use Rattle.surge_outside.specs.Counts.{HasRisen}
use Rattle.surge_outside.specs.Written.{appended}
use Rattle.vertex_lang.specs.Expressions.{Answer}
use Rattle.surge_cli.specs.declared.status.Status.{Status}
use Rattle.surge_cli.specs.declared.status.Status.TheVariants as status
use Rattle.surge_cli.specs.declared.job.Due.{Due}
use Rattle.surge_cli.specs.Output.{output}
use Rattle.surge_cli.specs.Expected.{Held, Expects, told}
use Rattle.surge_cli.specs.Headline.{Written}
use Rattle.surge_cli.specs.Causes.{Counts}

-- no failed read of any file was counted, and no failed write
pub record NothingFailed (old new : Counts) : Type 0 where
  pub reads : (name : List ℕ) → HasRisen (old.faults name) (new.faults name) → ⊥
  pub writes : HasRisen old.writes new.writes → ⊥

-- the run is done and all that is due to be printed was written, or memory was wanting
abbrev pub IsWhole : Answer → Due → Status → (old new : Written) → Type 0
IsWhole answer job status.Done old new = new ≡ appended old (output answer job)
IsWhole answer job status.NoMemory old new = Unit {0}
IsWhole answer job _ old new = ⊥

-- where the words, the files, and the script or the change text are accepted, the output is whole, or memory was wanting
abbrev pub IsComplete : Answer → Held → List (List ℕ) → Status → (old new : Written) → Type 0
IsComplete answer files words s old new = (job : Due) → Expects files words (Ok job) → IsWhole answer job s old new

-- the same where this is told of the files
abbrev pub Completes : Answer → Option Held → List (List ℕ) → Status → (old new : Written) → Type 0
Completes answer held words s old new = IfSome (told held words) (λ files. IsComplete answer files words s old new)
