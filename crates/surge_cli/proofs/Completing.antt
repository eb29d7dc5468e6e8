-- Where nothing failed and a job is expected, its output is whole.
use Rattle.std.proofs.Common.{◌≡◌, ◌∙◌, ℕ, List, Option, Some, None, Ok, Err, refl, sym, ap}
use Rattle.std.specs.Prelude.{IfSome}
use Rattle.surge_outside.specs.Written.{appended}
use Rattle.vertex_lang.specs.Expressions.{Answer}
use Rattle.surge_cli.specs.declared.status.FileRole.{FileRole}
use Rattle.surge_cli.specs.declared.status.Status.{Status}
use Rattle.surge_cli.specs.declared.status.Status.TheVariants as status
use Rattle.surge_cli.specs.declared.job.Due.{Due}
use Rattle.surge_cli.specs.Output.{output}
use Rattle.surge_cli.specs.Expected.{Held, Expectation, Expects, told}
use Rattle.surge_cli.specs.Headline.{Written, IsRefusal, Prints, Means}
use Rattle.surge_cli.specs.Causes.{Counts, Causes}
use Rattle.surge_cli.specs.Completing.{NothingFailed, IsComplete, Completes}

one_job : (a b : Due) (e f : Expectation) → e ≡ Ok a → f ≡ Ok b → e ≡ f → b ≡ a
one_job a b e f first second same = let h = sym first ∙ same ∙ second in cc

no_job : (job : Due) (s : Status) (e f : Expectation) → e ≡ Ok job → f ≡ Err s → e ≡ f → ⊥
no_job job s e f first second same = let h = sym first ∙ same ∙ second in absurd cc

printed : (answer : Answer) (files : Held) (words : List (List ℕ)) (old new : Written) (a b : ℕ) → Prints answer (Some files) words old new a b → (job : Due) → Expects files words (Ok job) → new ≡ appended old (output answer job)
printed answer files words old new a b h job k = h.printed ∙ ap (λ (j : Due). appended old (output answer j)) (one_job job h.job (Ok job) (Ok h.job) refl refl (h.due.only (Ok job) k))

refused : (files : Held) (words : List (List ℕ)) (s : Status) → IsRefusal (Some files) words s → (job : Due) → Expects files words (Ok job) → ⊥
refused files words s h job k = no_job job s (Ok job) (Err s) refl refl (h.only (Ok job) k)

at_files : (answer : Answer) (P : FileRole → List ℕ → Type 0) (files : Held) (words : List (List ℕ)) (s : Status) (old new : Written) (a b : ℕ) (c d : Counts) → NothingFailed c d → Causes P s c d → Means answer (Some files) words s old new a b → IsComplete answer files words s old new
at_files answer P files words status.Done old new a b c d none cause h = printed answer files words old new a b h
at_files answer P files words status.Usage old new a b c d none cause h = refused files words status.Usage h.0
at_files answer P files words (status.Absent role) old new a b c d none cause h = refused files words (status.Absent role) h.0
at_files answer P files words (status.Data fault) old new a b c d none cause h = refused files words (status.Data fault) h.0
at_files answer P files words (status.Script fault) old new a b c d none cause h = refused files words (status.Script fault) h.0
at_files answer P files words (status.Replay fault) old new a b c d none cause h = refused files words (status.Replay fault) h.0
at_files answer P files words status.ReadFault old new a b c d none cause h = λ job k. none.reads cause.1.name cause.1.risen
at_files answer P files words status.WriteFault old new a b c d none cause h = λ job k. none.writes cause
at_files answer P files words status.NoMemory old new a b c d none cause h = λ job k. tt

where_told : (answer : Answer) (P : FileRole → List ℕ → Type 0) (held : Option Held) (words : List (List ℕ)) (s : Status) (old new : Written) (a b : ℕ) (c d : Counts) → NothingFailed c d → Causes P s c d → Means answer held words s old new a b → IfSome held (λ files. IsComplete answer files words s old new)
where_told answer P None words s old new a b c d none cause h = tt
where_told answer P (Some files) words s old new a b c d none cause h = at_files answer P files words s old new a b c d none cause h

pub completes : (answer : Answer) (P : FileRole → List ℕ → Type 0) (held : Option Held) (words : List (List ℕ)) (s : Status) (old new : Written) (a b : ℕ) (c d : Counts) → NothingFailed c d → Causes P s c d → Means answer (told held words) words s old new a b → Completes answer held words s old new
completes answer P held words s old new a b c d none cause h = where_told answer P (told held words) words s old new a b c d none cause h
