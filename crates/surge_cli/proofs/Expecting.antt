-- What a stage answers is what alone is expected.
use Rattle.std.proofs.Common.{◌≡◌, ◌∙◌, ℕ, List, Option, Some, None, Result, Ok, Err, refl, sym, ap, subst, inl, inr}
use Rattle.std.specs.Prelude.{IfOk, IfErr}
use Rattle.gvdl_tree.specs.declared.script.Script.{Script}
use Rattle.gvdl_parser.specs.declared.fault.ScriptFault.{ScriptFault}
use Rattle.surge_cli.specs.declared.script_line.ScriptRefusal.TheVariants as refused
use Rattle.surge_cli.specs.declared.status.Status.{Status}
use Rattle.surge_cli.specs.declared.status.Status.TheVariants as status
use Rattle.surge_cli.specs.declared.words.Task.{Task}
use Rattle.change_text.specs.declared.fault.ReplayFault.{ReplayFault}
use Rattle.change_text.specs.declared.fault.ReplayFault.TheVariants as replayed
use Rattle.change_text.specs.Blocks.{Block}
use Rattle.change_text.specs.Reading.{IsChanges, IsFault}
use Rattle.change_text.specs.Laws.{OneFault, OneReading}
use Rattle.surge_cli.specs.declared.words.Source.{Source}
use Rattle.surge_cli.specs.declared.job.Job.{Job}
use Rattle.surge_cli.specs.declared.job.Due.TheVariants as dues
use Rattle.surge_cli.specs.declared.status.FileRole.TheVariants as role
use Rattle.surge_cli.specs.declared.words.CommandLine.{CommandLine}
use Rattle.surge_cli.specs.declared.words.CommandLine.TheVariants as line
use Rattle.surge_cli.specs.Words.{command_line}
use Rattle.surge_cli.specs.Expected.{Held, JobExpectation, Expectation, as_due, ExpectsOfReading, ExpectsOfChanges, ExpectsOfSource, told_of, fetched, job_for, ExpectsOfText, ExpectsOfFile, ExpectsAsked, Expects, IsOnly, told_by, told}
use Rattle.surge_cli.specs.Reaches.{IsFetched, IsTheScript, HasScript}
use Rattle.surge_cli.specs.Stages.{IsOutside, IsSaid, IsSaidOf, IsExpected, IsExpectedOf, IsReadOfChanges, IsTheFault, StopsChanges, StopsParse, StopsScript, as_replay}

module _ {A : Type 0} where
  only_map : (P Q : Result A Status → Type 0) (e : Result A Status) → ((x : Result A Status) → P x → Q x) → ((x : Result A Status) → Q x → P x) → IsOnly P e → IsOnly Q e
  only_map P Q e to back h = record { holds = to e h.holds; only = λ other k. h.only other (back other k) }

  meets_map : (P Q : Result A Status → Type 0) (r : Result A Status) → ((x : Result A Status) → P x → Q x) → ((x : Result A Status) → Q x → P x) → IsExpected P r → IsExpected Q r
  meets_map P Q (Ok job) to back h = only_map P Q (Ok job) to back h
  meets_map P Q (Err s) to back (inl outside) = inl outside
  meets_map P Q (Err s) to back (inr h) = inr (only_map P Q (Err s) to back h)

-- where one thing alone is said
only_said : (said e : JobExpectation) → said ≡ e → IsOnly (λ x. x ≡ said) e
only_said said e is = record { holds = sym is; only = λ other k. k ∙ is }

meets_said : (said r : JobExpectation) → IsSaid said r → IsExpected (λ x. x ≡ said) r
meets_said said (Ok job) is = only_said said (Ok job) is
meets_said said (Err s) (inl outside) = inl outside
meets_said said (Err s) (inr is) = inr (only_said said (Err s) is)

-- ---- the text of a script

to_text : (job : Script → Result Job Status) (text : List ℕ) (script : Script) → IsTheScript text script → (e : JobExpectation) → e ≡ job script → ExpectsOfText job text e
to_text job text script the e is = inl (script, the.found, is)

from_text : (job : Script → Result Job Status) (text : List ℕ) (script : Script) → IsTheScript text script → (e : JobExpectation) → ExpectsOfText job text e → e ≡ job script
from_text job text script the e (inl h) = h.2 ∙ ap job (the.only h.0 h.1)
from_text job text script the e (inr h) = absurd (the.sound h.0 h.1)

fault_only : (job : Script → Result Job Status) (text : List ℕ) (fault : ScriptFault) → IsTheFault text fault → (e : JobExpectation) → ExpectsOfText job text e → e ≡ Err (status.Script (refused.Text fault))
fault_only job text fault the e (inl h) = absurd (the.none h.0 h.1)
fault_only job text fault the e (inr h) = h.2 ∙ ap (λ (f : ScriptFault). Err (status.Script (refused.Text f))) (the.only h.0 h.1)

pub parse_stops : (job : Script → Result Job Status) (text : List ℕ) (s : Status) → StopsParse text s → IsExpected (ExpectsOfText job text) (Err s)
parse_stops job text status.Done h = absurd h
parse_stops job text status.Usage h = absurd h
parse_stops job text (status.Absent role) h = absurd h
parse_stops job text (status.Data fault) h = absurd h
parse_stops job text (status.Script refused.TooLarge) h = absurd h
parse_stops job text (status.Script refused.BadForm) h = absurd h
parse_stops job text (status.Script (refused.Statement fault)) h = absurd h
parse_stops job text (status.Script (refused.Text fault)) h = inr (record { holds = inr (fault, h.found, refl); only = fault_only job text fault h })
parse_stops job text status.ReadFault h = absurd h
parse_stops job text status.WriteFault h = absurd h
parse_stops job text status.NoMemory h = inl tt
parse_stops job text (status.Replay fault) h = absurd h

-- ---- the text of the sample's script

-- the text was read, and the job of its script is as said
pub text_goes_on : (job : Script → Result Job Status) (text : List ℕ) (script : Script) (r : JobExpectation) → IsTheScript text script → IsSaid (job script) r → IsExpected (ExpectsOfText job text) r
text_goes_on job text script r the h = meets_map (λ e. e ≡ job script) (ExpectsOfText job text) r (to_text job text script the) (from_text job text script the) (meets_said (job script) r h)

-- ---- the file of the script

-- the script was read, and the job over its data is as said
pub named_goes_on : (held : Option Held) (name : List ℕ) (task : Task) (script : Script) (r : JobExpectation) → HasScript held name script → IsSaidOf held (λ files. job_for files task script) r → IsExpectedOf held (λ files. ExpectsOfFile (job_for files task) (fetched files role.Script name)) r
named_goes_on None name task script r has h = tt
named_goes_on (Some files) name task script r has h =
    subst (λ (x : Result (List ℕ) Status). IsExpected (ExpectsOfFile (job_for files task) x) r) (sym has.is_text)
    (text_goes_on (job_for files task) has.text script r has.the_script h)

-- the script was not read
pub named_stops : (held : Option Held) (name : List ℕ) (task : Task) (s : Status) → StopsScript held name s → IsExpectedOf held (λ files. ExpectsOfFile (job_for files task) (fetched files role.Script name)) (Err s)
named_stops None name task s h = tt
named_stops (Some files) name task s (inl (inl outside)) = inl outside
named_stops (Some files) name task s (inl (inr is)) = inr (subst (λ (x : Result (List ℕ) Status). IsOnly (ExpectsOfFile (job_for files task) x) (Err s)) (sym is) (record { holds = refl; only = λ other k. k }))
named_stops (Some files) name task s (inr h) = subst (λ (x : Result (List ℕ) Status). IsExpected (ExpectsOfFile (job_for files task) x) (Err s)) (sym h.1) (parse_stops (job_for files task) h.0 s h.2)

-- ---- the words

-- what is expected of what the words ask for is expected of the words
pub words_go_on : (held : Option Held) (words : List (List ℕ)) (asked : CommandLine) (r : Expectation) → command_line words ≡ asked → IsExpectedOf (told_by asked held) (λ files. ExpectsAsked files asked) r → IsExpectedOf (told held words) (λ files. Expects files words) r
words_go_on held words asked r is h = subst (λ (a : CommandLine). IsExpectedOf (told_by a held) (λ files. ExpectsAsked files a) r) (sym is) h

-- what is due of a script
due_only : (P : JobExpectation → Type 0) (e : JobExpectation) → IsOnly P e → IsOnly (λ (x : Expectation). (job : JobExpectation) × P job × (x ≡ as_due job)) (as_due e)
due_only P e h = record { holds = (e, h.holds, refl); only = λ other k. k.2 ∙ ap as_due (h.only k.0 k.1) }

due_expected : (P : JobExpectation → Type 0) (r : JobExpectation) → IsExpected P r → IsExpected (λ (x : Expectation). (job : JobExpectation) × P job × (x ≡ as_due job)) (as_due r)
due_expected P (Ok job) h = due_only P (Ok job) h
due_expected P (Err s) (inl outside) = inl outside
due_expected P (Err s) (inr h) = inr (due_only P (Err s) h)

pub script_due : (held : Option Held) (from : Source) (task : Task) (r : JobExpectation) → IsExpectedOf (told_of from held) (λ files. ExpectsOfSource files from task) r
    → IsExpectedOf (told_of from held) (λ files (x : Expectation). (job : JobExpectation) × ExpectsOfSource files from task job × (x ≡ as_due job)) (as_due r)
script_due held from task r h = by (told_of from held) h where
  by : (o : Option Held) → IsExpectedOf o (λ files. ExpectsOfSource files from task) r → IsExpectedOf o (λ files (x : Expectation). (job : JobExpectation) × ExpectsOfSource files from task job × (x ≡ as_due job)) (as_due r)
  by None k = tt
  by (Some files) k = due_expected (ExpectsOfSource files from task) r k

-- words that are not of the form
pub usage_expected : (held : Option Held) (words : List (List ℕ)) → command_line words ≡ line.NotOfForm → IsExpectedOf (told held words) (λ files. Expects files words) (Err status.Usage)
usage_expected held words is = words_go_on held words line.NotOfForm (Err status.Usage) is (by held) where
  by : (o : Option Held) → IsExpectedOf o (λ files. ExpectsAsked files line.NotOfForm) (Err status.Usage)
  by None = tt
  by (Some files) = inr (record { holds = refl; only = λ other k. k })

-- want of memory
pub memory_expected : (held : Option Held) (words : List (List ℕ)) (s : Status) → s ≡ status.NoMemory → IsExpectedOf held (λ files. Expects files words) (Err s)
memory_expected None words s is = tt
memory_expected (Some files) words s is = inl (subst IsOutside (sym is) tt)

-- ---- the change text

-- its tables are due, and nothing else is
blocks_only : OneReading → (text : List ℕ) (blocks : List Block) → IsChanges text blocks → IsOnly (ExpectsOfReading text) (Ok (dues.Replay blocks))
blocks_only one text blocks is = record { holds = inl (blocks, is, refl); only = only } where
  only : (other : Expectation) → ExpectsOfReading text other → other ≡ Ok (dues.Replay blocks)
  only other (inl h) = h.2 ∙ ap (λ (bs : List Block). Ok (dues.Replay bs)) (one text h.0 blocks h.1 is)
  only other (inr h) = absurd (no_fault h.0 h.1) where
    no_fault : (fault : ReplayFault) → IsFault text fault → ⊥
    no_fault (replayed.Line n) k = k.none blocks is
    no_fault replayed.TooLarge k = k

same_fault : OneFault → (text : List ℕ) (fault other : ReplayFault) → IsFault text fault → IsFault text other → other ≡ fault
same_fault one text (replayed.Line n) (replayed.Line m) h k = ap replayed.Line (one text m n k h)
same_fault one text (replayed.Line n) replayed.TooLarge h k = absurd k
same_fault one text replayed.TooLarge other h k = absurd h

fault_due : OneFault → (text : List ℕ) (fault : ReplayFault) → IsFault text fault → IsOnly (ExpectsOfReading text) (Err (status.Replay fault))
fault_due one text fault is = record { holds = inr (fault, is, refl); only = only } where
  none : (f : ReplayFault) (blocks : List Block) → IsFault text f → IsChanges text blocks → ⊥
  none (replayed.Line n) blocks h k = h.none blocks k
  none replayed.TooLarge blocks h k = h

  only : (other : Expectation) → ExpectsOfReading text other → other ≡ Err (status.Replay fault)
  only other (inl h) = absurd (none fault h.0 is h.1)
  only other (inr h) = h.2 ∙ ap (λ (f : ReplayFault). Err (status.Replay f)) (same_fault one text fault h.0 is h.1)

-- why the reading of the text stopped
reading_stops : OneFault → (text : List ℕ) (s : Status) → StopsChanges text s → IsExpected (ExpectsOfReading text) (Err s)
reading_stops one text status.Done h = absurd h
reading_stops one text status.Usage h = absurd h
reading_stops one text (status.Absent role) h = absurd h
reading_stops one text (status.Data fault) h = absurd h
reading_stops one text (status.Script why) h = absurd h
reading_stops one text status.ReadFault h = absurd h
reading_stops one text status.WriteFault h = absurd h
reading_stops one text status.NoMemory h = inl tt
reading_stops one text (status.Replay fault) h = inr (fault_due one text fault h)

-- the text was read
pub changes_read : OneReading → OneFault → (held : Option Held) (name text : List ℕ) (r : Result (List Block) Status) → IsFetched held role.Changes name text → IfOk r (IsChanges text) → IfErr r (StopsChanges text) → IsReadOfChanges held name r
changes_read one sole None name text r is ok err = tt
changes_read one sole (Some files) name text r is ok err = subst (λ (x : Result (List ℕ) Status). IsExpected (ExpectsOfChanges x) (as_replay r)) (sym is) (by r ok err) where
  by : (x : Result (List Block) Status) → IfOk x (IsChanges text) → IfErr x (StopsChanges text) → IsExpected (ExpectsOfReading text) (as_replay x)
  by (Ok blocks) h k = blocks_only one text blocks h
  by (Err s) h k = reading_stops sole text s k

-- it was not fetched
pub changes_stop : (held : Option Held) (name : List ℕ) (s : Status) → IsSaidOf {A = List ℕ} held (λ files. fetched files role.Changes name) (Err s) → IsReadOfChanges held name (Err s)
changes_stop None name s h = tt
changes_stop (Some files) name s (inl outside) = inl outside
changes_stop (Some files) name s (inr is) = inr (subst (λ (x : Result (List ℕ) Status). IsOnly (ExpectsOfChanges x) (Err s)) (sym is) (record { holds = refl; only = λ other k. k }))
