-- When a status may come, whatever the files tell, and what is reported of it.
use Rattle.std.specs.Prelude.{◌≡◌, ◌⊎◌, ◌≤◌, ℕ, List, Ok, Err}
use Rattle.surge_outside.specs.Counts.{HasRisen}
use Rattle.surge_outside.specs.Written.{appended, GrewByFront}
use Rattle.surge_cli.specs.declared.status.FileRole.{FileRole}
use Rattle.surge_cli.specs.declared.status.FileRole.TheVariants as role
use Rattle.surge_cli.specs.declared.status.Status.{Status}
use Rattle.surge_cli.specs.declared.status.Status.TheVariants as status
use Rattle.surge_cli.specs.declared.words.Source.{Source}
use Rattle.surge_cli.specs.declared.words.Source.TheVariants as source
use Rattle.surge_cli.specs.declared.words.CommandLine.{CommandLine}
use Rattle.surge_cli.specs.declared.words.CommandLine.TheVariants as line
use Rattle.surge_cli.specs.declared.job.Due.{Due}
use Rattle.surge_cli.specs.FilesState.{FilesState}
use Rattle.surge_cli.specs.StatusText.{status_line}
use Rattle.surge_cli.specs.Expected.{Expectation}
use Rattle.surge_cli.specs.Headline.{Written}

-- ---- the words

-- a status of a script: neither the words nor a change text are refused
abbrev pub IsOfScript : Status → Type 0
IsOfScript status.Usage = ⊥
IsOfScript (status.Replay fault) = ⊥
IsOfScript _ = Unit {0}

-- a status of a change text: neither the words nor a script or its data are refused
abbrev pub IsOfChanges : Status → Type 0
IsOfChanges status.Usage = ⊥
IsOfChanges (status.Data fault) = ⊥
IsOfChanges (status.Script fault) = ⊥
IsOfChanges _ = Unit {0}

-- a status to these words, whatever the files do: words that are not of the form are answered Usage and no others are, but
-- for want of memory
abbrev pub OfWords : CommandLine → Status → Type 0
OfWords line.NotOfForm s = (s ≡ status.Usage) ⊎ (s ≡ status.NoMemory)
OfWords (line.Asked asked) s = IsOfScript s
OfWords (line.Replay name) s = IsOfChanges s

-- the words name no file
abbrev pub NamesNoFile : Source → Type 0
NamesNoFile (source.Script name) = ⊥
NamesNoFile (source.Sample number) = Unit {0}

abbrev pub NamesNone : CommandLine → Type 0
NamesNone line.NotOfForm = Unit {0}
NamesNone (line.Asked asked) = NamesNoFile asked.source
NamesNone (line.Replay name) = ⊥

-- the words name a change text
abbrev pub IsReplay : CommandLine → Type 0
IsReplay (line.Replay name) = Unit {0}
IsReplay _ = ⊥

-- ---- what is asked

-- of names that no file in its place has nothing was asked
abbrev pub AsksOnly : (FileRole → List ℕ → Type 0) → (old new : List ℕ → ℕ) → Type 0
AsksOnly InPlace old new = (name : List ℕ) → ((role : FileRole) → InPlace role name → ⊥) → new name ≡ old name

-- the script is asked for first, then the nodes, then the edges, and then the files that are inserted, in the order of their
-- statements
abbrev pub IsUpTo : (last role : FileRole) → Type 0
IsUpTo (role.Insert m) (role.Insert n) = n ≤ m
IsUpTo last (role.Insert n) = ⊥
IsUpTo role.Script role.Nodes = ⊥
IsUpTo role.Script role.Edges = ⊥
IsUpTo role.Nodes role.Edges = ⊥
IsUpTo _ _ = Unit {0}

-- a file in its place, and none behind the one of this role
abbrev pub UpTo : (FileRole → List ℕ → Type 0) → (last : FileRole) → FileRole → List ℕ → Type 0
UpTo InPlace last role name = IsUpTo last role × InPlace role name

-- ---- the counts

-- the counts of the ends: of files that were absent, of reads that failed, and of what was asked, by name, and of writes that
-- failed
pub record Counts : Type 0 where
  pub absences : List ℕ → ℕ
  pub faults : List ℕ → ℕ
  pub asked : List ℕ → ℕ
  pub writes : ℕ

abbrev pub counts : FilesState → ℕ → Counts
counts files writes = record { absences = files.absences; faults = files.faults; asked = files.asked; writes = writes }

-- the file of this role and some name is in its place, the count of this name rose, and of no file behind it was anything asked
pub record RisesAt (InPlace : FileRole → List ℕ → Type 0) (role : FileRole) (old new asked asked_after : List ℕ → ℕ) : Type 0 where
  pub name : List ℕ
  pub place : InPlace role name
  pub risen : HasRisen (old name) (new name)
  pub last : AsksOnly (UpTo InPlace role) asked asked_after

-- an absence, a read fault or a write fault comes only where its count rose: that of a file in its place, behind which no other
-- was asked for
abbrev pub Causes : (FileRole → List ℕ → Type 0) → Status → (old new : Counts) → Type 0
Causes InPlace (status.Absent role) old new = RisesAt InPlace role old.absences new.absences old.asked new.asked
Causes InPlace status.ReadFault old new = (role : FileRole) × RisesAt InPlace role old.faults new.faults old.asked new.asked
Causes InPlace status.WriteFault old new = HasRisen old.writes new.writes
Causes InPlace _ old new = Unit {0}

-- ---- what is expected

-- the status is the one that is expected, or it came from the outside
abbrev pub AgreesWith : Status → Expectation → Type 0
AgreesWith status.Done e = (job : Due) × (e ≡ Ok job)
AgreesWith status.Usage e = e ≡ Err status.Usage
AgreesWith (status.Absent role) e = e ≡ Err (status.Absent role)
AgreesWith (status.Data fault) e = e ≡ Err (status.Data fault)
AgreesWith (status.Script fault) e = e ≡ Err (status.Script fault)
AgreesWith (status.Replay fault) e = e ≡ Err (status.Replay fault)
AgreesWith _ e = Unit {0}

-- ---- what is reported

-- what was written to standard error: nothing where the run is done; one line, or a front of it where its sink failed;
-- and a front of one line where memory was wanting
abbrev pub Reports : Status → (old new : Written) → (faults faults_after : ℕ) → Type 0
Reports status.Done old new f g = new ≡ old
Reports status.NoMemory old new f g = (s : Status) × GrewByFront old new (status_line s)
Reports s old new f g = (new ≡ appended old (status_line s)) ⊎ (HasRisen f g × GrewByFront old new (status_line s))
