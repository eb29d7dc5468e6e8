-- Internal: what each stage before the execution answers. No contract of a public function cites it.
use Rattle.std.specs.Prelude.{◌≡◌, ◌⊎◌, ℕ, List, [], ◌∷◌, length, map, sum, Option, IfSome, Result, Ok, Err}
use Rattle.change_text.specs.Blocks.{Block}
use Rattle.change_text.specs.Reading.{IsFault}
use Rattle.gvdl_tree.specs.declared.script.Script.{Script}
use Rattle.gvdl_tree.specs.declared.script.Statement.{Statement}
use Rattle.gvdl_parser.specs.declared.fault.ScriptFault.{ScriptFault}
use Rattle.gvdl_parser.specs.Script.{IsScript, IsFirstFault}
use Rattle.gvdl_check.specs.Fits.{PlanFits}
use Rattle.surge_cli.specs.declared.script_line.ScriptRefusal.TheVariants as refused
use Rattle.surge_cli.specs.declared.status.FileRole.{FileRole}
use Rattle.surge_cli.specs.declared.status.FileRole.TheVariants as role
use Rattle.surge_cli.specs.declared.status.Status.{Status}
use Rattle.surge_cli.specs.declared.status.Status.TheVariants as status
use Rattle.surge_cli.specs.declared.job.Due.{Due}
use Rattle.surge_cli.specs.declared.job.Due.TheVariants as dues
use Rattle.surge_cli.specs.FilesState.{FilesState}
use Rattle.surge_cli.specs.declared.stages.Loaded.{Loaded}
use Rattle.surge_cli.specs.Expected.{Held, Grouped, fetched, insert_at, ExpectsOfChanges, IsOnly}
use Rattle.surge_cli.specs.Reaches.{IsFetched, ReachesInsert}
use Rattle.surge_cli.specs.Causes.{RisesAt}

-- ---- from where a status comes

-- a status that the outside alone decides
abbrev pub IsOutside : Status → Type 0
IsOutside status.ReadFault = Unit {0}
IsOutside status.NoMemory = Unit {0}
IsOutside _ = ⊥

-- a status before the execution
abbrev pub IsStop : Status → Type 0
IsStop status.Done = ⊥
IsStop status.WriteFault = ⊥
IsStop _ = Unit {0}

-- a status of a stage behind the words, on the way to a script's job
abbrev pub IsStage : Status → Type 0
IsStage status.Done = ⊥
IsStage status.Usage = ⊥
IsStage status.WriteFault = ⊥
IsStage (status.Replay fault) = ⊥
IsStage _ = Unit {0}

-- the same of a stage that asks nothing of the files
abbrev pub IsInner : Status → Type 0
IsInner (status.Data fault) = Unit {0}
IsInner (status.Script fault) = Unit {0}
IsInner status.NoMemory = Unit {0}
IsInner _ = ⊥

-- a status of a stage on the way to a change text
abbrev pub IsReplayStage : Status → Type 0
IsReplayStage (status.Absent role) = Unit {0}
IsReplayStage (status.Replay fault) = Unit {0}
IsReplayStage status.ReadFault = Unit {0}
IsReplayStage status.NoMemory = Unit {0}
IsReplayStage _ = ⊥

-- and of one that asks nothing of the files
abbrev pub IsReplayInner : Status → Type 0
IsReplayInner (status.Replay fault) = Unit {0}
IsReplayInner status.NoMemory = Unit {0}
IsReplayInner _ = ⊥

-- of the file of this role
abbrev pub IsStageAt : FileRole → Status → Type 0
IsStageAt role.Script s = IsStage s
IsStageAt role.Nodes s = IsStage s
IsStageAt role.Edges s = IsStage s
IsStageAt (role.Insert n) s = IsStage s
IsStageAt role.Changes s = IsReplayStage s

abbrev pub IsInnerAt : FileRole → Status → Type 0
IsInnerAt role.Script s = IsInner s
IsInnerAt role.Nodes s = IsInner s
IsInnerAt role.Edges s = IsInner s
IsInnerAt (role.Insert n) s = IsInner s
IsInnerAt role.Changes s = IsReplayInner s

-- the file of one fetch
abbrev pub IsFile : FileRole → List ℕ → FileRole → List ℕ → Type 0
IsFile role name other other_name = (other ≡ role) × (other_name ≡ name)

-- an absence or a read fault comes only where the count of a file in its place rose, behind which no other was asked for
abbrev pub RisesBefore : (FileRole → List ℕ → Type 0) → Status → (old new : FilesState) → Type 0
RisesBefore InPlace (status.Absent role) old new = RisesAt InPlace role old.absences new.absences old.asked new.asked
RisesBefore InPlace status.ReadFault old new = (role : FileRole) × RisesAt InPlace role old.faults new.faults old.asked new.asked
RisesBefore InPlace _ old new = Unit {0}

-- ---- what a stage answers

-- it is what is said, or what the outside decides
abbrev pub IsSaid : {A : Type 0} → Result A Status → Result A Status → Type 0
IsSaid said (Ok a) = said ≡ Ok a
IsSaid said (Err s) = IsOutside s ⊎ (said ≡ Err s)

-- the same where the files are told
abbrev pub IsSaidOf : {A : Type 0} → Option Held → (Held → Result A Status) → Result A Status → Type 0
IsSaidOf held said result = IfSome held (λ files. IsSaid (said files) result)

-- it is what alone is expected, or what the outside decides
abbrev pub IsExpected : {A : Type 0} → (Result A Status → Type 0) → Result A Status → Type 0
IsExpected expects (Ok a) = IsOnly expects (Ok a)
IsExpected expects (Err s) = IsOutside s ⊎ IsOnly expects (Err s)

-- the same where the files are told
abbrev pub IsExpectedOf : {A : Type 0} → Option Held → (Held → Result A Status → Type 0) → Result A Status → Type 0
IsExpectedOf held expects result = IfSome held (λ files. IsExpected (expects files) result)

-- ---- the script

-- this is the first fault of the text, no other is, and it is no script
pub record IsTheFault (text : List ℕ) (fault : ScriptFault) : Type 0 where
  pub found : IsFirstFault text fault
  pub only : (other : ScriptFault) → IsFirstFault text other → other ≡ fault
  pub none : (script : Script) → IsScript text script → ⊥

-- why the reading of a script's text stopped
abbrev pub StopsParse : List ℕ → Status → Type 0
StopsParse text status.NoMemory = Unit {0}
StopsParse text (status.Script (refused.Text fault)) = IsTheFault text fault
StopsParse text _ = ⊥

-- why the reading of the script in the file of this name stopped: no text was fetched, or its reading stopped
abbrev pub StopsScript : Option Held → List ℕ → Status → Type 0
StopsScript held name s = IsSaidOf {A = List ℕ} held (λ files. fetched files role.Script name) (Err s) ⊎ ((text : List ℕ) × IsFetched held role.Script name text × StopsParse text s)

-- ---- the change text

-- why the reading of a change text stopped
abbrev pub StopsChanges : List ℕ → Status → Type 0
StopsChanges text status.NoMemory = Unit {0}
StopsChanges text (status.Replay fault) = IsFault text fault
StopsChanges text _ = ⊥

-- the tables of the blocks are to be written
abbrev pub as_replay : Result (List Block) Status → Result Due Status
as_replay (Ok blocks) = Ok (dues.Replay blocks)
as_replay (Err s) = Err s

-- the blocks of the change text in the file of this name, or the refusal
abbrev pub IsReadOfChanges : Option Held → List ℕ → Result (List Block) Status → Type 0
IsReadOfChanges held name result = IsExpectedOf held (λ files. ExpectsOfChanges (fetched files role.Changes name)) (as_replay result)

-- ---- what is due

-- tables of a change text are to be written
abbrev pub IsReplayed : Due → Type 0
IsReplayed (dues.Run job) = ⊥
IsReplayed (dues.Replay blocks) = Unit {0}

-- what is due can be done
abbrev pub DueFits : Due → Type 0
DueFits (dues.Run job) = PlanFits job.graph job.plan
DueFits (dues.Replay blocks) = Unit {0}

-- ---- graphs with their files

abbrev pub seen : Loaded → Grouped
seen loaded = record { graph = loaded.graph; groups = loaded.groups }

-- what a call leaves, where it answers that it succeeded
abbrev pub result_of : {A B : Type 0} → Result A Status → B → Result B Status
result_of (Ok a) left = Ok left
result_of (Err s) left = Err s

abbrev pub as_seen : Result Loaded Status → Result Grouped Status
as_seen (Ok loaded) = Ok (seen loaded)
as_seen (Err s) = Err s

-- each edge came with one file
abbrev pub AreGrouped : Loaded → Type 0
AreGrouped loaded = sum loaded.groups ≡ length loaded.graph.ends

abbrev pub names_of : List (ℕ × List ℕ) → List (List ℕ)
names_of inserts = map (λ insert. insert.1) inserts

-- the file that a statement with this number inserts
abbrev pub IsInsert : ℕ → Statement → FileRole → List ℕ → Type 0
IsInsert n s other name = (other ≡ role.Insert n) × (insert_at n s ≡ (n, name) ∷ [])

-- one of the files that are put behind a graph
abbrev pub IsBehind : Option Held → Grouped → List (ℕ × List ℕ) → FileRole → List ℕ → Type 0
IsBehind held w inserts (role.Insert n) name = ReachesInsert held w inserts n name
IsBehind held w inserts _ name = ⊥
