-- What is expected of the program over files that are told: what is to be done, or the refusal. The first refusal in this
-- order is the status: the words; the script fetched, and read; the nodes fetched; the edges fetched; the nodes and then
-- the edges read; each further file of edges fetched and read, in the order of its statement; the script checked against
-- its graph. Of a change text: the words; the text fetched, and read.
use Rattle.std.specs.Prelude.{◌≡◌, ◌⊎◌, ℕ, ◌+◌, ◌-◌, nat_lt, List, [], ◌∷◌, ◌++◌, length, if◌then◌else◌, Option, Some, None, Result, Ok, Err}
use Rattle.surge_outside.specs.Held.{file_at}
use Rattle.graph_model.specs.GraphData.{GraphData}
use Rattle.graph_loader.specs.DataFiles.{extended, graph_of}
use Rattle.graph_loader.specs.declared.fault.DataFile.{DataFile}
use Rattle.graph_loader.specs.declared.fault.DataFile.TheVariants as file
use Rattle.graph_loader.specs.declared.fault.DataKind.TheVariants as wrong
use Rattle.graph_loader.specs.declared.fault.DataFault.{DataFault}
use Rattle.gvdl_tree.specs.declared.script.Script.{Script}
use Rattle.gvdl_tree.specs.declared.script.Statement.{Statement}
use Rattle.gvdl_tree.specs.declared.script.Statement.TheVariants as statement
use Rattle.gvdl_parser.specs.declared.fault.ScriptFault.{ScriptFault}
use Rattle.gvdl_parser.specs.Script.{IsScript, IsFirstFault}
use Rattle.gvdl_check.specs.declared.fault.CheckFault.{CheckFault}
use Rattle.gvdl_check.specs.declared.fault.CheckFault.TheVariants as check_fault
use Rattle.gvdl_check.specs.declared.plan.Plan.{Plan}
use Rattle.gvdl_check.specs.Plans.{plan}
use Rattle.change_text.specs.declared.fault.ReplayFault.{ReplayFault}
use Rattle.change_text.specs.declared.fault.ReplayFault.TheVariants as replayed
use Rattle.change_text.specs.Blocks.{Block}
use Rattle.change_text.specs.Reading.{IsChanges, IsFault}
use Rattle.surge_cli.specs.declared.script_line.ScriptRefusal.TheVariants as refused
use Rattle.surge_cli.specs.declared.status.FileRole.{FileRole}
use Rattle.surge_cli.specs.declared.status.FileRole.TheVariants as role
use Rattle.surge_cli.specs.declared.status.Status.{Status}
use Rattle.surge_cli.specs.declared.status.Status.TheVariants as status
use Rattle.sample_data.specs.Sample.{nodes_text, edges_text, script_text}
use Rattle.surge_cli.specs.declared.words.Source.{Source}
use Rattle.surge_cli.specs.declared.words.Source.TheVariants as source
use Rattle.surge_cli.specs.declared.words.Task.{Task}
use Rattle.surge_cli.specs.declared.words.CommandLine.{CommandLine}
use Rattle.surge_cli.specs.declared.words.CommandLine.TheVariants as line
use Rattle.surge_cli.specs.declared.job.Job.{Job}
use Rattle.surge_cli.specs.declared.job.Due.{Due}
use Rattle.surge_cli.specs.declared.job.Due.TheVariants as dues
use Rattle.surge_cli.specs.Words.{command_line}

-- the files that are held, by name
abbrev pub Held : Type 0
Held = List (List ℕ × List ℕ)

-- what is to be done of a script, or the refusal
abbrev pub JobExpectation : Type 0
JobExpectation = Result Job Status

-- what is to be done, or the refusal
abbrev pub Expectation : Type 0
Expectation = Result Due Status

infixl 10 ◌>>=◌
abbrev pub ◌>>=◌ : {A B : Type 0} → Result A Status → (A → Result B Status) → Result B Status
(Ok a) >>= f = f a
(Err s) >>= f = Err s

-- ---- files

abbrev pub script_limit : ℕ
script_limit = 1_048_576

abbrev pub data_limit : ℕ
data_limit = 268_435_456

abbrev pub limit_of : FileRole → ℕ
limit_of role.Script = script_limit
limit_of role.Nodes = data_limit
limit_of role.Edges = data_limit
limit_of (role.Insert n) = data_limit
limit_of role.Changes = data_limit

-- the fault of a data file of more bytes than the limit; it is of no record
abbrev pub too_large : DataFile → DataFault
too_large file = record { file = file; row = 0; column = 0; kind = wrong.TooLarge }

-- the refusal of a file of more bytes than its limit
abbrev pub large_of : FileRole → Status
large_of role.Script = status.Script refused.TooLarge
large_of role.Nodes = status.Data (too_large file.Nodes)
large_of role.Edges = status.Data (too_large file.Edges)
large_of (role.Insert n) = status.Data (too_large (file.Insert n))
large_of role.Changes = status.Replay replayed.TooLarge

abbrev pub within_limit : FileRole → Option (List ℕ) → Result (List ℕ) Status
within_limit role None = Err (status.Absent role)
within_limit role (Some bytes) = if nat_lt (limit_of role) (length bytes) then Err (large_of role) else Ok bytes

-- the bytes of a file within its limit
abbrev pub fetched : Held → FileRole → List ℕ → Result (List ℕ) Status
fetched held role name = within_limit role (file_at held name)

-- ---- the data, and the plan over them

-- the graph that the data spell, or their first fault
abbrev pub loaded : Result GraphData DataFault → Result GraphData Status
loaded (Ok graph) = Ok graph
loaded (Err fault) = Err (status.Data fault)

-- the plan of the script over its graph, or its first fault (a plan's definition never speaks of memory)
abbrev pub planned : Result Plan CheckFault → Result Plan Status
planned (Ok plan) = Ok plan
planned (Err check_fault.BadForm) = Err (status.Script refused.BadForm)
planned (Err (check_fault.Fault fault)) = Err (status.Script (refused.Statement fault))
planned (Err check_fault.NoMemory) = Err status.NoMemory

-- the graph that these bytes of a nodes file and the edges file of a script spell
abbrev pub graph_with : Held → Script → List ℕ → Result GraphData Status
graph_with held script nodes = do
  edges ← fetched held role.Edges script.edges
  loaded (graph_of nodes edges)

-- the graph that the data files of a script spell
abbrev pub graph_for : Held → Script → Result GraphData Status
graph_for held script = do
  nodes ← fetched held role.Nodes script.nodes
  graph_with held script nodes

-- ---- further files of edges

-- the file that a statement with this number inserts, with that number
abbrev pub insert_at : ℕ → Statement → List (ℕ × List ℕ)
insert_at n (statement.Insert file) = (n, file) ∷ []
insert_at n s = []

-- the files that statements insert, each with the number of its statement, where the first of these has number n
abbrev pub inserts_from : ℕ → List Statement → List (ℕ × List ℕ)
inserts_from n [] = []
inserts_from n (s ∷ more) = insert_at n s ++ inserts_from (n + 1) more

abbrev pub inserts_of : Script → List (ℕ × List ℕ)
inserts_of script = inserts_from 2 script.statements

-- a graph, and how many of its edges came with each file
pub record Grouped : Type 0 where
  pub graph : GraphData
  pub groups : List ℕ

-- all of them with one
abbrev pub grouped : GraphData → Grouped
grouped g = record { graph = g; groups = length g.ends ∷ [] }

-- with one more file behind
abbrev pub longer : Grouped → GraphData → Grouped
longer w h = record { graph = h; groups = w.groups ++ (length h.ends - length w.graph.ends) ∷ [] }

-- with the edges of these bytes behind, of the file that this statement names
abbrev pub with_bytes : Grouped → ℕ → List ℕ → Result Grouped Status
with_bytes w n bytes = do
  h ← loaded (extended n bytes w.graph)
  Ok (longer w h)

abbrev pub with_file : Held → Grouped → ℕ × List ℕ → Result Grouped Status
with_file held w insert = do
  bytes ← fetched held (role.Insert insert.0) insert.1
  with_bytes w insert.0 bytes

-- one after the other
abbrev pub with_files : Held → Grouped → List (ℕ × List ℕ) → Result Grouped Status
with_files held w [] = Ok w
with_files held w (insert ∷ more) = do
  next ← with_file held w insert
  with_files held next more

-- the graph that the data files of a script spell, with those that it inserts
abbrev pub grouped_for : Held → Script → Result Grouped Status
grouped_for held script = do
  graph ← graph_for held script
  with_files held (grouped graph) (inserts_of script)

-- ---- the job

-- what is to be done over this graph
abbrev pub job_over : Task → Script → Grouped → Result Job Status
job_over task script w = do
  p ← planned (plan script w.graph w.groups)
  Ok (record { task = task; script = script; graph = w.graph; plan = p })

-- what is to be done of the script
abbrev pub job_for : Held → Task → Script → Result Job Status
job_for held task script = do
  w ← grouped_for held script
  job_over task script w

-- ---- the script

-- the text is a script, of which this is to be done, or has a first fault
abbrev pub ExpectsOfText : (Script → Result Job Status) → List ℕ → JobExpectation → Type 0
ExpectsOfText job text e = ((script : Script) × IsScript text script × (e ≡ job script))
    ⊎ ((fault : ScriptFault) × IsFirstFault text fault × (e ≡ Err (status.Script (refused.Text fault))))

abbrev pub ExpectsOfFile : (Script → Result Job Status) → Result (List ℕ) Status → JobExpectation → Type 0
ExpectsOfFile job (Ok text) e = ExpectsOfText job text e
ExpectsOfFile job (Err s) e = e ≡ Err s

-- ---- the sample

-- the graph of the sample with this number
abbrev pub sample_graph : ℕ → Result GraphData Status
sample_graph number = loaded (graph_of nodes_text (edges_text number))

-- what is to be done of the script over the sample
abbrev pub job_sampled : ℕ → Task → Script → Result Job Status
job_sampled number task script = do
  graph ← sample_graph number
  job_over task script (grouped graph)

-- ---- the change text

-- its tables are to be written, or it has a fault
abbrev pub ExpectsOfReading : List ℕ → Expectation → Type 0
ExpectsOfReading text e = ((blocks : List Block) × IsChanges text blocks × (e ≡ Ok (dues.Replay blocks)))
    ⊎ ((fault : ReplayFault) × IsFault text fault × (e ≡ Err (status.Replay fault)))

abbrev pub ExpectsOfChanges : Result (List ℕ) Status → Expectation → Type 0
ExpectsOfChanges (Ok text) e = ExpectsOfReading text e
ExpectsOfChanges (Err s) e = e ≡ Err s

-- ---- the words

-- what is done of a script is to be done
abbrev pub as_due : JobExpectation → Expectation
as_due (Ok job) = Ok (dues.Run job)
as_due (Err s) = Err s

abbrev pub ExpectsOfSource : Held → Source → Task → JobExpectation → Type 0
ExpectsOfSource held (source.Script name) task e = ExpectsOfFile (job_for held task) (fetched held role.Script name) e
ExpectsOfSource held (source.Sample number) task e = ExpectsOfText (job_sampled number task) script_text e

-- of words that are not of the form, of words that name a script, and of words that name a change text
abbrev pub ExpectsAsked : Held → CommandLine → Expectation → Type 0
ExpectsAsked held line.NotOfForm e = e ≡ Err status.Usage
ExpectsAsked held (line.Asked asked) e = (job : JobExpectation) × ExpectsOfSource held asked.source asked.task job × (e ≡ as_due job)
ExpectsAsked held (line.Replay name) e = ExpectsOfChanges (fetched held role.Changes name) e

-- what is expected of the program, given these files and these words
abbrev pub Expects : Held → List (List ℕ) → Expectation → Type 0
Expects held words e = ExpectsAsked held (command_line words) e

-- this is expected, and nothing else is
pub record IsOnly {E : Type 0} (expects : E → Type 0) (e : E) : Type 0 where
  pub holds : expects e
  pub only : (other : E) → expects other → other ≡ e

-- ---- what is told

-- What the files hold matters to a script in a file alone: of the sample all is told, whatever the files tell.
abbrev pub told_of : Source → Option Held → Option Held
told_of (source.Script name) held = held
told_of (source.Sample number) held = Some []

abbrev pub told_by : CommandLine → Option Held → Option Held
told_by line.NotOfForm held = held
told_by (line.Replay name) held = held
told_by (line.Asked asked) held = told_of asked.source held

-- what is told to these words
abbrev pub told : Option Held → List (List ℕ) → Option Held
told held words = told_by (command_line words) held
