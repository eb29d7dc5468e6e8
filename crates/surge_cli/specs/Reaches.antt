-- Which file is read next, where the words and all files before it were read and were right.
use Rattle.std.specs.Prelude.{◌≡◌, ℕ, List, ◌∷◌, ◌++◌, Option, IfSome, Ok}
use Rattle.graph_model.specs.GraphData.{GraphData}
use Rattle.gvdl_tree.specs.declared.script.Script.{Script}
use Rattle.gvdl_parser.specs.declared.fault.ScriptFault.{ScriptFault}
use Rattle.gvdl_parser.specs.Script.{IsScript, IsFirstFault}
use Rattle.surge_cli.specs.declared.status.FileRole.{FileRole}
use Rattle.surge_cli.specs.declared.status.FileRole.TheVariants as role
use Rattle.surge_cli.specs.declared.words.Source.{Source}
use Rattle.surge_cli.specs.declared.words.Source.TheVariants as source
use Rattle.surge_cli.specs.declared.words.Asked.{Asked}
use Rattle.surge_cli.specs.declared.words.CommandLine.{CommandLine}
use Rattle.surge_cli.specs.declared.words.CommandLine.TheVariants as line
use Rattle.surge_cli.specs.Words.{command_line}
use Rattle.surge_cli.specs.Expected.{Held, fetched, graph_for, Grouped, grouped, inserts_of, with_files}

-- the file of this name is there, within the limit of its role, and has these bytes, where the files tell
abbrev pub IsFetched : Option Held → FileRole → (name bytes : List ℕ) → Type 0
IsFetched held role name bytes = IfSome held (λ files. fetched files role name ≡ Ok bytes)

-- the text is this script, no other, and has no fault
pub record IsTheScript (text : List ℕ) (script : Script) : Type 0 where
  pub found : IsScript text script
  pub only : (other : Script) → IsScript text other → other ≡ script
  pub sound : (fault : ScriptFault) → IsFirstFault text fault → ⊥

-- the file of this name is this script
pub record HasScript (held : Option Held) (name : List ℕ) (script : Script) : Type 0 where
  pub text : List ℕ
  pub is_text : IsFetched held role.Script name text
  pub the_script : IsTheScript text script

-- the data files of a script give this graph, where the files tell
abbrev pub GivesGraph : Option Held → Script → GraphData → Type 0
GivesGraph held script graph = IfSome held (λ files. graph_for files script ≡ Ok graph)

-- with these files behind it a graph is this one, where the files tell
abbrev pub GivesFiles : Option Held → Grouped → List (ℕ × List ℕ) → Grouped → Type 0
GivesFiles held w inserts longer = IfSome held (λ files. with_files files w inserts ≡ Ok longer)

-- the file of this name is one of those that are put behind a graph, for the statement with this number, and all before it
-- were read and were right
abbrev pub ReachesInsert : Option Held → Grouped → List (ℕ × List ℕ) → ℕ → (name : List ℕ) → Type 0
ReachesInsert held w inserts n name = (before : List (ℕ × List ℕ)) × (after : List (ℕ × List ℕ)) × (inserts ≡ before ++ (n, name) ∷ after) × ((longer : Grouped) × GivesFiles held w before longer)

-- behind the script: the nodes first, the edges where the nodes are there, and each file that is inserted where all files
-- before it give a graph
abbrev pub ReachesData : Option Held → Script → FileRole → (name : List ℕ) → Type 0
ReachesData held script role.Script name = ⊥
ReachesData held script role.Changes name = ⊥
ReachesData held script role.Nodes name = name ≡ script.nodes
ReachesData held script role.Edges name = (nodes : List ℕ) × IsFetched held role.Nodes script.nodes nodes × (name ≡ script.edges)
ReachesData held script (role.Insert n) name = (graph : GraphData) × GivesGraph held script graph × ReachesInsert held (grouped graph) (inserts_of script) n name

-- behind the words: the script in this file first, and the data where it is a script
abbrev pub ReachesNamed : Option Held → List ℕ → FileRole → (name : List ℕ) → Type 0
ReachesNamed held file role.Script name = name ≡ file
ReachesNamed held file role.Nodes name = (script : Script) × HasScript held file script × ReachesData held script role.Nodes name
ReachesNamed held file role.Edges name = (script : Script) × HasScript held file script × ReachesData held script role.Edges name
ReachesNamed held file (role.Insert n) name = (script : Script) × HasScript held file script × ReachesData held script (role.Insert n) name
ReachesNamed held file role.Changes name = ⊥

-- no file is read for the sample
abbrev pub ReachesOf : Option Held → Source → FileRole → (name : List ℕ) → Type 0
ReachesOf held (source.Script file) role name = ReachesNamed held file role name
ReachesOf held (source.Sample number) role name = ⊥

abbrev pub ReachesAsked : Option Held → Asked → FileRole → (name : List ℕ) → Type 0
ReachesAsked held asked role name = ReachesOf held asked.source role name

-- of a change text only its own file is
abbrev pub ReachesChanges : List ℕ → FileRole → (name : List ℕ) → Type 0
ReachesChanges file role.Changes name = name ≡ file
ReachesChanges file _ name = ⊥

abbrev pub ReachesFor : Option Held → CommandLine → FileRole → (name : List ℕ) → Type 0
ReachesFor held line.NotOfForm role name = ⊥
ReachesFor held (line.Asked asked) role name = ReachesAsked held asked role name
ReachesFor held (line.Replay file) role name = ReachesChanges file role name

-- to these words the file of this role and name is read next
abbrev pub Reaches : Option Held → List (List ℕ) → FileRole → (name : List ℕ) → Type 0
Reaches held words role name = ReachesFor held (command_line words) role name
