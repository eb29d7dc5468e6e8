-- The numbers and the lines of the program's answers.
use Rattle.std.specs.Prelude.{ℕ, List, [], ◌∷◌, ◌++◌, codes}
use Rattle.std.specs.Fmt.{decimal}
use Rattle.graph_loader.specs.declared.fault.DataFile.{DataFile}
use Rattle.graph_loader.specs.declared.fault.DataFile.TheVariants as file
use Rattle.graph_loader.specs.declared.fault.DataKind.{DataKind}
use Rattle.graph_loader.specs.declared.fault.DataKind.TheVariants as wrong
use Rattle.graph_loader.specs.declared.fault.DataFault.{DataFault}
use Rattle.gvdl_parser.specs.declared.fault.ScriptFault.{ScriptFault}
use Rattle.gvdl_parser.specs.declared.fault.ScriptFault.TheVariants as faulty
use Rattle.gvdl_programs.specs.declared.refusal.Refusal.{Refusal}
use Rattle.gvdl_programs.specs.declared.refusal.Refusal.TheVariants as refusal
use Rattle.change_text.specs.declared.fault.ReplayFault.{ReplayFault}
use Rattle.change_text.specs.declared.fault.ReplayFault.TheVariants as replayed
use Rattle.surge_cli.specs.declared.script_line.ScriptRefusal.{ScriptRefusal}
use Rattle.surge_cli.specs.declared.script_line.ScriptRefusal.TheVariants as refused
use Rattle.surge_cli.specs.declared.status.FileRole.{FileRole}
use Rattle.surge_cli.specs.declared.status.FileRole.TheVariants as role
use Rattle.surge_cli.specs.declared.status.Status.{Status}
use Rattle.surge_cli.specs.declared.status.Status.TheVariants as status

abbrev pub status_number : Status → ℕ
status_number status.Done = 0
status_number status.Usage = 2
status_number (status.Absent role) = 3
status_number (status.Data fault) = 4
status_number (status.Script fault) = 5
status_number status.ReadFault = 6
status_number status.WriteFault = 7
status_number status.NoMemory = 8
status_number (status.Replay fault) = 10

abbrev pub role_text : FileRole → List ℕ
role_text role.Script = codes "script"
role_text role.Nodes = codes "nodes"
role_text role.Edges = codes "edges"
role_text (role.Insert n) = codes "insert " ++ decimal n
role_text role.Changes = codes "changes"

abbrev pub file_text : DataFile → List ℕ
file_text file.Nodes = codes "nodes"
file_text file.Edges = codes "edges"
file_text (file.Insert statement) = codes "insert " ++ decimal statement

abbrev pub kind_text : DataKind → List ℕ
kind_text wrong.NoHeader = codes "NoHeader"
kind_text wrong.BadHeader = codes "BadHeader"
kind_text wrong.TooManyColumns = codes "TooManyColumns"
kind_text wrong.WrongWidth = codes "WrongWidth"
kind_text wrong.NotUtf8 = codes "NotUtf8"
kind_text wrong.BadId = codes "BadId"
kind_text wrong.RepeatedId = codes "RepeatedId"
kind_text wrong.UnknownNode = codes "UnknownNode"
kind_text wrong.BadCell = codes "BadCell"
kind_text wrong.TooManyNodes = codes "TooManyNodes"
kind_text wrong.TooManyEdges = codes "TooManyEdges"
kind_text wrong.TooLarge = codes "TooLarge"

-- the line that says this
abbrev pub line_of : List ℕ → List ℕ
line_of text = codes "surge: " ++ (text ++ 10 ∷ [])

abbrev pub usage_line : List ℕ
usage_line = line_of (codes "usage: surge (--script FILE | --sample N | --replay FILE) [--mode run|check|summary|changes] [--turns N]")

-- the file, the record, the column and the kind of a fault
abbrev pub fault_line : DataFault → List ℕ
fault_line fault =
    codes "surge: data: " ++ (file_text fault.file ++ (codes " record " ++ (decimal fault.row ++ (codes " column " ++ (decimal fault.column ++ (codes ": " ++ (kind_text fault.kind ++ 10 ∷ [])))))))

-- the name of a fault of a script's text
abbrev pub text_fault_name : ScriptFault → List ℕ
text_fault_name faulty.NotUtf8 = codes "NotUtf8"
text_fault_name (faulty.Syntax line column) = codes "Syntax"
text_fault_name (faulty.NumberTooLarge line column) = codes "NumberTooLarge"
text_fault_name (faulty.TooDeep line column) = codes "TooDeep"

-- the name of the cause for which a statement is refused
abbrev pub statement_refusal_name : Refusal → List ℕ
statement_refusal_name refusal.UnknownName = codes "UnknownName"
statement_refusal_name refusal.RepeatedName = codes "RepeatedName"
statement_refusal_name refusal.UnknownProperty = codes "UnknownProperty"
statement_refusal_name refusal.WrongType = codes "WrongType"
statement_refusal_name refusal.WrongArguments = codes "WrongArguments"
statement_refusal_name refusal.TooManyViews = codes "TooManyViews"
statement_refusal_name refusal.BadRounds = codes "BadRounds"
statement_refusal_name refusal.TooManyKept = codes "TooManyKept"
statement_refusal_name refusal.BadSplit = codes "BadSplit"
statement_refusal_name refusal.NeedsForm = codes "NeedsForm"
statement_refusal_name refusal.WorkEdited = codes "WorkEdited"

abbrev pub script_refusal_name : ScriptRefusal → List ℕ
script_refusal_name refused.TooLarge = codes "TooLarge"
script_refusal_name (refused.Text fault) = text_fault_name fault
script_refusal_name refused.BadForm = codes "BadForm"
script_refusal_name (refused.Statement fault) = statement_refusal_name fault.refusal

abbrev pub place_text : (line column : ℕ) → List ℕ
place_text line column = codes "line " ++ (decimal line ++ (codes " column " ++ (decimal column ++ codes ": ")))

abbrev pub statement_text : ℕ → List ℕ
statement_text n = codes "statement " ++ (decimal n ++ codes ": ")

-- where a fault of a script's text is: a place, or the text as a whole
abbrev pub text_fault_place : ScriptFault → List ℕ
text_fault_place faulty.NotUtf8 = []
text_fault_place (faulty.Syntax line column) = place_text line column
text_fault_place (faulty.NumberTooLarge line column) = place_text line column
text_fault_place (faulty.TooDeep line column) = place_text line column

-- where a script is refused: at a place of its text, at a statement, or as a whole
abbrev pub where_text : ScriptRefusal → List ℕ
where_text refused.TooLarge = []
where_text (refused.Text fault) = text_fault_place fault
where_text refused.BadForm = []
where_text (refused.Statement fault) = statement_text fault.statement

-- where a script is refused, and why
abbrev pub script_line : ScriptRefusal → List ℕ
script_line why = codes "surge: script: " ++ (where_text why ++ (script_refusal_name why ++ 10 ∷ []))

-- the first bad line of a change text, or that it is too large
abbrev pub replay_text : ReplayFault → List ℕ
replay_text (replayed.Line n) = codes "line " ++ decimal n
replay_text replayed.TooLarge = codes "TooLarge"

abbrev pub replay_line : ReplayFault → List ℕ
replay_line fault = line_of (codes "replay: " ++ replay_text fault)

-- one line, or nothing where the run is done
abbrev pub status_line : Status → List ℕ
status_line status.Done = []
status_line status.Usage = usage_line
status_line (status.Absent role) = line_of (codes "absent: " ++ role_text role)
status_line (status.Data fault) = fault_line fault
status_line (status.Script why) = script_line why
status_line status.ReadFault = line_of (codes "read fault")
status_line status.WriteFault = line_of (codes "write fault")
status_line status.NoMemory = line_of (codes "out of memory")
status_line (status.Replay fault) = replay_line fault
