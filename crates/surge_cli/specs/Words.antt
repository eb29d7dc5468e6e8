-- What the words of the command line ask for.
use Rattle.std.specs.Prelude.{ℕ, ◌^◌, Bool, true, not, ◌&&◌, ◌||◌, nat_le, nat_lt, if◌then◌else◌, List, [], ◌∷◌, length, codes, Option, Some, None, is_some, option_map}
use Rattle.std.specs.Char.{is_ascii_digit}
use Rattle.std.specs.List.{list_all}
use Rattle.std.specs.Str.{bytes_eq}
use Rattle.std.specs.Str.Parse.{digits_value}
use Rattle.clap.specs.Words.{App, Rule, Row, new_app, new_rule, with_rule, first_of, matches_of}
use Rattle.clap.specs.Faults.{fault_of}
use Rattle.clap.specs.Kinds.{Kinds}
use Rattle.result_tables.specs.declared.form.Form.TheVariants as form
use Rattle.surge_cli.specs.declared.words.Source.{Source}
use Rattle.surge_cli.specs.declared.words.Source.TheVariants as source
use Rattle.surge_cli.specs.declared.words.Mode.{Mode}
use Rattle.surge_cli.specs.declared.words.Mode.TheVariants as mode
use Rattle.surge_cli.specs.declared.words.Request.{Request}
use Rattle.surge_cli.specs.declared.words.Task.{Task}
use Rattle.surge_cli.specs.declared.words.Task.TheVariants as task
use Rattle.surge_cli.specs.declared.words.Asked.{Asked}
use Rattle.surge_cli.specs.declared.words.CommandLine.{CommandLine}
use Rattle.surge_cli.specs.declared.words.CommandLine.TheVariants as line

-- ---- the command, as `clap` sees it

-- `--name TEXT` or `--name=TEXT`
abbrev pub option_named : List ℕ → Rule
option_named name = record (new_rule name) { long = Some name }

-- without flags for help and for the version
abbrev pub bare : App
bare = let plain = new_app (codes "surge") in record plain { top = record plain.top { disable_help_flag = true; disable_version_flag = true } }

abbrev pub command : App
command = with_rule (with_rule (with_rule (with_rule (with_rule bare (option_named (codes "script"))) (option_named (codes "sample"))) (option_named (codes "replay"))) (option_named (codes "mode"))) (option_named (codes "turns"))

abbrev pub where_none : Kinds → List Row → Option (List Row)
where_none [] rows = Some rows
where_none (kind ∷ kinds) rows = None

-- the options that were given, where the command takes the words. The first word is the program's name, which isn't
-- looked at
abbrev pub matched : List (List ℕ) → Option (List Row)
matched words = where_none (fault_of command words) (matches_of command words)

-- ---- what each option says

-- 1 to 20 decimal digits, of value up to 2^64 - 1
abbrev pub is_number : List ℕ → Bool
is_number text = nat_le 1 (length text) && nat_le (length text) 20 && list_all is_ascii_digit text && nat_lt (digits_value 10 text) (2 ^ 64)

abbrev pub number_of : List ℕ → Option ℕ
number_of text = if is_number text then Some (digits_value 10 text) else None

-- the name of a file isn't empty
abbrev pub file_of : List ℕ → Option Source
file_of name = if nat_le 1 (length name) then Some (source.Script name) else None

-- exactly one of `--script` and `--sample`
abbrev pub source_of : (script sample : Option (List ℕ)) → Option Source
source_of (Some name) None = file_of name
source_of None (Some text) = option_map (λ n. source.Sample n) (number_of text)
source_of None None = None
source_of (Some name) (Some text) = None

abbrev pub mode_named : List ℕ → Option Mode
mode_named text =
    if bytes_eq text (codes "run") then Some mode.Run
    else (if bytes_eq text (codes "check") then Some mode.Check
    else (if bytes_eq text (codes "summary") then Some mode.Summary
    else (if bytes_eq text (codes "changes") then Some mode.Changes else None)))

-- without `--mode` the mode is `run`
abbrev pub mode_of : Option (List ℕ) → Option Mode
mode_of None = Some mode.Run
mode_of (Some text) = mode_named text

abbrev pub turns_of : Option (List ℕ) → Option (Option ℕ)
turns_of None = Some None
turns_of (Some text) = option_map (λ n. Some n) (number_of text)

-- ---- the whole

abbrev pub joined : Option Source → Option Mode → Option (Option ℕ) → Option Request
joined (Some source) (Some mode) (Some turns) = Some (record { source = source; mode = mode; turns = turns })
joined _ _ _ = None

abbrev pub request_from : List Row → Option Request
request_from rows =
    joined (source_of (first_of (codes "script") rows) (first_of (codes "sample") rows)) (mode_of (first_of (codes "mode") rows)) (turns_of (first_of (codes "turns") rows))

-- what is done in a mode; in the mode `check` nothing is turned
abbrev pub task_of : Mode → Option ℕ → Task
task_of mode.Run turns = task.Run form.Tables turns
task_of mode.Summary turns = task.Run form.Summary turns
task_of mode.Changes turns = task.Run form.Changes turns
task_of mode.Check turns = task.Check

-- a script and what is done of it
abbrev pub asked_of : Request → Asked
asked_of request = record { source = request.source; task = task_of request.mode request.turns }

abbrev pub line_of : Option Request → CommandLine
line_of None = line.NotOfForm
line_of (Some request) = line.Asked (asked_of request)

-- ---- a change text

-- an option other than `--replay` was given
abbrev pub is_accompanied : List Row → Bool
is_accompanied rows =
    is_some (first_of (codes "script") rows) || is_some (first_of (codes "sample") rows) || is_some (first_of (codes "mode") rows) || is_some (first_of (codes "turns") rows)

-- `--replay` stands alone, and the name of its file isn't empty
abbrev pub replay_of : List ℕ → (accompanied : Bool) → CommandLine
replay_of name accompanied = if nat_le 1 (length name) && not accompanied then line.Replay name else line.NotOfForm

-- ---- the command line

abbrev pub line_with : Option (List ℕ) → List Row → CommandLine
line_with (Some name) rows = replay_of name (is_accompanied rows)
line_with None rows = line_of (request_from rows)

abbrev pub line_from : List Row → CommandLine
line_from rows = line_with (first_of (codes "replay") rows) rows

abbrev pub line_matched : Option (List Row) → CommandLine
line_matched None = line.NotOfForm
line_matched (Some rows) = line_from rows

-- what the words of the command line come to
unfoldable pub command_line : List (List ℕ) → CommandLine
command_line words = line_matched (matched words)
