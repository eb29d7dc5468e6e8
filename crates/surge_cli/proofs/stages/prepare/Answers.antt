-- What is expected of what the words ask for is expected of the words.
use Rattle.std.proofs.Common.{◌≡◌, ◌∙◌, ℕ, List, [], ◌∷◌, Option, Result, Ok, Err, map, string_bytes, refl, sym, subst, inl}
use Rattle.std.specs.Prelude.{IfErr, IfOk}
use Rattle.surge_cli.specs.declared.words.CommandLine.{CommandLine}
use Rattle.surge_cli.specs.declared.words.CommandLine.TheVariants as line
use Rattle.surge_cli.specs.declared.status.Status.{Status}
use Rattle.surge_cli.specs.declared.status.Status.TheVariants as status
use Rattle.surge_cli.specs.declared.job.Due.{Due}
use Rattle.surge_cli.specs.FilesState.{FilesState, AsksEach}
use Rattle.surge_cli.specs.Words.{command_line}
use Rattle.surge_cli.specs.Expected.{Held, ExpectsOfChanges, fetched, told}
use Rattle.surge_cli.specs.declared.status.FileRole.TheVariants as role
use Rattle.surge_cli.specs.Headline.{AsksFor}
use Rattle.surge_cli.specs.Reaches.{ReachesFor, ReachesChanges, Reaches}
use Rattle.surge_cli.specs.Causes.{OfWords, NamesNone, AsksOnly}
use Rattle.surge_cli.specs.Once.{IsReadFor, AsksOnce}
use Rattle.surge_cli.specs.Stages.{IsExpectedOf, IsStop, IsStage, IsReplayStage, RisesBefore}
use Rattle.surge_cli.proofs.Expecting.{words_go_on, usage_expected, memory_expected}
use Rattle.surge_cli.proofs.Reaching.{words_rise}
use Rattle.surge_cli.proofs.Endings.{stage_script, stage_changes, stage_stops, replay_stops, words_lack}
use Rattle.surge_cli.proofs.ReadingOnce.{nothing_read, changes_alone}
use Rattle.surge_cli.proofs.stages.prepare.Goals as goal

-- ---- words that name a script

of_script : (r : Result Due Status) (words : List (List ℕ)) (to : CommandLine) → command_line words ≡ to → ((s : Status) → IsStage s → OfWords to s) → IfErr r IsStage → IfErr r (OfWords (command_line words))
of_script (Ok job) words to is of h = tt
of_script (Err s) words to is of h = subst (λ (a : CommandLine). OfWords a s) (sym is) (of s h)

stop : (r : Result Due Status) → IfErr r IsStage → IfErr r IsStop
stop (Ok job) h = h
stop (Err s) h = stage_stops s h

asks : (r : Result Due Status) (words : List (List ℕ)) (to : CommandLine) → command_line words ≡ to → IfOk r (AsksFor to) → IfOk r (AsksFor (command_line words))
asks r words to is h = subst (λ (a : CommandLine). IfOk r (AsksFor a)) (sym is) h

-- what is reached to these words
rises_for : (held : Option Held) (r : Result Due Status) (words : List (List ℕ)) (to : CommandLine) (a b : FilesState) → command_line words ≡ to → IfErr r (λ s. RisesBefore (ReachesFor held to) s a b) → IfErr r (λ s. RisesBefore (Reaches held words) s a b)
rises_for held r words to a b is h = subst (λ (x : CommandLine). IfErr r (λ s. RisesBefore (ReachesFor held x) s a b)) (sym is) h

asks_for : (held : Option Held) (words : List (List ℕ)) (to : CommandLine) (f g : List ℕ → ℕ) → command_line words ≡ to → AsksOnly (ReachesFor held to) f g → AsksOnly (Reaches held words) f g
asks_for held words to f g is h = subst (λ (x : CommandLine). AsksOnly (ReachesFor held x) f g) (sym is) h

pub returns-in-Ok-Asked-clause-said : goal.returns-in-Ok-Asked-clause-said
returns-in-Ok-Asked-clause-said g c =
    words_go_on (g.F.NamedFiles.state c.args.files.now).held (map string_bytes c.args.words.now) (line.Asked c.in-Ok-Asked.asked) c.script_asked.result (sym c.in-Ok-Asked.ensures.ok ∙ c.in-Ok-Asked.field-0-is) c.script_asked.ensures.said

pub returns-in-Ok-Asked-clause-asks : goal.returns-in-Ok-Asked-clause-asks
returns-in-Ok-Asked-clause-asks g c = asks c.script_asked.result (map string_bytes c.args.words.now) (line.Asked c.in-Ok-Asked.asked) (sym c.in-Ok-Asked.ensures.ok ∙ c.in-Ok-Asked.field-0-is) c.script_asked.ensures.asks

pub returns-in-Ok-Asked-clause-stop : goal.returns-in-Ok-Asked-clause-stop
returns-in-Ok-Asked-clause-stop g c = stop c.script_asked.result c.script_asked.ensures.stage

pub returns-in-Ok-Asked-clause-words : goal.returns-in-Ok-Asked-clause-words
returns-in-Ok-Asked-clause-words g c =
    of_script c.script_asked.result (map string_bytes c.args.words.now) (line.Asked c.in-Ok-Asked.asked) (sym c.in-Ok-Asked.ensures.ok ∙ c.in-Ok-Asked.field-0-is) (λ s h. stage_script s h) c.script_asked.ensures.stage

pub returns-in-Ok-Asked-clause-unread : goal.returns-in-Ok-Asked-clause-unread
returns-in-Ok-Asked-clause-unread g c = λ none. c.script_asked.ensures.unread (subst NamesNone (sym c.in-Ok-Asked.ensures.ok ∙ c.in-Ok-Asked.field-0-is) none)

pub returns-in-Ok-Asked-clause-causes : goal.returns-in-Ok-Asked-clause-causes
returns-in-Ok-Asked-clause-causes g c =
    let old = g.F.NamedFiles.state c.args.files.now in
    rises_for old.held c.script_asked.result (map string_bytes c.args.words.now) (line.Asked c.in-Ok-Asked.asked) old (g.F.NamedFiles.state c.script_asked.new.files) (sym c.in-Ok-Asked.ensures.ok ∙ c.in-Ok-Asked.field-0-is) c.script_asked.ensures.causes

pub returns-in-Ok-Asked-clause-asked : goal.returns-in-Ok-Asked-clause-asked
returns-in-Ok-Asked-clause-asked g c =
    let old = g.F.NamedFiles.state c.args.files.now in
    asks_for old.held (map string_bytes c.args.words.now) (line.Asked c.in-Ok-Asked.asked) old.asked (g.F.NamedFiles.state c.script_asked.new.files).asked (sym c.in-Ok-Asked.ensures.ok ∙ c.in-Ok-Asked.field-0-is) c.script_asked.ensures.asked

pub returns-in-Ok-Asked-clause-once : goal.returns-in-Ok-Asked-clause-once
returns-in-Ok-Asked-clause-once g c =
    let old = g.F.NamedFiles.state c.args.files.now in
    subst (λ (words : CommandLine). AsksOnce (IsReadFor old.held words) old (g.F.NamedFiles.state c.script_asked.new.files)) (sym c.in-Ok-Asked.field-0-is ∙ c.in-Ok-Asked.ensures.ok) c.script_asked.ensures.once

-- ---- words that name a change text

of_changes : (r : Result Due Status) (words : List (List ℕ)) (name : List ℕ) → command_line words ≡ line.Replay name → IfErr r IsReplayStage → IfErr r (OfWords (command_line words))
of_changes (Ok job) words name is h = tt
of_changes (Err s) words name is h = subst (λ (a : CommandLine). OfWords a s) (sym is) (stage_changes s h)

stop_changes : (r : Result Due Status) → IfErr r IsReplayStage → IfErr r IsStop
stop_changes (Ok job) h = h
stop_changes (Err s) h = replay_stops s h

asks_changes : (r : Result Due Status) (name : List ℕ) → IfOk r (λ job. (file : List ℕ) → AsksFor (line.Replay file) job) → IfOk r (AsksFor (line.Replay name))
asks_changes (Ok job) name h = h name
asks_changes (Err s) name h = tt

pub returns-in-Ok-Replay-clause-said : goal.returns-in-Ok-Replay-clause-said
returns-in-Ok-Replay-clause-said g c =
    let held = (g.F.NamedFiles.state c.args.files.now).held in
    words_go_on held (map string_bytes c.args.words.now) (line.Replay c.in-Ok-Replay.name) c.changes_asked.result (sym c.in-Ok-Replay.ensures.ok ∙ c.in-Ok-Replay.field-0-is)
    (subst (λ (name : List ℕ). IsExpectedOf held (λ files. ExpectsOfChanges (fetched files role.Changes name)) c.changes_asked.result) c.as_str.ensures c.changes_asked.ensures.said)

pub returns-in-Ok-Replay-clause-asks : goal.returns-in-Ok-Replay-clause-asks
returns-in-Ok-Replay-clause-asks g c =
    asks c.changes_asked.result (map string_bytes c.args.words.now) (line.Replay c.in-Ok-Replay.name) (sym c.in-Ok-Replay.ensures.ok ∙ c.in-Ok-Replay.field-0-is) (asks_changes c.changes_asked.result c.in-Ok-Replay.name c.changes_asked.ensures.asks)

pub returns-in-Ok-Replay-clause-stop : goal.returns-in-Ok-Replay-clause-stop
returns-in-Ok-Replay-clause-stop g c = stop_changes c.changes_asked.result c.changes_asked.ensures.stage

pub returns-in-Ok-Replay-clause-words : goal.returns-in-Ok-Replay-clause-words
returns-in-Ok-Replay-clause-words g c = of_changes c.changes_asked.result (map string_bytes c.args.words.now) c.in-Ok-Replay.name (sym c.in-Ok-Replay.ensures.ok ∙ c.in-Ok-Replay.field-0-is) c.changes_asked.ensures.stage

pub returns-in-Ok-Replay-clause-unread : goal.returns-in-Ok-Replay-clause-unread
returns-in-Ok-Replay-clause-unread g c = λ none. absurd (subst NamesNone (sym c.in-Ok-Replay.ensures.ok ∙ c.in-Ok-Replay.field-0-is) none)

pub returns-in-Ok-Replay-clause-causes : goal.returns-in-Ok-Replay-clause-causes
returns-in-Ok-Replay-clause-causes g c =
    let old = g.F.NamedFiles.state c.args.files.now in
    let new = g.F.NamedFiles.state c.changes_asked.new.files in
    rises_for old.held c.changes_asked.result (map string_bytes c.args.words.now) (line.Replay c.in-Ok-Replay.name) old new (sym c.in-Ok-Replay.ensures.ok ∙ c.in-Ok-Replay.field-0-is)
    (subst (λ (name : List ℕ). IfErr c.changes_asked.result (λ s. RisesBefore (ReachesChanges name) s old new)) c.as_str.ensures c.changes_asked.ensures.causes)

pub returns-in-Ok-Replay-clause-asked : goal.returns-in-Ok-Replay-clause-asked
returns-in-Ok-Replay-clause-asked g c =
    let old = g.F.NamedFiles.state c.args.files.now in
    let new = g.F.NamedFiles.state c.changes_asked.new.files in
    asks_for old.held (map string_bytes c.args.words.now) (line.Replay c.in-Ok-Replay.name) old.asked new.asked (sym c.in-Ok-Replay.ensures.ok ∙ c.in-Ok-Replay.field-0-is)
    (subst (λ (name : List ℕ). AsksOnly (ReachesChanges name) old.asked new.asked) c.as_str.ensures c.changes_asked.ensures.asked)

pub returns-in-Ok-Replay-clause-once : goal.returns-in-Ok-Replay-clause-once
returns-in-Ok-Replay-clause-once g c =
    let old = g.F.NamedFiles.state c.args.files.now in
    let new = g.F.NamedFiles.state c.changes_asked.new.files in
    changes_alone old.held (command_line (map string_bytes c.args.words.now)) c.in-Ok-Replay.name old new (sym c.in-Ok-Replay.ensures.ok ∙ c.in-Ok-Replay.field-0-is)
    (subst (λ (name : List ℕ). AsksEach (name ∷ []) old new) c.as_str.ensures c.changes_asked.ensures.once)

-- ---- words that are not of the form, and want of memory

pub returns-in-Ok-NotOfForm-clause-said : goal.returns-in-Ok-NotOfForm-clause-said
returns-in-Ok-NotOfForm-clause-said g c = usage_expected (g.F.NamedFiles.state c.args.files.now).held (map string_bytes c.args.words.now) (sym c.in-Ok-NotOfForm.ensures.ok ∙ c.in-Ok-NotOfForm.field-0-is)

pub returns-in-Ok-NotOfForm-clause-words : goal.returns-in-Ok-NotOfForm-clause-words
returns-in-Ok-NotOfForm-clause-words g c = subst (λ (a : CommandLine). OfWords a status.Usage) (sym c.in-Ok-NotOfForm.field-0-is ∙ c.in-Ok-NotOfForm.ensures.ok) (inl refl)

pub returns-in-Ok-NotOfForm-clause-once : goal.returns-in-Ok-NotOfForm-clause-once
returns-in-Ok-NotOfForm-clause-once g c =
    let old = g.F.NamedFiles.state c.args.files.now in
    nothing_read old.held (command_line (map string_bytes c.args.words.now)) old

pub returns-in-Err-clause-said : goal.returns-in-Err-clause-said
returns-in-Err-clause-said g c = memory_expected (told (g.F.NamedFiles.state c.args.files.now).held (map string_bytes c.args.words.now)) (map string_bytes c.args.words.now) c.in-Err.status c.in-Err.ensures.err

pub returns-in-Err-clause-stop : goal.returns-in-Err-clause-stop
returns-in-Err-clause-stop g c = subst IsStop (sym c.in-Err.ensures.err) tt

pub returns-in-Err-clause-words : goal.returns-in-Err-clause-words
returns-in-Err-clause-words g c = words_lack (map string_bytes c.args.words.now) c.in-Err.status c.in-Err.ensures.err

pub returns-in-Err-clause-causes : goal.returns-in-Err-clause-causes
returns-in-Err-clause-causes g c =
    let old = g.F.NamedFiles.state c.args.files.now in
    words_rise (Reaches old.held (map string_bytes c.args.words.now)) c.in-Err.status old old c.in-Err.ensures.err

pub returns-in-Err-clause-once : goal.returns-in-Err-clause-once
returns-in-Err-clause-once g c =
    let old = g.F.NamedFiles.state c.args.files.now in
    nothing_read old.held (command_line (map string_bytes c.args.words.now)) old
