-- What a step makes of all rounds.
use Rattle.std.specs.Prelude.{◌≡◌, ◌≢◌, ◌<◌, ◌≤◌, ◌+◌, ◌-◌, ◌==◌, ℕ, Bool, true, false, if◌then◌else◌, List, [], length, get_or, Some}
use Rattle.vertex_lang.specs.declared.arc.Arc.{Arc}
use Rattle.vertex_lang.specs.declared.lone.Rounds.{Rounds}
use Rattle.vertex_lang.specs.declared.lone.Outcome.{Outcome}
use Rattle.vertex_lang.specs.Expressions.{Answer}
use Rattle.vertex_lang.specs.Lone.{number_of}
use Rattle.vertex_lang.specs.Rounds.{lone, value_at}
use Rattle.lone_work.specs.Work.{work}
use Rattle.change_lists.specs.declared.history.History.{History}
use Rattle.round_kernel.specs.declared.frame.Frame.{Frame}
use Rattle.round_kernel.specs.declared.log.Log.{Log}
use Rattle.round_kernel.specs.declared.plan.Plan.{Plan}
use Rattle.round_kernel.specs.declared.step.Logged.{Logged}
use Rattle.round_kernel.specs.declared.step.Run.{Run}
use Rattle.arc_rows.specs.Counts.{ArePlain}
use Rattle.round_kernel.specs.Changes.{passed_changes}
use Rattle.round_kernel.specs.Histories.{IsHistory}
use Rattle.round_kernel.specs.Plans.{IsLast, IsOnly}
use Rattle.change_lists.specs.ChangeLists.{HasNodes, HasChanges}
use Rattle.arc_rows.specs.Views.{arcs_in}
use Rattle.round_kernel.specs.Frames.{new_arcs, old_arcs, lone_at, marked_at, count_in}
use Rattle.vertex_lang.specs.declared.lone.Rounds.TheVariants as limits
use Rattle.vertex_lang.specs.declared.lone.Outcome.TheVariants as outcomes

-- the history of the new view in the rounds before this one
pub record HasRounds (answer : Answer) (f : Frame) (r : ℕ) (h : History) : Type 0 where
  pub size : length h.changes ≡ r
  pub changes : (k : ℕ) → k < r → HasChanges (count_in f) (lone_at answer f k) (lone_at answer f (k + 1)) (get_or h.changes k [])
  pub marks_size : length h.marks ≡ r - 1
  pub marks : (k : ℕ) → k + 1 < r → HasNodes (count_in f) (marked_at answer f (k + 1)) (get_or h.marks k [])

-- of the rounds up to this one, this is the last with other values than the one before it, or 0 where there is none
pub record IsLastChange (answer : Answer) (f : Frame) (r last : ℕ) : Type 0 where
  pub within : last ≤ r
  pub moved : 0 < last → lone_at answer f last ≢ lone_at answer f (last - 1)
  pub still : (k : ℕ) → last ≤ k → k < r → lone_at answer f (k + 1) ≡ lone_at answer f k

-- what a log says before a round: where it keeps a history, of all rounds before, and else what changed from the last one
pub record IsLog (answer : Answer) (f : Frame) (r : ℕ) (log : Log) : Type 0 where
  pub kept : log.keeps ≡ true → HasRounds answer f r log.history
  pub passed : log.keeps ≡ false → 0 < r → HasChanges (count_in f) (lone_at answer f (r - 1)) (lone_at answer f r) (passed_changes log)
  pub last : IsLastChange answer f r log.last

-- what all rounds give, with a history where one is kept
pub record IsRun (answer : Answer) (f : Frame) (keeps : Bool) (run : Run) : Type 0 where
  pub history : keeps ≡ true → IsHistory answer f.program.now f.graph.now (Some (new_arcs f)) f.limit run.history
  pub last : IsLastChange answer f f.limit run.last
  pub work_is : run.work ≡ work answer f.program.now f.graph.now (new_arcs f) (old_arcs f) f.limit
  pub new_values : run.lists.new_now.items ≡ lone_at answer f f.limit
  pub old_values : f.first ≡ false → run.lists.old_now.items ≡ lone answer f.program.now f.graph.now (arcs_in f.rows.now.by_head f.old.now) f.limit
  pub plain : ArePlain f.graph.now (record { old = run.lists.old_degrees; new = run.lists.new_degrees })
  pub touched_size : length run.lists.touched.items ≡ count_in f
  -- a node that was never touched has the same value in both views
  pub untouched : f.first ≡ false → (v : ℕ) → v < count_in f → get_or run.lists.touched.items v false ≡ false → value_at run.lists.old_now.items v ≡ value_at run.lists.new_now.items v

-- the outcome, given the number of the last round that changed something
abbrev pub outcome_of : ℕ → Rounds → Outcome
outcome_of last (limits.For n) = outcomes.After n
outcome_of last (limits.Within n) = if last == n then outcomes.Unsettled else outcomes.Settled last

-- what a step gives, with a history where one is kept: of a view that none stands before
pub record IsFirstLogged (answer : Answer) (plan : Plan) (arcs : List Arc) (keeps : Bool) (s : Logged) : Type 0 where
  pub history : keeps ≡ true → IsHistory answer plan.program.now plan.graph.now (Some arcs) (number_of plan.rounds) s.history
  pub step : IsOnly answer plan arcs s.ended

-- and of one behind a view with the arcs of `old`
pub record IsNextLogged (answer : Answer) (plan : Plan) (old new : List Arc) (keeps : Bool) (s : Logged) : Type 0 where
  pub history : keeps ≡ true → IsHistory answer plan.program.now plan.graph.now (Some new) (number_of plan.rounds) s.history
  pub step : IsLast answer plan old new s.ended
