-- What a round gives, and what goes from round to round.
use Rattle.std.specs.Prelude.{◌≡◌, ◌<◌, ◌+◌, ◌-◌, ℕ, true, length, List, Option, Some, None, option_map}
use Rattle.std.specs.Rc.{rc_value}
use Rattle.graph_model.specs.declared.number.NodeNo.{NodeNo}
use Rattle.change_lists.specs.declared.history.Change.{Change}
use Rattle.vertex_lang.specs.Expressions.{Answer}
use Rattle.change_lists.specs.ChangeLists.{HasNodes, HasChanges}
use Rattle.round_kernel.specs.declared.frame.Frame.{Frame}
use Rattle.round_kernel.specs.declared.round.Stage.{Stage}
use Rattle.round_kernel.specs.declared.state.State.{State}
use Rattle.round_kernel.specs.declared.log.Log.{Log}
use Rattle.round_kernel.specs.declared.made.Made.{Made}
use Rattle.round_kernel.specs.Frames.{count_in, lone_at, marked_at, touched_at, was_touched_at, AreKept, AreStirred, IsFrame, StandAt}
use Rattle.round_kernel.specs.Lookups.{StandLookups}
use Rattle.round_kernel.specs.Rounds.{AreIdle}

-- all nodes are visited in a round of the step
pub record IsStage (answer : Answer) (stage : Stage) : Type 0 where
  pub frame : IsFrame answer stage.frame stage.frame.limit
  pub round : stage.round < stage.frame.limit
  pub lookups : StandLookups answer stage.frame stage.round stage.lookups.now

-- a list that is shared, where there is one, and else the own one
abbrev pub shared_or : {X : Type 0} → Option (List X) → List X → List X
shared_or None own = own
shared_or (Some same) own = same

-- the nodes with a mark, and what changes to the next round
abbrev pub made_marks : Made → List NodeNo
made_marks made = shared_or (option_map rc_value made.same_marks) made.marks

abbrev pub made_changes : Made → List Change
made_changes made = shared_or (option_map rc_value made.same_changes) made.changes

-- what changed from the last round, where a log keeps no history
abbrev pub passed_changes : Log → List Change
passed_changes log = shared_or (option_map rc_value log.same) log.own

-- what a round gives: the nodes with a mark in it, what changes to the next one, and where few touched nodes do, what may have to be told
pub record HasMade (answer : Answer) (f : Frame) (r : ℕ) (made : Made) : Type 0 where
  pub marks : 0 < r → HasNodes (count_in f) (marked_at answer f r) (made_marks made)
  pub changes : HasChanges (count_in f) (lone_at answer f r) (lone_at answer f (r + 1)) (made_changes made)
  pub stirred : made.few ≡ true → AreStirred answer f r made.stirred

-- what goes from round to round, as it stands before a round
pub record StandsBefore (answer : Answer) (f : Frame) (r : ℕ) (state : State) : Type 0 where
  pub at : StandAt answer f r (was_touched_at answer f r) state.lists
  pub idle : AreIdle state.lists
  pub kept_size : length state.kept.items ≡ count_in f
  pub kept : 0 < r → AreKept answer f (r - 1) (was_touched_at answer f r) state.kept.items
  pub lookups : StandLookups answer f r state.lookups
  pub stirred : 0 < r → state.made.few ≡ true → AreStirred answer f (r - 1) state.made.stirred

-- and when all nodes were visited in it
pub record StandsBehind (answer : Answer) (f : Frame) (r : ℕ) (state : State) : Type 0 where
  pub at : StandAt answer f r (touched_at answer f r) state.lists
  pub idle : AreIdle state.lists
  pub kept_size : length state.kept.items ≡ count_in f
  pub kept : AreKept answer f r (touched_at answer f r) state.kept.items
  pub lookups : StandLookups answer f r state.lookups
  pub made : HasMade answer f r state.made
