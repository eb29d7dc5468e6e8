-- What stays the same in all rounds of a step, and what is to be found in a round.
use Rattle.std.specs.Prelude.{◌≡◌, ◌<◌, ◌≤◌, ◌+◌, ◌-◌, ◌&&◌, ◌||◌, ◌⊎◌, not, ℕ, Bool, true, false, List, [], length, get_or, All, Contains, Option, Some}
use Rattle.graph_model.specs.declared.value.Val.{Val}
use Rattle.graph_model.specs.declared.number.NodeNo.{NodeNo}
use Rattle.vertex_lang.specs.declared.arc.Arc.{Arc}
use Rattle.vertex_lang.specs.Arcs.{IsArc}
use Rattle.vertex_lang.specs.Leaves.{IsChecked}
use Rattle.vertex_lang.specs.Expressions.{Answer, start_of}
use Rattle.vertex_lang.specs.Lone.{same_value}
use Rattle.vertex_lang.specs.Rounds.{value_at, lone}
use Rattle.vertex_lang.specs.Ignoring.{IgnoresOutdeg}
use Rattle.lone_work.specs.Work.{node_touched, node_counted, node_marked}
use Rattle.change_lists.specs.declared.history.Change.{Change}
use Rattle.round_kernel.specs.declared.frame.Frame.{Frame}
use Rattle.round_kernel.specs.declared.frame.Lists.{Lists}
use Rattle.arc_rows.specs.Views.{arcs_in, in_view, IsTurned}
use Rattle.round_messages.specs.Sides.{AreSent}
use Rattle.round_inputs.specs.Inputs.{IsRound}
use Rattle.round_kernel.specs.Histories.{IsHistory}
use Rattle.change_lists.specs.ChangeLists.{is_changed, is_listed}
use Rattle.arc_rows.specs.RowLists.{AreRows}
use Rattle.waiting_nodes.specs.Queues.{waits}
use Rattle.value_codes.specs.declared.tally.Kept.{Kept}
use Rattle.value_codes.specs.Tallies.{kept_of, no_tally}
use Rattle.round_kernel.specs.Rounds.{kept_at, old_view, AreAt, TellParted, was_touched}

-- the arcs of the new view, and of the view before if there's one
abbrev pub new_arcs : Frame → List Arc
new_arcs f = arcs_in f.rows.now.by_head f.new.now

abbrev pub old_arcs : Frame → Option (List Arc)
old_arcs f = old_view f.first f.rows.now.by_head f.old.now

module _ (answer : Answer) (f : Frame) (r v : ℕ) where
  abbrev pub touched_at : Bool
  touched_at = node_touched answer f.program.now f.graph.now (new_arcs f) (old_arcs f) v r

  abbrev pub counted_at : Bool
  counted_at = node_counted answer f.program.now f.graph.now (new_arcs f) (old_arcs f) v r

  abbrev pub marked_at : Bool
  marked_at = node_marked answer f.program.now f.graph.now (Some (new_arcs f)) v r

  abbrev pub marked_before : Bool
  marked_before = node_marked answer f.program.now f.graph.now (old_arcs f) v r

  abbrev pub was_touched_at : Bool
  was_touched_at = was_touched answer f.program.now f.graph.now f.rows.now.by_head f.first f.old.now f.new.now r v

-- the values of the new view in a round
abbrev pub lone_at : Answer → Frame → ℕ → List Val
lone_at answer f r = lone answer f.program.now f.graph.now (new_arcs f) r

-- and of the view before, where there's one
abbrev pub old_lone_at : Answer → Frame → ℕ → List Val
old_lone_at answer f r = lone answer f.program.now f.graph.now (arcs_in f.rows.now.by_head f.old.now) r

abbrev pub count_in : Frame → ℕ
count_in f = length f.graph.now.ids

-- the lists stand at a round
abbrev pub StandAt : Answer → Frame → ℕ → (ℕ → Bool) → Lists → Type 0
StandAt answer f r touched lists = AreAt answer f.program.now f.graph.now f.rows.now.by_head f.first f.old.now f.new.now r touched lists

-- a node that changes from a round to the next, and isn't told to be parted, has the same value in both views in the round
abbrev pub TellPartedAt : Answer → Frame → ℕ → List Bool → Type 0
TellPartedAt answer f r parted = TellParted answer f.program.now f.graph.now (arcs_in f.rows.now.by_head f.old.now) (new_arcs f) r parted

-- what a step is given
pub record IsFrame (answer : Answer) (f : Frame) (rounds : ℕ) : Type 0 where
  pub checked : IsChecked f.program.now f.graph.now
  pub rows : AreRows f.graph.now f.rows.now
  pub few : length f.graph.now.ids ≤ 1_000_000
  pub old_size : length f.old.now ≡ length f.graph.now.ends
  pub new_size : length f.new.now ≡ length f.graph.now.ends
  pub degree : f.by_degree ≡ false → IgnoresOutdeg f.program.now.send
  pub history : IsHistory answer f.program.now f.graph.now (old_arcs f) rounds f.history.now
  pub arcs : All (IsArc f.graph.now) f.turned.now
  pub turned : f.first ≡ false → All (λ a. IsTurned f.old.now f.new.now a → Contains f.turned.now a) f.rows.now.by_head

-- where a node is touched, and its value changes to the next round
abbrev pub changes_at : Answer → Frame → ℕ → ℕ → Bool
changes_at answer f r v = not (same_value (value_at (lone_at answer f (r + 1)) v) (value_at (lone_at answer f r) v))

-- the list has the changes of the nodes at which the test holds, to the next round
pub record HasSome (answer : Answer) (f : Frame) (r : ℕ) (test : ℕ → Bool) (changes : List Change) : Type 0 where
  pub within : All (λ c. c.node.0 < count_in f) changes
  pub values : All (λ c. c.value ≡ value_at (lone_at answer f (r + 1)) c.node.0) changes
  pub listed : (v : ℕ) → v < count_in f → is_changed v changes ≡ (test v && changes_at answer f r v)

-- a node of which nobody has to be told where it changes: it was never touched, and no arc leaves it that is in one of the two views alone
pub record IsQuiet (answer : Answer) (f : Frame) (r v : ℕ) : Type 0 where
  pub second : f.first ≡ false
  pub untouched : touched_at answer f r v ≡ false
  pub unturned : All (λ a. a.tail.0 ≡ v → in_view f.old.now a ≡ in_view f.new.now a) f.rows.now.by_head

-- the list has what changes from a round to the next in one of the two views, but for quiet nodes
pub record AreStirred (answer : Answer) (f : Frame) (r : ℕ) (stirred : List Change) : Type 0 where
  pub within : All (λ c. c.node.0 < count_in f) stirred
  pub old : (v : ℕ) → v < count_in f → is_changed v (get_or f.history.now.changes r []) ≡ true → (is_changed v stirred ≡ true) ⊎ IsQuiet answer f r v
  pub new : (v : ℕ) → v < count_in f → changes_at answer f r v ≡ true → (is_changed v stirred ≡ true) ⊎ IsQuiet answer f r v

-- a change of the node may have to be told
abbrev pub stirs : List Bool → List Bool → ℕ → Bool
stirs touched watched v = get_or touched v false || get_or watched v false

-- a node that doesn't wait isn't counted, and is touched only if it was
pub record AreCalm (answer : Answer) (f : Frame) (r : ℕ) (lists : Lists) : Type 0 where
  pub touched : (v : ℕ) → v < count_in f → waits lists.queue v ≡ false → touched_at answer f r v ≡ was_touched_at answer f r v
  pub counted : (v : ℕ) → v < count_in f → waits lists.queue v ≡ false → counted_at answer f r v ≡ false

-- of the nodes that wait, those that are shown to be marked are those of the view before
pub record AreShown (answer : Answer) (f : Frame) (r : ℕ) (lists : Lists) : Type 0 where
  pub shown : (v : ℕ) → v < count_in f → 0 < r → waits lists.queue v ≡ true → get_or lists.marked.items v false ≡ marked_before answer f r v

-- of the nodes with a mark in the view before some are shown, and flagged; the others stay untouched
pub record AreDivided (answer : Answer) (f : Frame) (r : ℕ) (marked : List Bool) (shown : List NodeNo) : Type 0 where
  pub within : All (λ n. n.0 < count_in f) shown
  pub among : (v : ℕ) → v < count_in f → 0 < r → is_listed v shown ≡ true → marked_before answer f r v ≡ true
  pub stay : (v : ℕ) → v < count_in f → 0 < r → marked_before answer f r v ≡ true → is_listed v shown ≡ false → touched_at answer f r v ≡ false
  pub flagged : (v : ℕ) → get_or marked v false ≡ is_listed v shown

-- ---- a visit

-- the lists are those of a round at a node that wasn't visited in it yet
pub record IsPlace (answer : Answer) (f : Frame) (r v : ℕ) (lists : Lists) : Type 0 where
  pub start : value_at lists.starts.value v ≡ start_of f.program.now f.graph.now v
  pub starts_size : length lists.starts.value ≡ count_in f
  pub new_now : IsRound answer f.program.now f.graph.now f.rows.now.by_head f.new.now lists.new_degrees.items lists.new_now.items r
  pub new_before : IsRound answer f.program.now f.graph.now f.rows.now.by_head f.new.now lists.new_degrees.items lists.new_before.items (r - 1)
  pub old_now : f.first ≡ false → IsRound answer f.program.now f.graph.now f.rows.now.by_head f.old.now lists.old_degrees.items lists.old_now.items r
  pub new_sent : AreSent lists.alike f.program.now f.graph.now lists.new_degrees.items lists.new_now.items lists.new_sent
  pub touched_size : length lists.touched.items ≡ count_in f
  pub touched : get_or lists.touched.items v false ≡ was_touched_at answer f r v
  pub marked_size : length lists.marked.items ≡ count_in f
  pub marked : 0 < r → get_or lists.marked.items v false ≡ marked_before answer f r v

-- what is kept of the messages of a node in a round of the new view
abbrev pub kept_in : Answer → Frame → ℕ → ℕ → Kept
kept_in answer f r v = kept_at answer f.program.now f.graph.now (new_arcs f) r v

-- it is kept of the touched nodes
abbrev pub AreKept : Answer → Frame → ℕ → (ℕ → Bool) → List Kept → Type 0
AreKept answer f r touched kept = (v : ℕ) → v < count_in f → touched v ≡ true → get_or kept v (kept_of no_tally) ≡ kept_in answer f r v

-- all but the touched nodes and the lists that are filled anew stay
abbrev pub IsKept : Lists → Lists → Type 0
IsKept old new = new ≡ record old { touched = new.touched; scratch = new.scratch }

-- all but the values of the round before stay
abbrev pub IsCaughtUp : Lists → Lists → Type 0
IsCaughtUp old new = new ≡ record old { new_before = new.new_before }

-- all but the parted nodes stay
abbrev pub ArePartedAnew : Lists → Lists → Type 0
ArePartedAnew old new = new ≡ record old { parted = new.parted }
