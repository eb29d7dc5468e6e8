-- What a segment holds.
use Rattle.std.specs.Prelude.{◌≡◌, ◌≤◌, ◌-◌, ℕ, ⊤, Bool, List, [], ◌∷◌, length, map, take, slice_get, Option, Some, None, IfSome}
use Rattle.std.specs.List.{range_with_len}
use Rattle.edge_predicates.specs.ViewEdges.{edge}
use Rattle.graph_model.specs.declared.number.ViewNo.{ViewNo}
use Rattle.graph_model.specs.declared.value.Val.{Val}
use Rattle.vertex_lang.specs.Lone.{number_of}
use Rattle.vertex_lang.specs.Rounds.{lone}
use Rattle.change_lists.specs.declared.history.Change.{Change}
use Rattle.change_lists.specs.declared.history.History.{History}
use Rattle.round_kernel.specs.Histories.{IsHistory}
use Rattle.change_lists.specs.ChangeLists.{all_from, changes_from}
use Rattle.view_matrix.specs.Matrices.{is_in}
use Rattle.view_order.specs.Greedy.{numbers}
use Rattle.view_segment.specs.declared.segment.Segment.{Segment}
use Rattle.view_segment.specs.declared.segment.Kept.{Kept}
use Rattle.view_segment.specs.declared.segment.Given.{Given}
use Rattle.view_segment.specs.Tasks.{Task, view_arcs, lone_of, works_of}

-- the last of a list
abbrev pub last_of : List ℕ → Option ℕ
last_of [] = None
last_of (v ∷ []) = Some v
last_of (v ∷ w ∷ vs) = last_of (w ∷ vs)

-- the views that were stepped, in their order
abbrev pub stepped : Segment → List ℕ
stepped s = take (length s.works) (numbers s.views)

-- the one that was stepped last
abbrev pub last_stepped : Segment → Option ℕ
last_stepped s = last_of (stepped s)

-- each view was stepped
abbrev pub IsFinished : Segment → Type 0
IsFinished s = length s.works ≡ length s.views

-- the history is that of this view, and there is none where there is no view
abbrev pub HistoryOf : Task → Option ℕ → Option History → Type 0
HistoryOf task None None = ⊤
HistoryOf task None (Some h) = ⊥
HistoryOf task (Some v) None = ⊥
HistoryOf task (Some v) (Some h) = IsHistory task.answer task.program task.graph (Some (view_arcs task v)) (number_of task.rounds) h

-- the history of the view that was stepped last is kept
abbrev pub KeepsHistory : Task → Segment → Type 0
KeepsHistory task s = HistoryOf task (last_stepped s) s.history

-- of each edge of the graph whether it is in the view
abbrev pub view_flags : Task → ℕ → List Bool
view_flags task v = map (λ e. is_in (task.edges v) (edge e)) (range_with_len 0 (length task.graph.ends))

-- these flags are those of this view, and there are none where there is no view
abbrev pub FlagsOf : Task → Option ℕ → List Bool → Type 0
FlagsOf task None flags = ⊥
FlagsOf task (Some v) flags = flags ≡ view_flags task v

-- What a segment holds is what its task says. While a view wasn't stepped, the history of the one that was stepped last is
-- kept. Flags that it keeps are those of that view, and once each view was stepped it keeps none.
pub record SegmentStands (task : Task) (s : Segment) : Type 0 where
  pub few : length s.works ≤ length s.views
  pub works : s.works ≡ works_of task (stepped s)
  pub history : (IsFinished s → ⊥) → KeepsHistory task s
  pub flags : IfSome s.flags (λ kept. FlagsOf task (last_stepped s) kept.items)
  pub done : IsFinished s → s.flags ≡ None

-- ---- a step

-- the values after all rounds
abbrev pub last_values : Task → ℕ → List Val
last_values task v = lone task.answer task.program task.graph (view_arcs task v) (number_of task.rounds)

-- how they differ from those of the view before; of a first view all of them
abbrev pub change_of : Task → Option ℕ → ℕ → List Change
change_of task None v = all_from 0 (last_values task v)
change_of task (Some u) v = changes_from 0 (last_values task u) (last_values task v)

-- what a segment keeps of the view that was stepped last
abbrev pub kept_of : Segment → Kept
kept_of s = record { history = s.history; flags = s.flags }

-- without the last step, and with this kept
abbrev pub taken_back : Segment → Kept → Segment
taken_back s kept = record { views = s.views; works = take (length s.works - 1) s.works; history = kept.history; flags = kept.flags }

abbrev pub place_of : Option ViewNo → Option ℕ
place_of None = None
place_of (Some view) = Some view.0

-- what the step of the next view gives
pub record IsGiven (task : Task) (s : Segment) (given : Given) : Type 0 where
  pub view : slice_get s.views (length s.works) ≡ Some given.view
  pub before : place_of given.before ≡ last_stepped s
  pub outcome : given.outcome ≡ (lone_of task given.view.0).outcome
  pub change : given.change ≡ change_of task (last_stepped s) given.view.0
  pub kept : given.kept ≡ kept_of s
