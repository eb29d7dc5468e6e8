-- What an engine holds.
use Rattle.std.specs.Prelude.{◌≡◌, ◌≢◌, ◌<◌, ◌≤◌, ◌+◌, ◌*◌, ℕ, suc, min, ⊤, true, false, ◌⊎◌, List, [], ◌∷◌, ◌++◌, length, map, take, All, slice_get, get_or, ◌==◌, if◌then◌else◌, Option, Some, None, option_and_then}
use Rattle.std.specs.List.{sum_by, list_any, position}
use Rattle.graph_model.specs.declared.number.ViewNo.{ViewNo}
use Rattle.graph_model.specs.GraphData.{GraphData, AreDistinct}
use Rattle.vertex_lang.specs.declared.program.Along.{Along}
use Rattle.vertex_lang.specs.Expressions.{Answer}
use Rattle.vertex_lang.specs.Leaves.{IsChecked}
use Rattle.vertex_lang.specs.Lone.{number_of}
use Rattle.round_kernel.specs.declared.kernel.Kernel.{Kernel}
use Rattle.round_kernel.specs.Kernels.{IsKernel}
use Rattle.arc_rows.specs.RowLists.{AreOfAll}
use Rattle.segment_split.specs.declared.SplitRule.{SplitRule}
use Rattle.segment_split.specs.declared.SplitRule.TheVariants as split
use Rattle.view_matrix.specs.Matrices.{MatrixData, IsView}
use Rattle.view_order.specs.Greedy.{numbers}
use Rattle.result_tables.specs.declared.table.Table.{Table}
use Rattle.result_tables.specs.TableText.{table_of}
use Rattle.result_tables.specs.Results.{ResultsData, held_on}
use Rattle.view_segment.specs.declared.segment.Segment.{Segment}
use Rattle.view_segment.specs.Segments.{SegmentStands, IsFinished, KeepsHistory, stepped, last_values}
use Rattle.view_segment.specs.Tasks.{Task, task_over, lone_of}
use Rattle.view_engine.specs.declared.engine.Engine.{Engine}
use Rattle.view_engine.specs.Splits.{later_edges, segments_of}

-- the segments that have a view so far
abbrev pub segments_in : Engine → List Segment
segments_in e = e.segments.items

-- the views of these segments, of one segment after the other
abbrev pub views_in : List Segment → List ViewNo
views_in [] = []
views_in (s ∷ ss) = s.views ++ views_in ss

-- the views of the last segment
abbrev pub last_views : List Segment → List ℕ
last_views [] = []
last_views (s ∷ []) = numbers s.views
last_views (s ∷ t ∷ ss) = last_views (t ∷ ss)

-- the views that have a segment so far, and those that were stepped
abbrev pub assigned_in : Engine → ℕ
assigned_in e = sum_by (λ s. length s.views) (segments_in e)

abbrev pub stepped_in : Engine → ℕ
stepped_in e = sum_by (λ s. length s.works) (segments_in e)

-- each view that has a segment was stepped
abbrev pub AreFinished : Engine → Type 0
AreFinished e = All IsFinished (segments_in e)

-- the task of an engine over the views of a matrix
abbrev pub task_of : Answer → MatrixData → Engine → Task
task_of answer m e = task_over answer e.program.now e.graph.now e.rounds m

-- how many views have a segment: all of them, or, where the split looks at works, those that were stepped and the next one
abbrev pub assigned_of : SplitRule → (views stepped : ℕ) → ℕ
assigned_of split.Whole views stepped = views
assigned_of (split.Every n) views stepped = views
assigned_of split.Auto views stepped = min views (stepped + 1)

abbrev pub AllowsSplit : SplitRule → Type 0
AllowsSplit (split.Every n) = 1 ≤ n
AllowsSplit _ = ⊤

-- where the split looks at works, each segment but the last is finished
abbrev pub IsInOrder : SplitRule → List Segment → Type 0
IsInOrder split.Auto segments = (i : ℕ) (s : Segment) → suc i < length segments → slice_get segments i ≡ Some s → IsFinished s
IsInOrder _ segments = ⊤

-- where the split looks at works, it is kept in how many edges the later views of the last segment differ
abbrev pub KeepsLater : SplitRule → Task → ℕ → List Segment → Type 0
KeepsLater split.Auto task later segments = later ≡ later_edges task (last_views segments)
KeepsLater _ task later segments = ⊤

-- the results hold what is asked of a view: the outcome, and the values after all rounds
pub record HoldsView (task : Task) (results : ResultsData) (v : ViewNo) : Type 0 where
  pub held : held_on results v ≡ Some (record { view = v; outcome = (lone_of task v.0).outcome; values = last_values task v.0 })

-- ---- what is told of a view

-- the number of the first segment that has the view
abbrev pub segment_at : Engine → ViewNo → Option ℕ
segment_at e v = position (λ s. list_any (λ u. u.0 == v.0) s.views) (segments_in e)

-- the work that stands beside the view
abbrev pub work_beside : List ViewNo → List ℕ → ViewNo → Option ℕ
work_beside [] works v = None
work_beside (u ∷ us) [] v = None
work_beside (u ∷ us) (w ∷ ws) v = if u.0 == v.0 then Some w else work_beside us ws v

abbrev pub either : Option ℕ → Option ℕ → Option ℕ
either None b = b
either (Some n) b = Some n

abbrev pub work_in : List Segment → ViewNo → Option ℕ
work_in [] v = None
work_in (s ∷ ss) v = either (work_beside s.views s.works v) (work_in ss v)

abbrev pub work_at : Engine → ViewNo → Option ℕ
work_at e v = work_in (segments_in e) v

-- ---- what holds

-- the kernel, if there is one, is of the graph in this direction
abbrev pub IsKernelOf : GraphData → Along → Option Kernel → Type 0
IsKernelOf graph along None = ⊤
IsKernelOf graph along (Some kernel) = IsKernel graph kernel × AreOfAll along graph kernel.rows

-- views may still be put behind those that have a segment
abbrev pub GoesOn : Engine → Type 0
GoesOn e = (e.grows ≡ true) ⊎ (e.assigned < length e.order)

-- the last segment keeps the history of the view that was stepped last in it
abbrev pub KeepsLast : Task → List Segment → Type 0
KeepsLast task [] = ⊤
KeepsLast task (s ∷ []) = KeepsHistory task s
KeepsLast task (s ∷ t ∷ ss) = KeepsLast task (t ∷ ss)

-- An engine stands for a matrix: its segments are those of the split, each holds what its views ask, and the results hold
-- the views that were stepped. Unless it is spent they hold no other. While views may still be put behind them, the last
-- segment keeps the history of the view that was stepped last in it.
pub record Stands (answer : Answer) (m : MatrixData) (e : Engine) : Type 0 where
  pub matrix : length m.live ≡ length e.graph.now.ends
  pub views : All (IsView m) e.order
  pub distinct : AreDistinct e.order
  pub segments : map (λ s. numbers s.views) (segments_in e) ≡ segments_of (task_of answer m e) e.split (take (assigned_in e) (numbers e.order))
  pub assigned : assigned_in e ≡ assigned_of e.split (length e.order) (stepped_in e)
  pub later : KeepsLater e.split (task_of answer m e) e.later (segments_in e)
  pub in_order : IsInOrder e.split (segments_in e)
  pub each : All (SegmentStands (task_of answer m e)) (segments_in e)
  pub holds : All (λ s. All (HoldsView (task_of answer m e) e.results) (take (length s.works) s.views)) (segments_in e)
  pub keeps : GoesOn e → KeepsLast (task_of answer m e) (segments_in e)
  pub only : e.spent ≡ false → (v : ViewNo) → work_at e v ≡ None → held_on e.results v ≡ None

-- a segment has a view, and no more works than views, none of them above the greatest number of nodes times that of rounds
pub record IsSound (s : Segment) : Type 0 where
  pub filled : 1 ≤ length s.views
  pub few : length s.works ≤ length s.views
  pub small : All (λ work. work ≤ 1_000_000_000_000) s.works

-- what holds of each engine, whatever it stands for
pub record IsEngine (e : Engine) : Type 0 where
  pub checked : IsChecked e.program.now e.graph.now
  pub some : 1 ≤ number_of e.rounds
  pub limit : number_of e.rounds ≤ 1_000_000
  pub few_nodes : length e.graph.now.ids ≤ 1_000_000
  pub split : AllowsSplit e.split
  pub ready : IsKernelOf e.graph.now e.program.now.along e.kernel
  pub few : length e.order ≤ 1_024
  pub assigned : e.assigned ≡ assigned_in e
  pub within : e.assigned ≤ length e.order
  pub assigned_views : views_in (segments_in e) ≡ take e.assigned e.order
  pub few_segments : length (segments_in e) ≤ e.assigned
  pub sound : All IsSound (segments_in e)
  pub few_later : e.later ≤ 4_000_000 * e.assigned
  pub nodes : e.results.nodes ≡ length e.graph.now.ids

-- ---- a turn

-- the works of the segment with this number
abbrev pub works_in : Engine → ℕ → List ℕ
works_in e k = get_or (map (λ s. s.works) (segments_in e)) k []

-- the views that were stepped, in the order of their turns, in which their answers are kept
abbrev pub turned_views : Engine → List ViewNo
turned_views e = map (λ h. h.view) e.results.held

-- the next view of the segment with this number
abbrev pub next_view : Engine → ℕ → Option ViewNo
next_view e k = option_and_then (λ s. slice_get s.views (length s.works)) (slice_get (segments_in e) k)

-- it is another state of the same run
pub record IsSameRun (old new : Engine) : Type 0 where
  pub graph : new.graph ≡ old.graph
  pub program : new.program ≡ old.program
  pub rounds : new.rounds ≡ old.rounds
  pub split : new.split ≡ old.split
  pub grows : new.grows ≡ old.grows

-- All that is told of an engine is as it was: which views it has, its segments with the views and works of each, and so the
-- segment and the work of each view. It stands for the same matrices, so the table of each view is the same, too.
pub record TellsTheSame (old new : Engine) : Type 0 where
  pub run : IsSameRun old new
  pub order : new.order ≡ old.order
  pub segments : segments_in new ≡ segments_in old
  pub segment_of : (v : ViewNo) → segment_at new v ≡ segment_at old v
  pub work : (v : ViewNo) → work_at new v ≡ work_at old v
  pub stands : (answer : Answer) (m : MatrixData) → Stands answer m old → Stands answer m new

-- The next view of this segment was stepped, and nothing else. The updater was called as often as its work says.
pub record HasMoved (k : ℕ) (old new : Engine) (calls_before calls_after : ℕ) : Type 0 where
  pub run : IsSameRun old new
  pub order : new.order ≡ old.order
  pub view : ViewNo
  pub next : next_view old k ≡ Some view
  pub turned : turned_views new ≡ turned_views old ++ (view ∷ [])
  pub work : ℕ
  pub works : works_in new k ≡ works_in old k ++ (work ∷ [])
  pub others : (i : ℕ) → i ≢ k → works_in new i ≡ works_in old i
  pub calls : calls_after ≡ calls_before + work

-- the table of a view: none where it wasn't stepped, and else the answer of the plain run on it
abbrev pub IsResult : Task → ViewNo → Option ℕ → Option Table → Type 0
IsResult task v None table = table ≡ None
IsResult task v (Some work) table = table ≡ Some (table_of (lone_of task v.0))
