-- Inside: how the next view of an order gets its segment.
use Rattle.std.specs.Prelude.{◌≡◌, ◌≤◌, ◌+◌, ℕ, min, ⊤, Bool, false, List, [], ◌∷◌, ◌++◌, length, take, map, slice_get, set, All, if◌then◌else◌, Option, Some, None, Vec}
use Rattle.std.specs.declared.alloc.Global.{Global}
use Rattle.graph_model.specs.declared.number.NodeNo.{NodeNo}
use Rattle.graph_model.specs.declared.value.Val.{Val}
use Rattle.graph_model.specs.declared.number.ViewNo.{ViewNo}
use Rattle.graph_model.specs.GraphData.{AreDistinct}
use Rattle.vertex_lang.specs.Expressions.{Answer}
use Rattle.segment_split.specs.declared.SplitRule.{SplitRule}
use Rattle.segment_split.specs.declared.SplitRule.TheVariants as split
use Rattle.segment_split.specs.declared.Counts.{Counts}
use Rattle.segment_split.specs.Rule.{starts_new}
use Rattle.view_matrix.specs.Matrices.{MatrixData, IsView}
use Rattle.view_order.specs.Greedy.{numbers}
use Rattle.result_tables.specs.Results.{Held, ResultsData, held_on}
use Rattle.round_kernel.specs.declared.kernel.Kernel.{Kernel}
use Rattle.view_segment.specs.declared.segment.Given.{Given}
use Rattle.view_segment.specs.declared.segment.Kept.{Kept}
use Rattle.view_segment.specs.declared.segment.Segment.{Segment}
use Rattle.view_segment.specs.Segments.{SegmentStands, taken_back}
use Rattle.view_segment.specs.Tasks.{Task, works_of}
use Rattle.view_engine.specs.declared.counting.Decision.{Decision}
use Rattle.view_engine.specs.declared.engine.Engine.{Engine}
use Rattle.view_engine.specs.declared.placing.Mark.{Mark}
use Rattle.view_engine.specs.Splits.{counts_of, segments_of}
use Rattle.view_engine.specs.Engines.{segments_in, task_of, work_at, last_views, KeepsLater, KeepsLast, GoesOn, IsInOrder, IsKernelOf, HoldsView, AreFinished, IsSameRun, HasMoved, works_in, stepped_in}

-- ---- a view more

-- a segment of one view, which isn't stepped
abbrev pub fresh : ViewNo → Segment
fresh v = record { views = v ∷ []; works = []; history = None; flags = None }

abbrev pub with_view : Segment → ViewNo → Segment
with_view s v = record { views = s.views ++ v ∷ []; works = s.works; history = s.history; flags = s.flags }

-- the view in a segment of its own, or at the end of the last one
abbrev pub put : Bool → List Segment → ViewNo → List Segment
put anew [] v = fresh v ∷ []
put anew (s ∷ []) v = if anew then s ∷ fresh v ∷ [] else with_view s v ∷ []
put anew (s ∷ t ∷ ss) v = s ∷ put anew (t ∷ ss) v

-- ---- what is decided

abbrev pub last_works : List Segment → List ℕ
last_works [] = []
last_works (s ∷ []) = s.works
last_works (s ∷ t ∷ ss) = last_works (t ∷ ss)

-- where the split looks at works, those of the last segment are all there, and so is what is kept of its edges
abbrev pub KnowsLast : SplitRule → Task → List Segment → ℕ → Type 0
KnowsLast split.Auto task segments later = (last_works segments ≡ works_of task (last_views segments)) × KeepsLater split.Auto task later segments
KnowsLast _ task segments later = ⊤

-- the counts are in the bounds of the rule
pub record AreSmall (later : ℕ) (c : Counts) : Type 0 where
  pub first_edges : c.first_edges ≤ 4_000_000
  pub later_edges : c.later_edges ≤ later
  pub next_edges : c.next_edges ≤ 4_000_000
  pub next_difference : c.next_difference ≤ 4_000_000

-- a new segment is decided exactly where the rule says so, and what is kept is that of the segments with the view
pub record IsDecided (task : Task) (rule : SplitRule) (segments : List Segment) (view : ViewNo) (d : Decision) : Type 0 where
  pub anew : 1 ≤ length segments → d.anew ≡ starts_new rule (counts_of task (last_views segments) view.0)
  pub later : KeepsLater rule task d.later (put d.anew segments view)

-- where the split looks at works, each view that has a segment is stepped
abbrev pub AreReadyFor : SplitRule → Engine → Type 0
AreReadyFor split.Auto e = AreFinished e
AreReadyFor _ e = ⊤

-- what holds of an engine while views of its order still want a segment
pub record SoFar (answer : Answer) (m : MatrixData) (e : Engine) : Type 0 where
  pub matrix : length m.live ≡ length e.graph.now.ends
  pub views : All (IsView m) e.order
  pub distinct : AreDistinct e.order
  pub segments : map (λ s. numbers s.views) (segments_in e) ≡ segments_of (task_of answer m e) e.split (take e.assigned (numbers e.order))
  pub later : KeepsLater e.split (task_of answer m e) e.later (segments_in e)
  pub in_order : IsInOrder e.split (segments_in e)
  pub each : All (SegmentStands (task_of answer m e)) (segments_in e)
  pub holds : All (λ s. All (HoldsView (task_of answer m e) e.results) (take (length s.works) s.views)) (segments_in e)
  pub keeps : GoesOn e → KeepsLast (task_of answer m e) (segments_in e)
  pub only : e.spent ≡ false → (v : ViewNo) → work_at e v ≡ None → held_on e.results v ≡ None

-- ---- what calls inside leave

-- so many views of the order more have a segment, and all else is as it was
pub record IsAssigned (count : ℕ) (old new : Engine) : Type 0 where
  pub run : IsSameRun old new
  pub order : new.order ≡ old.order
  pub assigned : new.assigned ≡ old.assigned + count
  pub works : (k : ℕ) → works_in new k ≡ works_in old k
  pub stepped : stepped_in new ≡ stepped_in old
  pub results : new.results ≡ old.results
  pub spent : new.spent ≡ old.spent

-- how many are assigned by now, of so many views
abbrev pub filled_to : SplitRule → (views assigned : ℕ) → ℕ
filled_to split.Auto views assigned = min views (assigned + 1)
filled_to _ views assigned = views

-- as many views have a segment as the split tells
pub record IsFilled (old new : Engine) : Type 0 where
  pub run : IsSameRun old new
  pub order : new.order ≡ old.order
  pub assigned : new.assigned ≡ filled_to old.split (length old.order) old.assigned
  pub works : (k : ℕ) → works_in new k ≡ works_in old k
  pub stepped : stepped_in new ≡ stepped_in old
  pub results : new.results ≡ old.results
  pub spent : new.spent ≡ old.spent

-- the next view of this segment was stepped, and no view got a segment
pub record HasStepped (k : ℕ) (old new : Engine) (calls_before calls_after : ℕ) : Type 0 where
  pub moved : HasMoved k old new calls_before calls_after
  pub assigned : new.assigned ≡ old.assigned
  pub spent : new.spent ≡ old.spent
  pub ready : AreReadyFor old.split new
  pub stepped : stepped_in new ≡ stepped_in old + 1

-- how the values of a view differ, as pairs of a node and its value
abbrev pub change_in : Given → List (NodeNo × Val)
change_in given = map (λ c. (c.node, c.value)) given.change

-- ---- what a refused call leaves

-- so many segments, and so many views in the last of them
pub record IsMark (ss : List Segment) (mark : Mark) : Type 0 where
  pub segments : mark.segments ≡ length ss
  pub views : mark.views ≡ length (last_views ss)

-- a segment with views put behind its own
pub record IsGrown (before s : Segment) : Type 0 where
  pub few : length before.views ≤ length s.views
  pub same : (record s { views = take (length before.views) s.views }) ≡ before

-- segments with views put behind their own: in the last of them, and in further ones
abbrev pub AreGrown : List Segment → List Segment → Type 0
AreGrown [] ts = ⊤
AreGrown (s ∷ ss) [] = ⊥
AreGrown (s ∷ []) (t ∷ ts) = IsGrown s t
AreGrown (s ∷ u ∷ ss) (t ∷ ts) = (t ≡ s) × AreGrown (u ∷ ss) ts

-- views got segments, and nothing else changed
pub record HasGrown (old new : Engine) : Type 0 where
  pub assigned : ℕ
  pub later : ℕ
  pub is : new ≡ record old { segments = new.segments; assigned = assigned; later = later }
  pub grown : (ss : List Segment) → AreGrown ss (segments_in old) → AreGrown ss (segments_in new)

-- nothing changed but where segments lie in memory
pub record HasStayed (old new : Engine) : Type 0 where
  pub same : new ≡ record old { segments = new.segments }
  pub segments : segments_in new ≡ segments_in old

-- an engine with these in place of its own
abbrev pub changed : Engine → Vec Segment Global → Option Kernel → ResultsData → Engine
changed e segments kernel results = record e { segments = segments; kernel = kernel; results = results }

-- each answer that was held is held
abbrev pub StillHolds : (old new : ResultsData) → Type 0
StillHolds old new = (v : ViewNo) (h : Held) → held_on old v ≡ Some h → held_on new v ≡ Some h

-- Nothing changed that is told: the kernel may be gone, and an answer more may be held.
pub record IsAsBefore (old new : Engine) : Type 0 where
  pub segments : Vec Segment Global
  pub kernel : Option Kernel
  pub results : ResultsData
  pub is : new ≡ changed old segments kernel results
  pub same : segments.items ≡ segments_in old
  pub ready : IsKernelOf old.graph.now old.program.now.along kernel
  pub nodes : results.nodes ≡ old.results.nodes
  pub held : StillHolds old.results results

-- the segments are what they were once the last step of this one is taken back
pub record LeadsBack (k : ℕ) (kept : Kept) (old new : Engine) : Type 0 where
  pub is : new ≡ changed old new.segments new.kernel new.results
  pub size : length (segments_in new) ≡ length (segments_in old)
  pub some : (s : Segment) → slice_get (segments_in new) k ≡ Some s → 1 ≤ length s.works
  pub back : (s : Segment) → slice_get (segments_in new) k ≡ Some s → set (segments_in new) k (taken_back s kept) ≡ segments_in old
  pub ready : IsKernelOf old.graph.now old.program.now.along new.kernel
  pub nodes : new.results.nodes ≡ old.results.nodes
  pub held : StillHolds old.results new.results
