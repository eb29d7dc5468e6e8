-- An engine at first, and one whose order grew.
use Rattle.std.proofs.Common.{◌≡◌, ℕ, ◌+◌, ◌≤◌, List, [], ◌++◌, length, map, take, get_or, All, Option, Some, None, refl, sym, ◌∙◌, ap, subst, arith, length-append, true, false, inl, inr}
use Rattle.std.specs.List.{sum_by}
use Rattle.graph_model.specs.declared.number.ViewNo.{ViewNo}
use Rattle.graph_model.specs.GraphData.{GraphData, AreDistinct}
use Rattle.vertex_lang.specs.declared.program.Along.{Along}
use Rattle.vertex_lang.specs.Expressions.{Answer}
use Rattle.vertex_lang.specs.Leaves.{IsChecked}
use Rattle.vertex_lang.specs.Lone.{number_of}
use Rattle.round_kernel.specs.declared.kernel.Kernel.{Kernel}
use Rattle.segment_split.specs.declared.SplitRule.{SplitRule}
use Rattle.segment_split.specs.declared.SplitRule.TheVariants as split
use Rattle.view_matrix.specs.Matrices.{MatrixData, IsView}
use Rattle.view_order.specs.Greedy.{numbers}
use Rattle.result_tables.specs.Results.{Held, ResultsData, held_on}
use Rattle.view_segment.specs.declared.segment.Segment.{Segment}
use Rattle.view_segment.specs.Segments.{IsFinished, SegmentStands}
use Rattle.view_segment.specs.Tasks.{Task}
use Rattle.view_engine.specs.declared.engine.Engine.{Engine}
use Rattle.view_engine.specs.Splits.{segments_of}
use Rattle.view_engine.specs.Engines.{segments_in, stepped_in, assigned_of, task_of, works_in, views_in, GoesOn, KeepsLast, KeepsLater, IsInOrder, HoldsView, IsKernelOf, AreFinished, AllowsSplit, IsSound, IsEngine, IsSameRun, Stands}
use Rattle.view_engine.specs.Assigning.{AreReadyFor, SoFar, IsFilled, filled_to}
use Rattle.view_engine.proofs.Assigning.{take_map, take_front}
use Rattle.view_engine.proofs.Moving.{stands_of, so_far_of}
use Rattle.view_engine.proofs.Stepping.{finished_sums}

-- ---- at first

pub none_at_all : (task : Task) (rule : SplitRule) → segments_of task rule [] ≡ []
unfolding segments_of
none_at_all task rule = refl

later_none : (rule : SplitRule) (task : Task) (later : ℕ) (ss : List Segment) → later ≡ 0 → ss ≡ [] → KeepsLater rule task later ss
later_none split.Auto task later ss none is = rw (none, is) refl
later_none split.Whole task later ss none is = tt
later_none (split.Every n) task later ss none is = tt

order_none : (rule : SplitRule) (ss : List Segment) → ss ≡ [] → IsInOrder rule ss
order_none split.Auto ss is = λ i s low at. absurd (omega (arith, low, ap length is))
order_none split.Whole ss is = tt
order_none (split.Every n) ss is = tt

ready_none : (graph : GraphData) (along : Along) (o : Option Kernel) → o ≡ None → IsKernelOf graph along o
ready_none graph along None is = tt
ready_none graph along (Some kernel) is = absurd cc

all_none : {A : Type 0} (P : A → Type 0) (xs : List A) → xs ≡ [] → All P xs
all_none P xs is k d low = absurd (omega (arith, low, ap length is))

none_keeps : (task : Task) (ss : List Segment) → ss ≡ [] → KeepsLast task ss
none_keeps task ss is = subst (λ (xs : List Segment). KeepsLast task xs) (sym is) tt

nothing_at : (k : ℕ) → get_or {A = List ℕ} [] k [] ≡ []
nothing_at k = refl

-- what a new engine holds
pub record IsFirst (e : Engine) : Type 0 where
  pub segments : segments_in e ≡ []
  pub held : e.results.held ≡ []
  pub nodes : e.results.nodes ≡ length e.graph.now.ids
  pub kernel : e.kernel ≡ None
  pub assigned : e.assigned ≡ 0
  pub later : e.later ≡ 0

module _ (e : Engine) (first : IsFirst e) where
  pub first_engine : IsChecked e.program.now e.graph.now → 1 ≤ number_of e.rounds → number_of e.rounds ≤ 1_000_000 → length e.graph.now.ids ≤ 1_000_000 → AllowsSplit e.split → length e.order ≤ 1_024 → IsEngine e
  first_engine checked some limit few_nodes split few = record {
    checked = checked;
    some = some;
    limit = limit;
    few_nodes = few_nodes;
    split = split;
    ready = ready_none e.graph.now e.program.now.along e.kernel first.kernel;
    few = few;
    assigned = first.assigned ∙ sym (ap (sum_by (λ (s : Segment). length s.views)) first.segments);
    within = omega (arith, first.assigned);
    assigned_views = ap views_in first.segments ∙ sym (ap (λ (n : ℕ). take n e.order) first.assigned);
    few_segments = omega (arith, ap length first.segments);
    sound = all_none IsSound (segments_in e) first.segments;
    few_later = omega (arith, first.later);
    nodes = first.nodes;
  }

  pub first_so_far : (answer : Answer) (m : MatrixData) → length m.live ≡ length e.graph.now.ends → All (IsView m) e.order → AreDistinct e.order → SoFar answer m e
  first_so_far answer m matrix views distinct = record {
    matrix = matrix;
    views = views;
    distinct = distinct;
    segments =
        ap (map (λ (s : Segment). numbers s.views)) first.segments ∙ sym (none_at_all (task_of answer m e) e.split)
        ∙ sym (ap (λ (n : ℕ). segments_of (task_of answer m e) e.split (take n (numbers e.order))) first.assigned);
    later = later_none e.split (task_of answer m e) e.later (segments_in e) first.later first.segments;
    in_order = order_none e.split (segments_in e) first.segments;
    each = all_none (SegmentStands (task_of answer m e)) (segments_in e) first.segments;
    holds = all_none (λ s. All (HoldsView (task_of answer m e) e.results) (take (length s.works) s.views)) (segments_in e) first.segments;
    keeps = λ on. none_keeps (task_of answer m e) (segments_in e) first.segments;
    only = λ fresh v none. ap (λ (hs : List Held). let r : ResultsData = record { nodes = e.results.nodes; held = hs } in held_on r v) first.held;
  }

  pub first_finished : AreFinished e
  first_finished = all_none IsFinished (segments_in e) first.segments

  pub first_ready : (rule : SplitRule) → AreReadyFor rule e
  first_ready split.Auto = first_finished
  first_ready split.Whole = tt
  first_ready (split.Every n) = tt

  pub first_stepped : stepped_in e ≡ 0
  first_stepped = ap (sum_by (λ (s : Segment). length s.works)) first.segments

  pub first_works : (k : ℕ) → works_in e k ≡ []
  first_works k = ap (λ (ss : List Segment). get_or (map (λ (s : Segment). s.works) ss) k []) first.segments ∙ nothing_at k

-- ---- where each view is stepped, all have a segment by now once the next ones have theirs

filled_after : (rule : SplitRule) (views old new stepped : ℕ) → old ≡ stepped → new ≡ filled_to rule views old → new ≡ assigned_of rule views stepped
filled_after split.Auto views old new stepped was is = omega (arith, was, is)
filled_after split.Whole views old new stepped was is = is
filled_after (split.Every n) views old new stepped was is = is

-- the engine behind it stands, if it stood so far
module _ (old new : Engine) (filled : IsFilled old new) (engine : IsEngine new) (all : old.assigned ≡ stepped_in old) where
  same_assigned : assigned_of old.split (length old.order) (stepped_in old) ≡ assigned_of new.split (length new.order) (stepped_in new)
  same_assigned = rw (filled.run.split, filled.order, filled.stepped) refl

  pub by_now : new.assigned ≡ assigned_of new.split (length new.order) (stepped_in new)
  by_now = filled_after old.split (length old.order) old.assigned new.assigned (stepped_in old) all filled.assigned ∙ same_assigned

-- ---- an order that grew

abbrev pub longer : Engine → List ViewNo → Engine
longer e views = record e { order = e.order ++ views }

module _ (e : Engine) (views : List ViewNo) where
  same_taken : IsEngine e → take e.assigned (e.order ++ views) ≡ take e.assigned e.order
  same_taken engine = take_front e.assigned e.order views engine.within

  pub engine_longer : IsEngine e → length e.order + length views ≤ 1_024 → IsEngine (longer e views)
  engine_longer engine few = record {
    checked = engine.checked;
    some = engine.some;
    limit = engine.limit;
    few_nodes = engine.few_nodes;
    split = engine.split;
    ready = engine.ready;
    few = omega (arith, few, length-append e.order views);
    assigned = engine.assigned;
    within = omega (arith, engine.within, length-append e.order views);
    assigned_views = engine.assigned_views ∙ sym (same_taken engine);
    few_segments = engine.few_segments;
    sound = engine.sound;
    few_later = engine.few_later;
    nodes = engine.nodes;
  }

  pub so_far_longer : (answer : Answer) (m : MatrixData) → IsEngine e → e.grows ≡ true → All (IsView m) (e.order ++ views) → AreDistinct (e.order ++ views) → Stands answer m e → SoFar answer m (longer e views)
  so_far_longer answer m engine grows are distinct stands =
      let so_far = so_far_of answer m e engine stands in
      record {
        matrix = so_far.matrix;
        views = are;
        distinct = distinct;
        segments =
            so_far.segments
            ∙ ap (segments_of (task_of answer m e) e.split)
            (take_map (λ (v : ViewNo). v.0) e.assigned e.order ∙ sym (ap (map (λ (v : ViewNo). v.0)) (same_taken engine)) ∙ sym (take_map (λ (v : ViewNo). v.0) e.assigned (e.order ++ views)));
        later = so_far.later;
        in_order = so_far.in_order;
        each = so_far.each;
        holds = so_far.holds;
        keeps = λ on. stands.keeps (inl grows);
        only = so_far.only;
      }

  pub all_assigned : IsEngine e → AreFinished e → e.assigned ≡ stepped_in e
  all_assigned engine finished = engine.assigned ∙ sym (finished_sums (segments_in e) finished)

pub ready_by_finished : (e : Engine) (o : List ViewNo) → AreFinished e → (rule : SplitRule) → AreReadyFor rule (record e { order = o })
ready_by_finished e o finished split.Auto = finished
ready_by_finished e o finished split.Whole = tt
ready_by_finished e o finished (split.Every n) = tt

-- what an engine whose order grew is once views got their segments
module _ (e : Engine) (views o : List ViewNo) (is : o ≡ e.order ++ views) (e2 : Engine) (filled : IsFilled (record e { order = o }) e2) where
  pub run_added : IsSameRun e e2
  run_added = record { graph = filled.run.graph; program = filled.run.program; rounds = filled.run.rounds; split = filled.run.split; grows = filled.run.grows }

  pub stands_added : (m : MatrixData) → IsEngine e → e.grows ≡ true → AreFinished e → All (IsView m) (e.order ++ views) → AreDistinct (e.order ++ views) → IsEngine e2
      → ((answer : Answer) → AreReadyFor e.split (record e { order = o }) → SoFar answer m (record e { order = o }) → SoFar answer m e2)
      → (answer : Answer) → Stands answer m e → Stands answer m e2
  stands_added m engine grows finished all distinct behind so_far answer stands =
      stands_of answer m e2 behind (by_now (record e { order = o }) e2 filled behind (all_assigned e views engine finished))
      (so_far answer (ready_by_finished e o finished e.split)
      (subst (λ (l : List ViewNo). SoFar answer m (record e { order = l })) (sym is) (so_far_longer e views answer m engine grows all distinct stands)))

pub engine_added : (e : Engine) (views o : List ViewNo) → o ≡ e.order ++ views → IsEngine e → length e.order + length views ≤ 1_024 → IsEngine (record e { order = o })
engine_added e views o is engine few = subst (λ (l : List ViewNo). IsEngine (record e { order = l })) (sym is) (engine_longer e views engine few)

-- ---- an engine that is closed

goes_still : (e : Engine) → GoesOn (record e { grows = false }) → GoesOn e
goes_still e (inl never) = absurd cc
goes_still e (inr left) = inr left

pub closed_stands : (answer : Answer) (m : MatrixData) (e : Engine) → Stands answer m e → Stands answer m (record e { grows = false })
closed_stands answer m e is = record {
  matrix = is.matrix;
  views = is.views;
  distinct = is.distinct;
  segments = is.segments;
  assigned = is.assigned;
  later = is.later;
  in_order = is.in_order;
  each = is.each;
  holds = is.holds;
  keeps = λ on. is.keeps (goes_still e on);
  only = is.only;
}
