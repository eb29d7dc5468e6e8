-- What holds of an engine each of whose views was stepped, each law as one statement, and proofs of them that the rooms above
-- can cite.
use Rattle.std.specs.Prelude.{◌≡◌, ℕ, ◌+◌, ◌<◌, zero, suc, List, [], ◌∷◌, length, map, get_or, take, All, sum_by, refl}
use Rattle.std.proofs.Common.{sym, ap, ap₂, subst, ◌∙◌, arith}
use Rattle.std.proofs.lemmas.List.{take_all, length-map}
use Rattle.std.proofs.lemmas.List.Sums.{sum_by-cons}
use Rattle.vertex_lang.specs.Expressions.{Answer}
use Rattle.view_matrix.specs.Matrices.{MatrixData}
use Rattle.view_order.specs.Greedy.{numbers}
use Rattle.segment_split.specs.declared.SplitRule.{SplitRule}
use Rattle.segment_split.specs.declared.SplitRule.TheVariants as split
use Rattle.view_segment.specs.declared.segment.Segment.{Segment}
use Rattle.view_segment.specs.Segments.{SegmentStands, IsFinished, stepped}
use Rattle.view_segment.specs.Tasks.{Task, works_of}
use Rattle.view_engine.specs.declared.engine.Engine.{Engine}
use Rattle.view_engine.specs.Engines.{Stands, AreFinished, segments_in, stepped_in, assigned_in, assigned_of, task_of}
use Rattle.view_engine.specs.Splits.{segments_of, all_works}
use Rattle.view_turns.specs.Turns.{done}

-- ---- all views were stepped

assigned_all : (rule : SplitRule) (views count : ℕ) → assigned_of rule views count ≡ count → count ≡ views
assigned_all split.Whole views count e = sym e
assigned_all (split.Every n) views count e = sym e
assigned_all split.Auto views count e = omega (arith, e)

finished_sum : (ss : List Segment) → All IsFinished ss → sum_by (λ (s : Segment). length s.works) ss ≡ sum_by (λ (s : Segment). length s.views) ss
finished_sum [] all = refl
finished_sum (s ∷ ss) all =
    let first : length s.works ≡ length s.views = all 0 s (omega arith) in
    omega (arith, first, finished_sum ss (λ i d lt. all (suc i) d (omega (arith, lt))), sum_by-cons (λ (t : Segment). length t.works) s ss, sum_by-cons (λ (t : Segment). length t.views) s ss)

-- where each segment is finished, all views of the order were stepped
abbrev pub AllAreStepped : Type 0
AllAreStepped = (answer : Answer) (m : MatrixData) (e : Engine) → Stands answer m e → AreFinished e → length e.order ≡ stepped_in e

pub all_stepped : AllAreStepped
all_stepped answer m e stands all = sym (assigned_all e.split (length e.order) (stepped_in e) (sym stands.assigned ∙ sym (finished_sum (segments_in e) all)))

-- ---- the segments and their works

-- each segment with its views and their works
abbrev pub is_worked : Task → Segment → Type 0
is_worked task s = s.works ≡ works_of task (numbers s.views)

-- Where each segment is finished, the segments are those of the split of the whole order, and each holds the works of its
-- views.
pub record AreShown (answer : Answer) (m : MatrixData) (e : Engine) : Type 0 where
  pub segments : map (λ s. numbers s.views) (segments_in e) ≡ segments_of (task_of answer m e) e.split (numbers e.order)
  pub works : All (is_worked (task_of answer m e)) (segments_in e)

abbrev pub SegmentsAreShown : Type 0
SegmentsAreShown = (answer : Answer) (m : MatrixData) (e : Engine) → Stands answer m e → AreFinished e → AreShown answer m e

one_worked : (task : Task) (s : Segment) → SegmentStands task s → IsFinished s → is_worked task s
one_worked task s stands finished =
    stands.works ∙ ap (works_of task) (take_all (length s.works) (numbers s.views) (omega (arith, finished, length-map s.views (λ v. v.0))))

pub segments_shown : SegmentsAreShown
segments_shown answer m e stands all =
    let order = numbers e.order in
    let few : length order ≡ length e.order = length-map e.order (λ v. v.0) in
    let assigned : assigned_in e ≡ length e.order = sym (finished_sum (segments_in e) all) ∙ sym (all_stepped answer m e stands all) in
    record {
      segments = stands.segments ∙ ap (segments_of (task_of answer m e) e.split) (take_all (assigned_in e) order (omega (arith, few, assigned)));
      works = λ i d lt. one_worked (task_of answer m e) (get_or (segments_in e) i d) (stands.each i d lt) (all i d lt);
    }

-- ---- what they cost together

abbrev total : List ℕ → ℕ
total ns = sum_by (λ n. n) ns

sum_of : (task : Task) (ss : List Segment) → All (is_worked task) ss → sum_by (λ (s : Segment). sum_by (λ n. n) s.works) ss ≡ all_works task (map (λ (s : Segment). numbers s.views) ss)
sum_of task [] all = refl
sum_of task (s ∷ ss) all =
    let first : s.works ≡ works_of task (numbers s.views) = all 0 s (omega arith) in
    let here : total s.works ≡ total (works_of task (numbers s.views)) = ap total first in
    omega (arith, here, sum_of task ss (λ i d lt. all (suc i) d (omega (arith, lt))), sum_by-cons (λ (t : Segment). total t.works) s ss, sum_by-cons (λ (vs : List ℕ). total (works_of task vs)) (numbers s.views) (map (λ (t : Segment). numbers t.views) ss))

-- the works of the views that were stepped are those of all views of the order
abbrev pub WorksAreAll : Type 0
WorksAreAll = (answer : Answer) (m : MatrixData) (e : Engine) → Stands answer m e → AreFinished e
    → done e ≡ all_works (task_of answer m e) (segments_of (task_of answer m e) e.split (numbers e.order))

pub works_are_all : WorksAreAll
works_are_all answer m e stands all =
    let shown = segments_shown answer m e stands all in
    sum_of (task_of answer m e) (segments_in e) shown.works ∙ ap (all_works (task_of answer m e)) shown.segments
