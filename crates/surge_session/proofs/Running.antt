-- What an engine that has run the views of a collection tells.
use Rattle.std.proofs.Common.{◌≡◌, ◌∙◌, ◌+◌, ◌-◌, ◌<◌, ◌≤◌, ℕ, zero, suc, List, [], ◌∷◌, ◌++◌, length, map, take, get_or, All, Option, Some, None, append-nil, append_assoc, refl, sym, ap, ap₂, subst, arith}
use Rattle.std.proofs.lemmas.List.Elements.{All-take}
use Rattle.std.specs.Prelude.{sum_by, ◌==◌, if◌then◌else◌}
use Rattle.std.proofs.lemmas.List.Sums.{sum_by-cons}
use mathlib.Core.Path.{fun_ext}
use Rattle.std.specs.List.{range_with_len, last_or}
use Rattle.graph_model.specs.declared.number.EdgeNo.{EdgeNo}
use Rattle.graph_model.specs.declared.number.ViewNo.{ViewNo}
use Rattle.graph_model.specs.GraphData.{GraphData}
use Rattle.vertex_lang.specs.Expressions.{Answer}
use Rattle.vertex_lang.specs.declared.program.Program.{Program}
use Rattle.vertex_lang.specs.declared.lone.Rounds.{Rounds}
use Rattle.segment_split.specs.declared.SplitRule.{SplitRule}
use Rattle.gvdl_check.specs.declared.plan.ViewPlan.{ViewPlan}
use Rattle.gvdl_check.specs.declared.plan.RunPlan.{RunPlan}
use Rattle.view_matrix.specs.Matrices.{MatrixData, edges_in, distance_of}
use Rattle.view_order.specs.Greedy.{numbers}
use Rattle.view_segment.specs.declared.segment.Segment.{Segment}
use Rattle.view_segment.specs.Tasks.{Task, task_over, works_of}
use Rattle.view_engine.specs.declared.engine.Engine.{Engine}
use Rattle.view_engine.specs.Engines.{segments_in, views_in, works_in, task_of}
use Rattle.view_engine.specs.Splits.{segments_of, all_works}
use Rattle.view_turns.specs.Turns.{done}
use Rattle.view_turns.specs.Laws.{is_worked, segments_shown, works_are_all}
use Rattle.surge_session.specs.Live.{LiveGraph}
use Rattle.surge_session.specs.Output.{edges_at, difference, begun_in, in_order, first_order, longer_order, run_task, segment_lines, work_line, work_lines}
use Rattle.surge_session.specs.State.{rules_of, ShowsLive, Shows, HasRun}
use Rattle.surge_session.specs.WorkLines.{lines_of}
use Rattle.surge_session.specs.Works.{own_runs}
use Rattle.phase_runs.specs.Answers as matrix_runs
use Rattle.surge_session.proofs.Keeping.{all_left, all_right}
use Rattle.surge_session.proofs.Ordering.{edges_here, same_distances}
use Rattle.surge_session.proofs.ViewEdges.{as_many, shown_from}

module _ (w : LiveGraph) (m : MatrixData) (views : List ViewPlan) (count : length w.live ≡ length w.graph.ends) (shows : ShowsLive w (rules_of views) m) where
  all_shown : Shows w m 0 views
  all_shown = shown_from w views m 0 count shows

  as_views : length m.columns ≡ length views
  as_views = as_many w views m shows

  pub distances : distance_of m ≡ difference w views
  distances = same_distances w m views all_shown as_views

  -- the order of all views, and of those that are added
  pub first_is : (run : RunPlan) → begun_in run.order (distance_of m) (range_with_len 0 (length m.columns)) ≡ first_order w run views
  first_is run = ap₂ (λ (d : Option ℕ → ℕ → ℕ) (k : ℕ). begun_in run.order d (range_with_len 0 k)) distances as_views

  pub longer_is : (run : RunPlan) (before : List ℕ) (first : ℕ) → before ++ in_order run.order (distance_of m) (last_or None before) (range_with_len first (length m.columns - first)) ≡ longer_order w run views before first
  longer_is run before first = ap₂ (λ (d : Option ℕ → ℕ → ℕ) (k : ℕ). before ++ in_order run.order d (last_or None before) (range_with_len first (k - first))) distances as_views

  same_edges : edges_in m ≡ (λ v. edges_at w views (Some v))
  same_edges = fun_ext (λ v. edges_here w m views all_shown as_views v)

  -- for how many views in phases a run is made
  own_same : (before : Option ℕ) (vs : List ViewNo) → matrix_runs.own_runs m before vs ≡ own_runs w views before (numbers vs)
  own_same None [] = refl
  own_same (Some u) [] = refl
  own_same None (v ∷ vs) = ap (λ (k : ℕ). 1 + k) (own_same (Some v.0) vs)
  own_same (Some u) (v ∷ vs) =
      ap₂ (λ (d : Option ℕ → ℕ → ℕ) (k : ℕ). (if d (Some u) v.0 == 0 then 0 else 1) + k) distances (own_same (Some v.0) vs)

  pub own_is : (vs : List ViewNo) → matrix_runs.own_runs m None vs ≡ own_runs w views None (numbers vs)
  own_is vs = own_same None vs

  -- what a run asks for, over the matrix and over the views
  pub over_is : (answer : Answer) (run : RunPlan) → task_over answer run.program w.graph run.rounds m ≡ run_task answer w run views
  over_is answer run = ap (λ (edges : ℕ → List EdgeNo). let t : Task = record { answer = answer; program = run.program; graph = w.graph; rounds = run.rounds; edges = edges } in t) same_edges

  module _ (answer : Answer) (run : RunPlan) (order : List ℕ) (e : Engine) (has : HasRun answer w.graph run m order e) where
    abbrev task : Program → GraphData → Rounds → (ℕ → List EdgeNo) → Task
    task program graph rounds edges = record { answer = answer; program = program; graph = graph; rounds = rounds; edges = edges }

    pub task_is : task_of answer m e ≡ run_task answer w run views
    task_is =
        ap (λ (x : Program). task x e.graph.now e.rounds (edges_in m)) has.is.program
        ∙ ap (λ (x : GraphData). task run.program x e.rounds (edges_in m)) has.is.graph
        ∙ ap (λ (x : Rounds). task run.program w.graph x (edges_in m)) has.is.rounds
        ∙ ap (λ (x : ℕ → List EdgeNo). task run.program w.graph run.rounds x) same_edges

    segments_are : segments_of (task_of answer m e) e.split (numbers e.order) ≡ segments_of (run_task answer w run views) run.split order
    segments_are =
        ap (λ (x : Task). segments_of x e.split (numbers e.order)) task_is
        ∙ ap (λ (x : SplitRule). segments_of (run_task answer w run views) x (numbers e.order)) has.is.split
        ∙ ap (λ (x : List ℕ). segments_of (run_task answer w run views) run.split x) has.is.order

    -- the works of all its views
    pub done_is : done e ≡ all_works (run_task answer w run views) (segments_of (run_task answer w run views) run.split order)
    done_is = works_are_all answer m e has.is.stands has.finished ∙ ap₂ all_works task_is segments_are

    lines_by : (t : Task) (k : ℕ) (ss : List Segment) → All (is_worked t) ss → lines_of views k ss ≡ work_lines t views k (map (λ (s : Segment). numbers s.views) ss)
    lines_by t k [] all = refl
    lines_by t k (s ∷ ss) all =
        let first : s.works ≡ works_of t (numbers s.views) = all 0 s (omega arith) in
        ap₂ (λ (works rest : List ℕ). segment_lines views k (numbers s.views) works ++ rest) first (lines_by t (k + 1) ss (λ i d lt. all (suc i) d (omega (arith, lt))))

    -- the lines of its segments
    pub lines_are : lines_of views 1 (segments_in e) ≡ work_lines (run_task answer w run views) views 1 (segments_of (run_task answer w run views) run.split order)
    lines_are =
        let shown = segments_shown answer m e has.is.stands has.finished in
        lines_by (task_of answer m e) 1 (segments_in e) shown.works
        ∙ ap₂ (λ (t : Task) (ss : List (List ℕ)). work_lines t views 1 ss) task_is (shown.segments ∙ segments_are)

-- ---- the works that were done

abbrev total : Segment → ℕ
total s = sum_by (λ n. n) s.works

abbrev worked : List Segment → List (List ℕ)
worked ss = map (λ (s : Segment). s.works) ss

no_works : (s : Segment) → s.works ≡ [] → total s ≡ 0
no_works s e = ap (λ (ns : List ℕ). sum_by (λ n. n) ns) e

same_sum : (xs ys : List Segment) → ((k : ℕ) → get_or (worked ys) k [] ≡ get_or (worked xs) k []) → sum_by total ys ≡ sum_by total xs
same_sum [] [] h = refl
same_sum [] (y ∷ ys) h =
    let e : sum_by total ys ≡ sum_by total [] = same_sum [] ys (λ k. h (suc k)) in
    let r : sum_by total (y ∷ ys) ≡ 0 = omega (arith, e, no_works y (h 0), sum_by-cons total y ys) in r
same_sum (x ∷ xs) [] h =
    let e : sum_by total [] ≡ sum_by total xs = same_sum xs [] (λ k. h (suc k)) in
    let r : 0 ≡ sum_by total (x ∷ xs) = omega (arith, e, no_works x (sym (h 0)), sum_by-cons total x xs) in r
same_sum (x ∷ xs) (y ∷ ys) h =
    let first : total y ≡ total x = ap (λ (ns : List ℕ). sum_by (λ n. n) ns) (h 0) in
    omega (arith, first, same_sum xs ys (λ k. h (suc k)), sum_by-cons total x xs, sum_by-cons total y ys)

-- engines with the same works have done as much
pub same_done : (old new : Engine) → ((k : ℕ) → works_in new k ≡ works_in old k) → done new ≡ done old
same_done old new h = same_sum (segments_in old) (segments_in new) h

pub nothing_done : (e : Engine) → ((k : ℕ) → works_in e k ≡ []) → done e ≡ 0
nothing_done e h = same_sum [] (segments_in e) h

views_each : (P : ViewNo → Type 0) (ss : List Segment) → All P (views_in ss) → All (λ (s : Segment). All P s.views) ss
views_each P [] all = λ i d lt. absurd (omega (arith, lt))
views_each P (s ∷ ss) all = all_here (λ (t : Segment). All P t.views) s ss (all_left P s.views (views_in ss) all) (views_each P ss (all_right P s.views (views_in ss) all)) where
  all_here : {X : Type 0} (Q : X → Type 0) (x : X) (xs : List X) → Q x → All Q xs → All Q (x ∷ xs)
  all_here Q x xs q rest zero d lt = q
  all_here Q x xs q rest (suc i) d lt = rest i d (omega (arith, lt))

-- what holds of each view of the order holds of the views of each segment
pub in_segments : (P : ViewNo → Type 0) (e : Engine) → views_in (segments_in e) ≡ take e.assigned e.order → All P e.order → All (λ (s : Segment). All P s.views) (segments_in e)
in_segments P e is all = views_each P (segments_in e) (subst (λ (vs : List ViewNo). All P vs) (sym is) (All-take P e.assigned e.order all))

-- ---- lines of views and of segments

abbrev at : List ℕ → ℕ → ℕ
at ns i = get_or ns i 0

pub line_added : (views : List ViewPlan) (k : ℕ) (vs ws : List ℕ) (w : ℕ) → length ws < length vs → segment_lines views k vs (ws ++ w ∷ []) ≡ segment_lines views k vs ws ++ work_line views k (at vs (length ws)) w
line_added views k [] ws w lt = absurd (omega (arith, lt))
line_added views k (v ∷ []) [] w lt = append-nil (work_line views k v w)
line_added views k (v ∷ u ∷ us) [] w lt = append-nil (work_line views k v w)
line_added views k (v ∷ vs) (x ∷ ws) w lt =
    ap (λ (t : List ℕ). work_line views k v x ++ t) (line_added views k vs ws w (omega (arith, lt))) ∙ sym (append_assoc (work_line views k v x) (segment_lines views k vs ws) (work_line views k (at vs (length ws)) w))

pub segment_added : (views : List ViewPlan) (k : ℕ) (ss : List Segment) (s : Segment) → lines_of views k (ss ++ s ∷ []) ≡ lines_of views k ss ++ segment_lines views (k + length ss) (numbers s.views) s.works
segment_added views k [] s = append-nil (segment_lines views k (numbers s.views) s.works) ∙ ap (λ (j : ℕ). segment_lines views j (numbers s.views) s.works) (let e : k ≡ k + 0 = omega arith in e)
segment_added views k (t ∷ ts) s =
    ap (λ (x : List ℕ). segment_lines views k (numbers t.views) t.works ++ x) (segment_added views (k + 1) ts s ∙ ap (λ (j : ℕ). lines_of views (k + 1) ts ++ segment_lines views j (numbers s.views) s.works) (let e : k + 1 + length ts ≡ k + suc (length ts) = omega arith in e))
    ∙ sym (append_assoc (segment_lines views k (numbers t.views) t.works) (lines_of views (k + 1) ts) (segment_lines views (k + suc (length ts)) (numbers s.views) s.works))
