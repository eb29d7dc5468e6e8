-- An engine that stands for a matrix stands for each other one in which its views have the same edges.
use Rattle.std.specs.Prelude.{◌≡◌, ℕ, ◌+◌, zero, suc, ⊤, Bool, true, false, List, [], ◌∷◌, ◌++◌, length, map, get_or, take, fold, All, if◌then◌else◌, Option, Some, None, IfSome, refl}
use Rattle.std.specs.List.{range_with_len}
use Rattle.std.proofs.Common.{Vec, Global, sym, ap, ap₂, subst, ◌∙◌, arith}
use Rattle.std.proofs.lemmas.List.Elements.{All-take, All-append}
use Rattle.graph_model.specs.declared.number.EdgeNo.{EdgeNo}
use Rattle.graph_model.specs.declared.number.ViewNo.{ViewNo}
use Rattle.graph_model.specs.declared.value.Val.{Val}
use Rattle.graph_model.specs.GraphData.{GraphData}
use Rattle.vertex_lang.specs.declared.arc.Arc.{Arc}
use Rattle.vertex_lang.specs.declared.program.Program.{Program}
use Rattle.vertex_lang.specs.declared.lone.Rounds.{Rounds}
use Rattle.vertex_lang.specs.declared.lone.Lone.{Lone}
use Rattle.vertex_lang.specs.Arcs.{arcs_between}
use Rattle.vertex_lang.specs.Expressions.{Answer}
use Rattle.vertex_lang.specs.Lone.{number_of, answer_of}
use Rattle.vertex_lang.specs.Rounds.{lone}
use Rattle.lone_work.specs.Work.{work}
use Rattle.edge_predicates.specs.ViewEdges.{edge}
use Rattle.change_lists.specs.declared.history.History.{History}
use Rattle.round_kernel.specs.Histories.{IsHistory}
use Rattle.segment_split.specs.declared.SplitRule.{SplitRule}
use Rattle.segment_split.specs.declared.SplitRule.TheVariants as split
use Rattle.segment_split.specs.declared.Counts.{Counts}
use Rattle.segment_split.specs.Rule.{starts_new}
use Rattle.view_matrix.specs.Matrices.{MatrixData, IsView, edges_in, in_exactly_one, is_in}
use Rattle.result_tables.specs.Results.{ResultsData}
use Rattle.view_order.specs.Greedy.{numbers}
use Rattle.view_segment.specs.declared.segment.Segment.{Segment}
use Rattle.view_segment.specs.Segments.{KeepsHistory, SegmentStands, HistoryOf, FlagsOf, last_of, last_stepped, stepped, last_values}
use Rattle.view_segment.specs.Tasks.{Task, view_arcs, arcs_before, lone_of, work_of, works_from, works_of}
use Rattle.view_engine.specs.declared.engine.Engine.{Engine}
use Rattle.view_engine.specs.Engines.{Stands, HoldsView, KeepsLast, KeepsLater, last_views, segments_in, assigned_in}
use Rattle.view_engine.specs.Splits.{edges_before, difference, differences, first_number, later_sum, first_edges, later_edges, counts_of, with_next, segments_of}

-- ---- lists

all_first : {X : Type 0} (P : X → Type 0) (x : X) (xs : List X) → All P (x ∷ xs) → P x
all_first P x xs all = all 0 x (omega arith)

all_rest : {X : Type 0} (P : X → Type 0) (x : X) (xs : List X) → All P (x ∷ xs) → All P xs
all_rest P x xs all k d lt = all (suc k) d (omega (arith, lt))

all_cons : {X : Type 0} (P : X → Type 0) (x : X) (xs : List X) → P x → All P xs → All P (x ∷ xs)
all_cons P x xs p all zero d lt = p
all_cons P x xs p all (suc k) d lt = all k d (omega (arith, lt))

all_none : {X : Type 0} (P : X → Type 0) → All P []
all_none P k d lt = absurd (omega (arith, lt))

module _ (answer : Answer) (program : Program) (g : GraphData) (rounds : Rounds) (e f : ℕ → List EdgeNo) where
  abbrev t : Task
  t = record { answer = answer; program = program; graph = g; rounds = rounds; edges = e }

  abbrev u : Task
  u = record { answer = answer; program = program; graph = g; rounds = rounds; edges = f }

  -- the view has the same edges
  abbrev Same : ℕ → Type 0
  Same v = e v ≡ f v

  -- so has a view that may be none
  abbrev SameBefore : Option ℕ → Type 0
  SameBefore None = ⊤
  SameBefore (Some v) = Same v

  -- ---- one view

  same_arcs : (v : ℕ) → Same v → view_arcs t v ≡ view_arcs u v
  same_arcs v h = ap (arcs_between program.along g) h

  same_arcs_before : (b : Option ℕ) → SameBefore b → arcs_before t b ≡ arcs_before u b
  same_arcs_before None h = refl
  same_arcs_before (Some v) h = ap Some (same_arcs v h)

  same_work : (b : Option ℕ) (v : ℕ) → SameBefore b → Same v → work_of t b v ≡ work_of u b v
  same_work b v hb h =
      ap₂ (λ (arcs : List Arc) (before : Option (List Arc)). work answer program g arcs before (number_of rounds)) (same_arcs v h) (same_arcs_before b hb)

  same_lone : (v : ℕ) → Same v → lone_of t v ≡ lone_of u v
  same_lone v h = ap (λ (arcs : List Arc). answer_of answer program g arcs rounds) (same_arcs v h)

  same_values : (v : ℕ) → Same v → last_values t v ≡ last_values u v
  same_values v h = ap (λ (arcs : List Arc). lone answer program g arcs (number_of rounds)) (same_arcs v h)

  same_works_from : (b : Option ℕ) (vs : List ℕ) → SameBefore b → All Same vs → works_from t b vs ≡ works_from u b vs
  same_works_from b [] hb all = refl
  same_works_from b (v ∷ vs) hb all =
      ap₂ (λ (n : ℕ) (ns : List ℕ). n ∷ ns) (same_work b v hb (all_first Same v vs all)) (same_works_from (Some v) vs (all_first Same v vs all) (all_rest Same v vs all))

  same_works : (vs : List ℕ) → All Same vs → works_of t vs ≡ works_of u vs
  same_works vs all = same_works_from None vs tt all

  same_last : (vs : List ℕ) → All Same vs → SameBefore (last_of vs)
  same_last [] all = tt
  same_last (v ∷ []) all = all_first Same v [] all
  same_last (v ∷ w ∷ vs) all = same_last (w ∷ vs) (all_rest Same v (w ∷ vs) all)

  -- ---- what the split looks at

  same_before : (b : Option ℕ) → SameBefore b → edges_before t b ≡ edges_before u b
  same_before None h = refl
  same_before (Some v) h = h

  same_difference : (b : Option ℕ) (v : ℕ) → SameBefore b → Same v → difference t b v ≡ difference u b v
  same_difference b v hb h = ap₂ in_exactly_one (same_before b hb) h

  same_differences : (b : ℕ) (vs : List ℕ) → Same b → All Same vs → differences t b vs ≡ differences u b vs
  same_differences b [] hb all = refl
  same_differences b (v ∷ vs) hb all =
      ap₂ (λ (x y : ℕ). x + y) (same_difference (Some b) v hb (all_first Same v vs all)) (same_differences v vs (all_first Same v vs all) (all_rest Same v vs all))

  same_first_edges : (vs : List ℕ) → All Same vs → first_edges t vs ≡ first_edges u vs
  same_first_edges [] all = refl
  same_first_edges (v ∷ vs) all = ap (λ (es : List EdgeNo). length es) (all_first Same v vs all)

  same_later_edges : (vs : List ℕ) → All Same vs → later_edges t vs ≡ later_edges u vs
  same_later_edges [] all = refl
  same_later_edges (v ∷ vs) all = same_differences v vs (all_first Same v vs all) (all_rest Same v vs all)

  abbrev counts : ℕ → ℕ → List ℕ → ℕ → ℕ → ℕ → Counts
  counts count first works later next apart = record {
    in_segment = count;
    first_edges = first;
    first_work = first_number works;
    later_edges = later;
    later_work = later_sum works;
    next_edges = next;
    next_difference = apart;
  }

  same_counts : (vs : List ℕ) (v : ℕ) → All Same vs → Same v → counts_of t vs v ≡ counts_of u vs v
  same_counts vs v all h =
      ap (λ (k : ℕ). counts (length vs) k (works_of t vs) (later_edges t vs) (length (e v)) (difference t (last_of vs) v)) (same_first_edges vs all)
      ∙ ap (λ (ws : List ℕ). counts (length vs) (first_edges u vs) ws (later_edges t vs) (length (e v)) (difference t (last_of vs) v)) (same_works vs all)
      ∙ ap (λ (k : ℕ). counts (length vs) (first_edges u vs) (works_of u vs) k (length (e v)) (difference t (last_of vs) v)) (same_later_edges vs all)
      ∙ ap (λ (es : List EdgeNo). counts (length vs) (first_edges u vs) (works_of u vs) (later_edges u vs) (length es) (difference t (last_of vs) v)) h
      ∙ ap (λ (k : ℕ). counts (length vs) (first_edges u vs) (works_of u vs) (later_edges u vs) (length (f v)) k) (same_difference (last_of vs) v (same_last vs all) h)

  -- ---- segments

  module _ (rule : SplitRule) where
    same_next : (ss : List (List ℕ)) (v : ℕ) → All (All Same) ss → Same v → with_next t rule ss v ≡ with_next u rule ss v
    same_next [] v all h = refl
    same_next (s ∷ []) v all h =
        ap (λ (c : Counts). if starts_new rule c then s ∷ ((v ∷ []) ∷ []) else (s ++ (v ∷ [])) ∷ []) (same_counts s v (all_first (All Same) s [] all) h)
    same_next (s ∷ r ∷ ss) v all h = ap (λ (rest : List (List ℕ)). s ∷ rest) (same_next (r ∷ ss) v (all_rest (All Same) s (r ∷ ss) all) h)

    started : (s : List ℕ) (v : ℕ) (b : Bool) → All Same s → Same v → All (All Same) (if b then s ∷ ((v ∷ []) ∷ []) else (s ++ (v ∷ [])) ∷ [])
    started s v true all h = all_cons (All Same) s ((v ∷ []) ∷ []) all (all_cons (All Same) (v ∷ []) [] (all_cons Same v [] h (all_none Same)) (all_none (All Same)))
    started s v false all h = all_cons (All Same) (s ++ (v ∷ [])) [] (All-append Same s (v ∷ []) all (all_cons Same v [] h (all_none Same))) (all_none (All Same))

    next_kept : (ss : List (List ℕ)) (v : ℕ) → All (All Same) ss → Same v → All (All Same) (with_next t rule ss v)
    next_kept [] v all h = all_cons (All Same) (v ∷ []) [] (all_cons Same v [] h (all_none Same)) (all_none (All Same))
    next_kept (s ∷ []) v all h = started s v (starts_new rule (counts_of t s v)) (all_first (All Same) s [] all) h
    next_kept (s ∷ r ∷ ss) v all h = all_cons (All Same) s (with_next t rule (r ∷ ss) v) (all_first (All Same) s (r ∷ ss) all) (next_kept (r ∷ ss) v (all_rest (All Same) s (r ∷ ss) all) h)

    same_fold : (ss : List (List ℕ)) (vs : List ℕ) → All (All Same) ss → All Same vs → fold (with_next t rule) ss vs ≡ fold (with_next u rule) ss vs
    same_fold ss [] all h = refl
    same_fold ss (v ∷ vs) all h =
        same_fold (with_next t rule ss v) vs (next_kept ss v all (all_first Same v vs h)) (all_rest Same v vs h)
        ∙ ap (λ (rest : List (List ℕ)). fold (with_next u rule) rest vs) (same_next ss v all (all_first Same v vs h))

    kept_fold : (ss : List (List ℕ)) (vs : List ℕ) → All (All Same) ss → All Same vs → All (All Same) (fold (with_next t rule) ss vs)
    kept_fold ss [] all h = all
    kept_fold ss (v ∷ vs) all h = kept_fold (with_next t rule ss v) vs (next_kept ss v all (all_first Same v vs h)) (all_rest Same v vs h)

    same_segments : (vs : List ℕ) → All Same vs → segments_of t rule vs ≡ segments_of u rule vs
    unfolding segments_of
    same_segments vs h = same_fold [] vs (all_none (All Same)) h

    kept_segments : (vs : List ℕ) → All Same vs → All (All Same) (segments_of t rule vs)
    unfolding segments_of
    kept_segments vs h = kept_fold [] vs (all_none (All Same)) h

  -- ---- what a segment holds

  history_by : (b : Option ℕ) (h : Option History) → SameBefore b → HistoryOf t b h → HistoryOf u b h
  history_by None None hb is = is
  history_by None (Some x) hb is = is
  history_by (Some v) None hb is = is
  history_by (Some v) (Some x) hb is = subst (λ (arcs : List Arc). IsHistory answer program g (Some arcs) (number_of rounds) x) (same_arcs v hb) is

  flags_by : (b : Option ℕ) (kept : Option (Vec Bool Global)) → SameBefore b → IfSome kept (λ flags. FlagsOf t b flags.items) → IfSome kept (λ flags. FlagsOf u b flags.items)
  flags_by b None hb are = tt
  flags_by None (Some flags) hb are = are
  flags_by (Some v) (Some flags) hb are = are ∙ ap (λ (edges : List EdgeNo). map (λ e. is_in edges (edge e)) (range_with_len 0 (length g.ends))) hb

  same_keeps : (s : Segment) → All Same (numbers s.views) → KeepsHistory t s → KeepsHistory u s
  same_keeps s all keeps = history_by (last_stepped s) s.history (same_last (stepped s) (All-take Same (length s.works) (numbers s.views) all)) keeps

  same_kept : (ss : List Segment) → All (λ (s : Segment). All Same (numbers s.views)) ss → KeepsLast t ss → KeepsLast u ss
  same_kept [] all keeps = tt
  same_kept (s ∷ []) all keeps = same_keeps s (all_first (λ (r : Segment). All Same (numbers r.views)) s [] all) keeps
  same_kept (s ∷ r ∷ ss) all keeps = same_kept (r ∷ ss) (all_rest (λ (x : Segment). All Same (numbers x.views)) s (r ∷ ss) all) keeps

  same_stands : (s : Segment) → All Same (numbers s.views) → SegmentStands t s → SegmentStands u s
  same_stands s all stands =
      let done : All Same (stepped s) = All-take Same (length s.works) (numbers s.views) all in
      record {
        few = stands.few;
        works = stands.works ∙ same_works (stepped s) done;
        history = λ left. same_keeps s all (stands.history left);
        flags = flags_by (last_stepped s) s.flags (same_last (stepped s) done) stands.flags;
        done = stands.done;
      }

  same_holds : (results : ResultsData) (v : ViewNo) → Same v.0 → HoldsView t results v → HoldsView u results v
  same_holds results v h holds = record {
    held =
        holds.held
        ∙ ap (λ (l : Lone). Some (record { view = v; outcome = l.outcome; values = last_values t v.0 })) (same_lone v.0 h)
        ∙ ap (λ (values : List Val). Some (record { view = v; outcome = (lone_of u v.0).outcome; values = values })) (same_values v.0 h);
  }

  kept_last : (ss : List Segment) → All (λ (s : Segment). All Same (numbers s.views)) ss → All Same (last_views ss)
  kept_last [] all = all_none Same
  kept_last (s ∷ []) all = all_first (λ (r : Segment). All Same (numbers r.views)) s [] all
  kept_last (s ∷ r ∷ ss) all = kept_last (r ∷ ss) (all_rest (λ (x : Segment). All Same (numbers x.views)) s (r ∷ ss) all)

  same_later : (rule : SplitRule) (later : ℕ) (ss : List Segment) → All (λ (s : Segment). All Same (numbers s.views)) ss → KeepsLater rule t later ss → KeepsLater rule u later ss
  same_later split.Whole later ss all keeps = keeps
  same_later (split.Every n) later ss all keeps = keeps
  same_later split.Auto later ss all keeps = keeps ∙ same_later_edges (last_views ss) (kept_last ss all)

-- ---- an engine

all_mapped : {X Y : Type 0} (h : X → Y) (P : Y → Type 0) (xs : List X) → All P (map h xs) → All (λ x. P (h x)) xs
all_mapped h P [] all = all_none (λ x. P (h x))
all_mapped h P (x ∷ xs) all = all_cons (λ y. P (h y)) x xs (all_first P (h x) (map h xs) all) (all_mapped h P xs (all_rest P (h x) (map h xs) all))

-- Where an engine stands for a matrix, it stands for each other one of as many edges that has its views, with the same edges.
abbrev pub StandsByEdges : Type 0
StandsByEdges = (answer : Answer) (m other : MatrixData) (e : Engine) → length other.live ≡ length m.live → All (IsView other) e.order
    → All (λ v. edges_in m v ≡ edges_in other v) (numbers e.order) → Stands answer m e → Stands answer other e

pub stands_by_edges : StandsByEdges
stands_by_edges answer m other e live views same stands =
    let program = e.program.now in
    let g = e.graph.now in
    let f = edges_in m in
    let h = edges_in other in
    let P : ℕ → Type 0 = λ v. f v ≡ h v in
    let front : All P (take (assigned_in e) (numbers e.order)) = All-take P (assigned_in e) (numbers e.order) same in
    let in_segments : All (All P) (map (λ (s : Segment). numbers s.views) (segments_in e)) =
    subst (λ (ss : List (List ℕ)). All (All P) ss) (sym stands.segments) (kept_segments answer program g e.rounds f h e.split (take (assigned_in e) (numbers e.order)) front) in
    let each_same : All (λ (s : Segment). All P (numbers s.views)) (segments_in e) = all_mapped (λ (s : Segment). numbers s.views) (All P) (segments_in e) in_segments in
    record {
      matrix = live ∙ stands.matrix;
      views = views;
      distinct = stands.distinct;
      segments = stands.segments ∙ same_segments answer program g e.rounds f h e.split (take (assigned_in e) (numbers e.order)) front;
      assigned = stands.assigned;
      later = same_later answer program g e.rounds f h e.split e.later (segments_in e) each_same stands.later;
      in_order = stands.in_order;
      each = λ i d lt. same_stands answer program g e.rounds f h (get_or (segments_in e) i d) (each_same i d lt) (stands.each i d lt);
      holds = λ i d lt.
          let s = get_or (segments_in e) i d in
          let of_views : All (λ (v : ViewNo). P v.0) s.views = all_mapped (λ (v : ViewNo). v.0) P s.views (each_same i d lt) in
          let of_first : All (λ (v : ViewNo). P v.0) (take (length s.works) s.views) = All-take (λ (v : ViewNo). P v.0) (length s.works) s.views of_views in
          λ j x less. same_holds answer program g e.rounds f h e.results (get_or (take (length s.works) s.views) j x) (of_first j x less) (stands.holds i d lt j x less);
      keeps = λ on. same_kept answer program g e.rounds f h (segments_in e) each_same (stands.keeps on);
      only = stands.only;
    }
