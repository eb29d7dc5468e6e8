-- A plan that is continued prints what it printed, and more, also where the further statements bring edges to the graph.
use Rattle.std.proofs.Common.{◌≡◌, ◌∙◌, ◌+◌, ◌-◌, ◌<◌, ◌≤◌, ℕ, zero, suc, List, [], ◌∷◌, ◌++◌, length, take, drop, map, get_or, Option, Some, None, slice_get, refl, sym, ap, ap₂, subst, arith, flat_map, add-one, length-append}
use Rattle.std.specs.Prelude.{sum_by, All, ◌==◌, ◌&&◌, nat_lt, if◌then◌else◌, option_map}
use Rattle.std.specs.List.{range_with_len}
use Rattle.std.proofs.Math.Seq.{take-add}
use Rattle.std.proofs.lemmas.List.{take-append-le, length-map, map-append}
use Rattle.std.proofs.lemmas.List.Elements.{All-append}
use Rattle.std.proofs.lemmas.List.FromFn.{length-range_with_len, get_or-range_with_len}
use Rattle.std.proofs.lemmas.List.Sums.{sum_by-append}
use Rattle.std.proofs.lemmas.Grind.{flat_map-append}
use Rattle.std.proofs.lemmas.Option.{slice_get-map, slice_get_within, get_or_from_slice_get}
use Rattle.graph_model.specs.GraphData.{GraphData}
use Rattle.vertex_lang.specs.declared.program.Program.{Program}
use Rattle.vertex_lang.specs.declared.lone.Rounds.{Rounds}
use Rattle.vertex_lang.specs.Expressions.{Answer}
use Rattle.aggregate_views.specs.Rows.{HasSumColumn}
use Rattle.gvdl_tree.specs.declared.script.Call.{Call}
use Rattle.gvdl_check.specs.declared.plan.ViewPlan.{ViewPlan}
use Rattle.gvdl_check.specs.declared.plan.CollectionPlan.{CollectionPlan}
use Rattle.gvdl_check.specs.declared.plan.RunPlan.{RunPlan}
use Rattle.gvdl_check.specs.declared.plan.Step.{Step}
use Rattle.gvdl_check.specs.declared.plan.Step.TheVariants as step
use Rattle.gvdl_check.specs.declared.plan.Plan.{Plan}
use Rattle.gvdl_check.specs.Known.{collection_plan}
use Rattle.gvdl_check.specs.Steps.{gives, runs, views_at, runs_at, StepFits}
use Rattle.gvdl_check.specs.Fits.{RunFits, SumFits, ColumnsFit, PlanFits}
use Rattle.gvdl_check.specs.Continued.{IsFront, GrowsTo, Continues, unmarked}
use Rattle.grown_graphs.specs.Growing.{GrowsTo as GraphGrows}
use Rattle.result_tables.specs.declared.form.Form.{Form}
use Rattle.view_engine.specs.Splits.{segments_of}
use Rattle.surge_session.specs.Live.{LiveGraph, graph_at, live_at}
use Rattle.surge_session.specs.Aggregates.{aggregate_text}
use Rattle.surge_session.specs.Output.{list_of, view_shown, tables_in, tables_text, order_text, tree_text, views_before, views_added, made_at, kept_as, keeps, kept_at, first_order, longer_order, order_after, order_at, run_task, task_at, segments_at, named_work, run_text, kept_text, edit_text, work_text, shown_in, text_of, step_text, plan_text}
use Rattle.surge_session.specs.Continuing.{Runs, IsAgain, NoneBetween, KeepsTexts}
use Rattle.surge_session.proofs.Blocks.{more_tables}
use Rattle.surge_session.proofs.GrownViews.{HasGrown, same_tables, same_first, same_longer, same_order_text, same_tree_text, same_aggregates}
use Rattle.surge_session.proofs.GrownLive.{has_grown, all_passed}
use Rattle.surge_session.proofs.GrownWork.{same_named_work}
use Rattle.surge_session.proofs.LiveFacts.{live_passed}
use Rattle.surge_session.proofs.Places.{kept_more, made_with}
use Rattle.surge_session.proofs.Texts.{at_place, found, any_default, range-add, run_with, append_with, step_is, run_step_is}

no_collection : CollectionPlan
no_collection = record { name = []; views = [] }

-- ---- what a statement names is there

abbrev StepKnows : Plan → Step → Type 0
StepKnows p (step.Run place) = place < length p.runs
StepKnows p (step.Append place first count) = place < length p.collections
StepKnows p (step.ShowOrder place) = place < length p.collections
StepKnows p (step.ShowWork place) = place < length p.runs
StepKnows p (step.ShowTree place) = place < length p.collections
StepKnows p (step.Aggregate place by sum) = place < length p.collections
StepKnows p _ = Unit {0}

knows : (p : Plan) (n : ℕ) (s : Step) → StepFits p n s → StepKnows p s
knows p n step.Nothing h = tt
knows p n (step.Make place count) h = tt
knows p n (step.Run place) h = h.1
knows p n (step.Append place first count) h = h.1
knows p n (step.ShowOrder place) h = h.1
knows p n (step.ShowWork place) h = h.1
knows p n (step.ShowTree place) h = h.1
knows p n (step.Insert first count) h = tt
knows p n (step.Remove rule) h = tt
knows p n (step.Aggregate place by sum) h = h.1

-- the column that is summed is one of the edges
summed : (g : GraphData) (sum : Option ℕ) → SumFits g sum → HasSumColumn g sum
summed g None h = tt
summed g (Some column) h = slice_get_within g.edge_columns column h.0 h.1

-- a collection has no more views at a statement than in all
views_there : (g : GraphData) (p : Plan) → PlanFits g p → (n place : ℕ) (c : CollectionPlan) → slice_get p.collections place ≡ Some c → views_at p n place ≤ length c.views
views_there g p fits n place c at =
    let is : get_or p.collections place (collection_plan [] []) ≡ c = get_or_from_slice_get p.collections place c (collection_plan [] []) at in
    subst (λ (d : CollectionPlan). views_at p n place ≤ length d.views) is (fits.views n place)

-- ---- lists

got_front : {X : Type 0} (xs more : List X) (i : ℕ) → i < length xs → slice_get (xs ++ more) i ≡ slice_get xs i
got_front [] more i lt = absurd (omega arith)
got_front (x ∷ xs) more zero lt = refl
got_front (x ∷ xs) more (suc i) lt = got_front xs more i (omega arith)

got : {X : Type 0} (xs : List X) (i : ℕ) (d : X) → i < length xs → slice_get xs i ≡ Some (get_or xs i d)
got xs i d lt = found xs xs i (get_or xs i d) refl lt (any_default xs i d (get_or xs i d) lt)

-- pieces that are the same one by one are the same together
same_pieces : {X : Type 0} (f h : X → List ℕ) (xs : List X) → All (λ x. f x ≡ h x) xs → flat_map f xs ≡ flat_map h xs
same_pieces f h [] all = refl
same_pieces {X} f h (x ∷ xs) all = ap₂ (λ (a b : List ℕ). a ++ b) (all 0 x (omega arith)) (same_pieces f h xs (λ k d lt. all (suc k) d (omega arith)))

-- a front of what comes first
front_of_front : {X : Type 0} (xs more : List X) (a b : ℕ) → a ≤ b → a ≤ length xs → take b (xs ++ more) ≡ take a xs ++ take (b - a) (drop a (xs ++ more))
front_of_front {X} xs more a b le few =
    let whole : a + (b - a) ≡ b = omega arith in
    ap (λ (k : ℕ). take k (xs ++ more)) (sym whole) ∙ take-add a (b - a) (xs ++ more) ∙ ap (λ (ys : List X). ys ++ take (b - a) (drop a (xs ++ more))) (take-append-le a xs more few)

-- ---- whether or not a run is told to be edited

-- what doesn't look whether a run is told to be edited finds the same
unmarked_same : {X : Type 0} (f : RunPlan → List X) → ((run : RunPlan) → f run ≡ f (unmarked run)) → (rs : List RunPlan) (place : ℕ) → list_of f (slice_get rs place) ≡ list_of f (slice_get (map unmarked rs) place)
unmarked_same f blind [] place = refl
unmarked_same f blind (run ∷ rs) zero = blind run
unmarked_same f blind (run ∷ rs) (suc place) = unmarked_same f blind rs place

unmarked_order : (g : GraphData) (p : Plan) (run : RunPlan) (place n : ℕ) → order_at g p run place n ≡ order_at g p (unmarked run) place n
unfolding order_at
unmarked_order g p run place zero = refl
unmarked_order g p run place (suc n) = ap (λ (before : List ℕ). order_after g p run place n before (slice_get p.steps n)) (unmarked_order g p run place n)

-- ---- a run that is made again

-- two runs of the same call and program for the same rounds and phases on the same collection
record IsSameRun (first second : RunPlan) : Type 0 where
  collection : second.collection ≡ first.collection
  call : second.call ≡ first.call
  program : second.program ≡ first.program
  rounds : second.rounds ≡ first.rounds
  phases : second.phases ≡ first.phases

-- what a run prints, by its call, its program, its rounds and its phases
abbrev printed : Answer → Form → LiveGraph → RunPlan → List ℕ → List ViewPlan → Call → Program → Rounds → Option ℕ → List ℕ
printed answer form w run name views call program rounds phases = tables_text answer form w (record run { call = call; program = program; rounds = rounds; phases = phases }) name views

made_again : (answer : Answer) (form : Form) (w : LiveGraph) (first second : RunPlan) (name : List ℕ) (views : List ViewPlan) → IsSameRun first second → tables_text answer form w second name views ≡ tables_text answer form w first name views
made_again answer form w first second name views same =
    ap (λ (c : Call). printed answer form w first name views c second.program second.rounds second.phases) same.call
    ∙ ap (λ (p : Program). printed answer form w first name views first.call p second.rounds second.phases) same.program
    ∙ ap (λ (r : Rounds). printed answer form w first name views first.call first.program r second.phases) same.rounds
    ∙ ap (λ (m : Option ℕ). printed answer form w first name views first.call first.program first.rounds m) same.phases

-- ---- a plan and one that continues it, over a graph that has more edges

module _ (answer : Answer) (form : Form) (g h : GraphData) (p q : Plan) (fits : PlanFits g p) (grows_to : GraphGrows g h) (more : Continues p q) where
  same_steps : (n : ℕ) → n ≤ length p.steps → take n q.steps ≡ take n p.steps
  same_steps n le = ap (λ (ss : List Step). take n ss) more.steps.1 ∙ take-append-le n p.steps more.steps.0 le

  same_count : (n place : ℕ) → n ≤ length p.steps → views_at q n place ≡ views_at p n place
  same_count n place le = ap (sum_by (gives place)) (same_steps n le)

  same_place : (n : ℕ) → n < length p.steps → slice_get q.steps n ≡ slice_get p.steps n
  same_place n lt = ap (λ (ss : List Step). slice_get ss n) more.steps.1 ∙ got_front p.steps more.steps.0 n lt

  step_at : (n : ℕ) → n < length p.steps → slice_get p.steps n ≡ Some (get_or p.steps n step.Nothing)
  step_at n lt = got p.steps n step.Nothing lt

  step_after : (n : ℕ) → n < length p.steps → slice_get q.steps n ≡ Some (get_or p.steps n step.Nothing)
  step_after n lt = same_place n lt ∙ step_at n lt

  known : (n : ℕ) → n < length p.steps → StepKnows p (get_or p.steps n step.Nothing)
  known n lt = knows p n (get_or p.steps n step.Nothing) (fits.steps n lt)

  -- the graph before a step that both plans have
  grown : (n : ℕ) → n ≤ length p.steps → HasGrown (graph_at g p n) (graph_at h q n)
  grown n le = has_grown g h p q fits grows_to more.loaded same_place n le

  -- ---- runs

  mapped : (place : ℕ) → place < length p.runs → slice_get (map unmarked q.runs) place ≡ slice_get (map unmarked p.runs) place
  mapped place lt = ap (λ (rs : List RunPlan). slice_get rs place) more.runs.1 ∙ got_front (map unmarked p.runs) more.runs.0 place (omega (arith, lt, length-map p.runs unmarked))

  -- what doesn't look whether a run is told to be edited finds the same of both plans
  same_of : {X : Type 0} (f : RunPlan → List X) → ((run : RunPlan) → f run ≡ f (unmarked run)) → (place : ℕ) → place < length p.runs → list_of f (slice_get q.runs place) ≡ list_of f (slice_get p.runs place)
  same_of f blind place lt = unmarked_same f blind q.runs place ∙ ap (list_of f) (mapped place lt) ∙ sym (unmarked_same f blind p.runs place)

  -- the run with this place, as the longer plan has it
  run_after : (place : ℕ) (run : RunPlan) → slice_get p.runs place ≡ Some run → (later : RunPlan) × (slice_get q.runs place ≡ Some later) × (unmarked later ≡ unmarked run)
  run_after place run at =
      let lt : place < length p.runs = slice_get_within p.runs place run at in
      let count : length (map unmarked q.runs) ≡ length (map unmarked p.runs) + length more.runs.0 = ap (λ (rs : List RunPlan). length rs) more.runs.1 ∙ length-append (map unmarked p.runs) more.runs.0 in
      let later = at_place q.runs place (omega (arith, lt, count, length-map p.runs unmarked, length-map q.runs unmarked)) in
      let same : Some (unmarked later.0) ≡ Some (unmarked run) =
      sym (slice_get-map unmarked q.runs place ∙ ap (option_map unmarked) later.1) ∙ mapped place lt ∙ slice_get-map unmarked p.runs place ∙ ap (option_map unmarked) at in
      (later.0, later.1, cc)

  -- ---- the kept runs

  keeps_same : (s : Step) → StepKnows p s → keeps q s ≡ keeps p s
  keeps_same step.Nothing known = refl
  keeps_same (step.Make place count) known = refl
  keeps_same (step.Run place) known = same_of (λ (run : RunPlan). kept_as place run.keep) (λ run. refl) place known
  keeps_same (step.Append place first count) known = refl
  keeps_same (step.ShowOrder place) known = refl
  keeps_same (step.ShowWork place) known = refl
  keeps_same (step.ShowTree place) known = refl
  keeps_same (step.Insert first count) known = refl
  keeps_same (step.Remove rule) known = refl
  keeps_same (step.Aggregate place by sum) known = refl

  same_kept : (n : ℕ) → n ≤ length p.steps → kept_at q n ≡ kept_at p n
  same_kept zero le = refl
  same_kept (suc n) le =
      let lt : n < length p.steps = omega (arith, le) in
      let s = get_or p.steps n step.Nothing in
      rw add-one at (kept_more q n s (step_after n lt) ∙ ap₂ (λ (a b : List ℕ). a ++ b) (same_kept n (omega (arith, le))) (keeps_same s (known n lt)) ∙ sym (kept_more p n s (step_at n lt)))

  none_kept : All (λ k. k < length p.runs) []
  none_kept = λ k d lt. absurd (omega arith)

  one_kept : (place : ℕ) (name : Option (List ℕ)) → place < length p.runs → All (λ k. k < length p.runs) (kept_as place name)
  one_kept place None lt = none_kept
  one_kept place (Some name) lt = one where
    one : (k d : ℕ) → k < 1 → get_or (place ∷ []) k d < length p.runs
    one zero d within = lt
    one (suc k) d within = absurd (omega arith)

  maybe_kept : (place : ℕ) (run : Option RunPlan) → place < length p.runs → All (λ k. k < length p.runs) (list_of (λ (r : RunPlan). kept_as place r.keep) run)
  maybe_kept place None lt = none_kept
  maybe_kept place (Some run) lt = one_kept place run.keep lt

  keeps_within : (s : Step) → StepKnows p s → All (λ k. k < length p.runs) (keeps p s)
  keeps_within step.Nothing known = none_kept
  keeps_within (step.Make place count) known = none_kept
  keeps_within (step.Run place) known = maybe_kept place (slice_get p.runs place) known
  keeps_within (step.Append place first count) known = none_kept
  keeps_within (step.ShowOrder place) known = none_kept
  keeps_within (step.ShowWork place) known = none_kept
  keeps_within (step.ShowTree place) known = none_kept
  keeps_within (step.Insert first count) known = none_kept
  keeps_within (step.Remove rule) known = none_kept
  keeps_within (step.Aggregate place by sum) known = none_kept

  kept_within : (n : ℕ) → n ≤ length p.steps → All (λ k. k < length p.runs) (kept_at p n)
  kept_within zero le = none_kept
  kept_within (suc n) le =
      let lt : n < length p.steps = omega (arith, le) in
      let s = get_or p.steps n step.Nothing in
      let all : All (λ k. k < length p.runs) (kept_at p n ++ keeps p s) = All-append (λ k. k < length p.runs) (kept_at p n) (keeps p s) (kept_within n (omega (arith, le))) (keeps_within s (known n lt)) in
      subst (λ (ks : List ℕ). All (λ k. k < length p.runs) ks) (sym (rw add-one at (kept_more p n s (step_at n lt)))) all

  -- what each kept run prints is the same
  same_all : (n : ℕ) (a b : ℕ → List ℕ) → n ≤ length p.steps → ((kept : ℕ) → kept < length p.runs → a kept ≡ b kept) → flat_map a (kept_at q n) ≡ flat_map b (kept_at p n)
  same_all n a b le each = ap (flat_map a) (same_kept n le) ∙ same_pieces a b (kept_at p n) (λ k d lt. each (get_or (kept_at p n) k d) (kept_within n le k d lt))

  -- ---- collections

  module _ (place : ℕ) (c : CollectionPlan) (at : slice_get p.collections place ≡ Some c) where
    d : CollectionPlan
    d = (more.collections place c at).0

    after_at : slice_get q.collections place ≡ Some d
    unfolding d
    after_at = (more.collections place c at).1

    grows : GrowsTo c d
    unfolding d
    grows = (more.collections place c at).2

    few : (n : ℕ) → views_at p n place ≤ length c.views
    few n = views_there g p fits n place c at

    same_before : (n : ℕ) → n ≤ length p.steps → views_before q n d place ≡ views_before p n c place
    same_before n le =
        ap (λ (k : ℕ). take k d.views) (same_count n place le) ∙ ap (λ (views : List ViewPlan). take (views_at p n place) views) grows.views.1
        ∙ take-append-le (views_at p n place) c.views grows.views.0 (few n)

    same_added : (n : ℕ) → n < length p.steps → views_added q n d place ≡ views_added p n c place
    same_added n lt =
        ap (λ (k : ℕ). drop k (views_before q (n + 1) d place)) (same_count n place (omega (arith, lt)))
        ∙ ap (λ (views : List ViewPlan). drop (views_at p n place) views) (same_before (n + 1) (omega (arith, lt)))

  -- what is made of the name and the views of a collection
  same_shown : (n place : ℕ) (text : List ℕ → List ViewPlan → List ℕ) → n ≤ length p.steps → place < length p.collections
      → list_of (λ (c : CollectionPlan). text c.name (views_before q n c place)) (slice_get q.collections place) ≡ list_of (λ (c : CollectionPlan). text c.name (views_before p n c place)) (slice_get p.collections place)
  same_shown n place text le within =
      let c = get_or p.collections place no_collection in
      let at : slice_get p.collections place ≡ Some c = got p.collections place no_collection within in
      ap (list_of (λ (x : CollectionPlan). text x.name (views_before q n x place))) (after_at place c at)
      ∙ ap₂ text (grows place c at).name (same_before place c at n le)
      ∙ sym (ap (list_of (λ (x : CollectionPlan). text x.name (views_before p n x place))) at)

  -- ---- the tables of runs

  -- the same tables over both graphs
  same_printed : (n : ℕ) (run : RunPlan) → n < length p.steps → tables_text answer form (graph_at h q (n + 1)) run ≡ tables_text answer form (graph_at g p (n + 1)) run
  same_printed n run lt = λ i name views. same_tables (graph_at g p (n + 1)) (graph_at h q (n + 1)) (grown (n + 1) (omega (arith, lt))) answer run form name views i

  same_run_text : (n : ℕ) (run : RunPlan) → n < length p.steps → run.collection < length p.collections → run_text answer form h q n run ≡ run_text answer form g p n run
  same_run_text n run lt within =
      same_shown n run.collection (tables_text answer form (graph_at h q (n + 1)) run) (omega (arith, lt)) within
      ∙ ap (λ (text : List ℕ → List ViewPlan → List ℕ). list_of (λ (c : CollectionPlan). text c.name (views_before p n c run.collection)) (slice_get p.collections run.collection)) (same_printed n run lt)

  run_within : (place : ℕ) (run : RunPlan) → slice_get p.runs place ≡ Some run → run.collection < length p.collections
  run_within place run at =
      let here : RunFits g (length p.collections) run = subst (λ (r : RunPlan). RunFits g (length p.collections) r) (get_or_from_slice_get p.runs place run run at) (fits.runs place run (slice_get_within p.runs place run at)) in
      here.collection

  same_maybe : (n : ℕ) (run : Option RunPlan) → n < length p.steps → ((r : RunPlan) → run ≡ Some r → r.collection < length p.collections)
      → list_of (run_text answer form h q n) run ≡ list_of (run_text answer form g p n) run
  same_maybe n None lt within = refl
  same_maybe n (Some run) lt within = same_run_text n run lt (within run refl)

  -- the tables of the run with this place
  same_run : (n place : ℕ) → n < length p.steps → place < length p.runs → list_of (run_text answer form h q n) (slice_get q.runs place) ≡ list_of (run_text answer form g p n) (slice_get p.runs place)
  same_run n place lt there = same_of (run_text answer form h q n) (λ run. refl) place there ∙ same_maybe n (slice_get p.runs place) lt (run_within place)

  -- ---- appends, and edges that come or go

  same_kept_text : (n : ℕ) (name : List ℕ) (added : List ViewPlan) (place kept : ℕ) → n < length p.steps → kept < length p.runs
      → kept_text answer form (graph_at h q (n + 1)) q name added place kept ≡ kept_text answer form (graph_at g p (n + 1)) p name added place kept
  same_kept_text n name added place kept lt there =
      same_of (λ (r : RunPlan). if r.collection == place then tables_text answer form (graph_at h q (n + 1)) r name added else []) (λ run. refl) kept there
      ∙ ap (λ (tables : RunPlan → List ℕ). list_of (λ (r : RunPlan). if r.collection == place then tables r else []) (slice_get p.runs kept))
      (λ i run. same_printed n run lt i name added)

  same_append_text : (n place first count : ℕ) → n < length p.steps → place < length p.collections → text_of answer form h q n (step.Append place first count) ≡ text_of answer form g p n (step.Append place first count)
  same_append_text n place first count lt within =
      let c = get_or p.collections place no_collection in
      let at : slice_get p.collections place ≡ Some c = got p.collections place no_collection within in
      let after = d place c at in
      let w = graph_at g p (n + 1) in
      let x = graph_at h q (n + 1) in
      append_with answer form h q n place (Some after) (after_at place c at)
      ∙ ap₂ (λ (name : List ℕ) (views : List ViewPlan). flat_map (kept_text answer form x q name views place) (kept_at q n)) (grows place c at).name (same_added place c at n lt)
      ∙ same_all n (kept_text answer form x q c.name (views_added p n c place) place) (kept_text answer form w p c.name (views_added p n c place) place) (omega (arith, lt))
      (λ kept there. same_kept_text n c.name (views_added p n c place) place kept lt there)
      ∙ sym (append_with answer form g p n place (Some c) at)

  same_edit_text : (n : ℕ) → n < length p.steps → edit_text answer form h q n ≡ edit_text answer form g p n
  same_edit_text n lt =
      same_all n (λ kept. list_of (run_text answer form h q n) (slice_get q.runs kept)) (λ kept. list_of (run_text answer form g p n) (slice_get p.runs kept)) (omega (arith, lt))
      (λ kept there. same_run n kept lt there)

  -- ---- the work of a run

  same_made : (n place : ℕ) → n ≤ length p.steps → place < length p.collections → made_at q n place ≡ made_at p n place
  same_made n place le within =
      let c = get_or p.collections place no_collection in
      let at : slice_get p.collections place ≡ Some c = got p.collections place no_collection within in
      made_with q n place (Some (d place c at)) (after_at place c at) ∙ same_before place c at n le ∙ sym (made_with p n place (Some c) at)

  same_earlier : (n : ℕ) → n ≤ length p.steps → runs_at q n ≡ runs_at p n
  same_earlier n le = ap (sum_by runs) (same_steps n le)

  module _ (run : RunPlan) (place : ℕ) (within : run.collection < length p.collections) where
    same_after : (n : ℕ) (before : List ℕ) (s : Step) → n < length p.steps → order_after h q run place n before (Some s) ≡ order_after g p run place n before (Some s)
    same_after n before step.Nothing lt = refl
    same_after n before (step.Make other count) lt = refl
    same_after n before (step.Run other) lt =
        ap (λ (views : List ViewPlan). if other == place then first_order (graph_at h q (n + 1)) run views else before) (same_made (n + 1) run.collection (omega (arith, lt)) within)
        ∙ ap (λ (order : List ℕ). if other == place then order else before)
        (same_first (graph_at g p (n + 1)) (graph_at h q (n + 1)) (grown (n + 1) (omega (arith, lt))) run (made_at p (n + 1) run.collection))
    same_after n before (step.Append collection first count) lt =
        let w = graph_at g p (n + 1) in
        let x = graph_at h q (n + 1) in
        let le : n ≤ length p.steps = omega (arith, lt) in
        ap₂ (λ (k : ℕ) (old : List ViewPlan). if nat_lt place k && collection == run.collection then longer_order x run (made_at q (n + 1) run.collection) before (length old) else before)
        (same_earlier n le) (same_made n run.collection le within)
        ∙ ap (λ (views : List ViewPlan). if nat_lt place (runs_at p n) && collection == run.collection then longer_order x run views before (length (made_at p n run.collection)) else before)
        (same_made (n + 1) run.collection (omega (arith, lt)) within)
        ∙ ap (λ (order : List ℕ). if nat_lt place (runs_at p n) && collection == run.collection then order else before)
        (same_longer w x (grown (n + 1) (omega (arith, lt))) run (made_at p (n + 1) run.collection) before (length (made_at p n run.collection)))
    same_after n before (step.ShowOrder other) lt = refl
    same_after n before (step.ShowWork other) lt = refl
    same_after n before (step.ShowTree other) lt = refl
    same_after n before (step.Insert first count) lt = refl
    same_after n before (step.Remove rule) lt = refl
    same_after n before (step.Aggregate other by sum) lt = refl

    same_order : (n : ℕ) → n ≤ length p.steps → order_at h q run place n ≡ order_at g p run place n
    unfolding order_at
    same_order zero le = refl
    same_order (suc n) le =
        let lt : n < length p.steps = omega (arith, le) in
        let s = get_or p.steps n step.Nothing in
        ap (order_after h q run place n (order_at h q run place n)) (step_after n lt)
        ∙ ap (λ (before : List ℕ). order_after h q run place n before (Some s)) (same_order n (omega (arith, le)))
        ∙ same_after n (order_at g p run place n) s lt
        ∙ sym (ap (order_after g p run place n (order_at g p run place n)) (step_at n lt))

    -- its text under a name, where it has one
    abbrev work_of_run : LiveGraph → List ViewPlan → List ℕ → Option (List ℕ) → List ℕ
    work_of_run w views order name = list_of (λ (x : List ℕ). named_work x (run_task answer w run views) views (segments_of (run_task answer w run views) run.split order)) name

    same_work_of : (n : ℕ) → n ≤ length p.steps
        → work_of_run (graph_at h q n) (made_at q n run.collection) (order_at h q run place n) run.keep ≡ work_of_run (graph_at g p n) (made_at p n run.collection) (order_at g p run place n) run.keep
    same_work_of n le =
        let views = made_at p n run.collection in
        let order = order_at g p run place n in
        ap₂ (λ (vs : List ViewPlan) (o : List ℕ). work_of_run (graph_at h q n) vs o run.keep) (same_made n run.collection le within) (same_order n le)
        ∙ ap (λ (text : List ℕ → List ℕ). list_of text run.keep)
        (λ i name. same_named_work (graph_at g p n) (graph_at h q n) (grown n le) answer run views name run.split order i)

  -- what is shown of a run's work
  abbrev shows : GraphData → Plan → ℕ → ℕ → RunPlan → List ℕ
  shows graph plan n place r = list_of (λ (x : List ℕ). named_work x (task_at answer graph plan r n) (made_at plan n r.collection) (segments_at answer graph plan r place n)) r.keep

  blind_work : (n place : ℕ) (run : RunPlan) → shows h q n place run ≡ shows h q n place (unmarked run)
  blind_work n place run =
      ap (λ (order : List ℕ). list_of (λ (x : List ℕ). named_work x (task_at answer h q run n) (made_at q n run.collection) (segments_of (task_at answer h q run n) run.split order)) run.keep)
      (unmarked_order h q run place n)

  same_maybe_work : (n place : ℕ) (run : Option RunPlan) → n ≤ length p.steps → ((r : RunPlan) → run ≡ Some r → r.collection < length p.collections)
      → list_of (shows h q n place) run ≡ list_of (shows g p n place) run
  same_maybe_work n place None le within = refl
  same_maybe_work n place (Some r) le within = same_work_of r place (within r refl) n le

  same_work_text : (n place : ℕ) → n ≤ length p.steps → place < length p.runs → work_text answer h q n place ≡ work_text answer g p n place
  same_work_text n place le there = same_of (shows h q n place) (blind_work n place) place there ∙ same_maybe_work n place (slice_get p.runs place) le (run_within place)

  -- ---- statements

  same_order_shown : (n place : ℕ) → n < length p.steps → place < length p.collections → text_of answer form h q n (step.ShowOrder place) ≡ text_of answer form g p n (step.ShowOrder place)
  same_order_shown n place lt within =
      ap (shown_in form) (same_shown n place (order_text (graph_at h q (n + 1))) (omega (arith, lt)) within
      ∙ ap (λ (text : List ℕ → List ViewPlan → List ℕ). list_of (λ (c : CollectionPlan). text c.name (views_before p n c place)) (slice_get p.collections place))
      (λ i name views. same_order_text (graph_at g p (n + 1)) (graph_at h q (n + 1)) (grown (n + 1) (omega (arith, lt))) name views i))

  same_tree_shown : (n place : ℕ) → n < length p.steps → place < length p.collections → text_of answer form h q n (step.ShowTree place) ≡ text_of answer form g p n (step.ShowTree place)
  same_tree_shown n place lt within =
      ap (shown_in form) (same_shown n place (tree_text (graph_at h q (n + 1))) (omega (arith, lt)) within
      ∙ ap (λ (text : List ℕ → List ViewPlan → List ℕ). list_of (λ (c : CollectionPlan). text c.name (views_before p n c place)) (slice_get p.collections place))
      (λ i name views. same_tree_text (graph_at g p (n + 1)) (graph_at h q (n + 1)) (grown (n + 1) (omega (arith, lt))) name views i))

  same_counted : (n place by : ℕ) (sum : Option ℕ) → n < length p.steps → place < length p.collections → HasSumColumn g sum
      → text_of answer form h q n (step.Aggregate place by sum) ≡ text_of answer form g p n (step.Aggregate place by sum)
  same_counted n place by sum lt within has =
      ap (shown_in form) (same_shown n place (λ name views. flat_map (aggregate_text (graph_at h q (n + 1)) by sum name) views) (omega (arith, lt)) within
      ∙ ap (λ (text : List ℕ → List ViewPlan → List ℕ). list_of (λ (c : CollectionPlan). text c.name (views_before p n c place)) (slice_get p.collections place))
      (λ i name views. same_aggregates (graph_at g p (n + 1)) (graph_at h q (n + 1)) (grown (n + 1) (omega (arith, lt))) by sum has name views i))

  same_text : (n : ℕ) (s : Step) → n < length p.steps → StepKnows p s → ColumnsFit g s → text_of answer form h q n s ≡ text_of answer form g p n s
  same_text n step.Nothing lt known columns = refl
  same_text n (step.Make place count) lt known columns = refl
  same_text n (step.Run place) lt known columns = same_run n place lt known
  same_text n (step.Append place first count) lt known columns = same_append_text n place first count lt known
  same_text n (step.ShowOrder place) lt known columns = same_order_shown n place lt known
  same_text n (step.ShowWork place) lt known columns = ap (shown_in form) (same_work_text n place (omega (arith, lt)) known)
  same_text n (step.ShowTree place) lt known columns = same_tree_shown n place lt known
  same_text n (step.Insert first count) lt known columns = same_edit_text n lt
  same_text n (step.Remove rule) lt known columns = same_edit_text n lt
  same_text n (step.Aggregate place by sum) lt known columns = same_counted n place by sum lt known (summed g sum columns.1)

  same_step : (n : ℕ) → n < length p.steps → step_text answer form h q n ≡ step_text answer form g p n
  same_step n lt =
      let s = get_or p.steps n step.Nothing in
      step_is answer form h q n s (step_after n lt) ∙ same_text n s lt (known n lt) (fits.columns n step.Nothing lt) ∙ sym (step_is answer form g p n s (step_at n lt))

  -- ---- the output

  steps_in_all : length q.steps ≡ length p.steps + length more.steps.0
  steps_in_all = ap (λ (ss : List Step). length ss) more.steps.1 ∙ length-append p.steps more.steps.0

  in_range : (k x : ℕ) → k < length (range_with_len 0 (length p.steps)) → step_text answer form h q (get_or (range_with_len 0 (length p.steps)) k x) ≡ step_text answer form g p (get_or (range_with_len 0 (length p.steps)) k x)
  in_range k x lt =
      let within : k < length p.steps = omega (arith, lt, length-range_with_len 0 (length p.steps)) in
      let is : get_or (range_with_len 0 (length p.steps)) k x ≡ k = get_or-range_with_len 0 (length p.steps) k x within ∙ omega arith in
      subst (λ (i : ℕ). step_text answer form h q i ≡ step_text answer form g p i) (sym is) (same_step k within)

  output_grows : IsFront (plan_text answer form g p) (plan_text answer form h q)
  output_grows = (
    flat_map (step_text answer form h q) (range_with_len (0 + length p.steps) (length more.steps.0)),
    ap (λ (k : ℕ). flat_map (step_text answer form h q) (range_with_len 0 k)) steps_in_all
        ∙ ap (flat_map (step_text answer form h q)) (range-add 0 (length p.steps) (length more.steps.0))
        ∙ flat_map-append (step_text answer form h q) (range_with_len 0 (length p.steps)) (range_with_len (0 + length p.steps) (length more.steps.0))
        ∙ ap (λ (x : List ℕ). x ++ flat_map (step_text answer form h q) (range_with_len (0 + length p.steps) (length more.steps.0))) (same_pieces (step_text answer form h q) (step_text answer form g p) (range_with_len 0 (length p.steps)) in_range),
  )

  -- ---- a run that is made again

  counts_rise : (m n place : ℕ) → m ≤ n → views_at q m place ≤ views_at q n place
  counts_rise m n place le =
      let split : take n q.steps ≡ take m q.steps ++ take (n - m) (drop m q.steps) = ap (λ (k : ℕ). take k q.steps) (let whole : n ≡ m + (n - m) = omega arith in whole) ∙ take-add m (n - m) q.steps in
      omega (arith, ap (sum_by (gives place)) split, sum_by-append (gives place) (take m q.steps) (take (n - m) (drop m q.steps)))

  -- the graph behind both runs is the same where no edge comes or goes between them
  module _ (m n : ℕ) (first second : RunPlan) (a : Runs p m first) (b : Runs q n second) (later : m ≤ n) (none : NoneBetween q m n) where
    first_lt : m < length p.steps
    first_lt = slice_get_within p.steps m (step.Run a.place) a.step

    quiet : live_at h q (n + 1) ≡ live_at h q (m + 1)
    quiet =
        let whole : m + (n - m) ≡ n = omega (arith, later) in
        live_passed h q n (step.Run b.place) b.step refl
        ∙ ap (live_at h q) (sym whole) ∙ all_passed h q m n none (n - m) (omega (arith, later))
        ∙ sym (live_passed h q m (step.Run a.place) (same_place m first_lt ∙ a.step) refl)

    same_graph : graph_at h q (n + 1) ≡ graph_at h q (m + 1)
    same_graph = ap (λ (live : List _). let w : LiveGraph = record { graph = h; live = live } in w) quiet

    -- the later run prints of these views what the first one prints
    again : (same : IsSameRun first second) (name : List ℕ) (views : List ViewPlan) → tables_text answer form (graph_at h q (n + 1)) second name views ≡ tables_text answer form (graph_at g p (m + 1)) first name views
    again same name views =
        made_again answer form (graph_at h q (n + 1)) first second name views same
        ∙ ap (λ (w : LiveGraph). tables_text answer form w first name views) same_graph
        ∙ same_tables (graph_at g p (m + 1)) (graph_at h q (m + 1)) (grown (m + 1) (omega (arith, first_lt))) answer first form name views

    module _ (within : first.collection < length p.collections) (same : IsSameRun first second) where
      c : CollectionPlan
      c = get_or p.collections first.collection no_collection

      at : slice_get p.collections first.collection ≡ Some c
      unfolding c
      at = got p.collections first.collection no_collection within

      after : CollectionPlan
      after = d first.collection c at

      -- the views that are there later, and were not before
      added : List ViewPlan
      added = take (views_at q n first.collection - views_at p m first.collection) (drop (views_at p m first.collection) (c.views ++ (grows first.collection c at).views.0))

      views_grow : views_before q n after first.collection ≡ views_before p m c first.collection ++ added
      unfolding after added
      views_grow =
          ap (λ (views : List ViewPlan). take (views_at q n first.collection) views) (grows first.collection c at).views.1
          ∙ front_of_front c.views (grows first.collection c at).views.0 (views_at p m first.collection) (views_at q n first.collection)
          (omega (arith, counts_rise m n first.collection later, same_count m first.collection (omega (arith, first_lt)))) (few first.collection c at m)

      second_at : slice_get q.collections second.collection ≡ Some after
      unfolding after
      second_at = ap (λ (k : ℕ). slice_get q.collections k) same.collection ∙ after_at first.collection c at

      run_grows : IsFront (run_text answer form g p m first) (run_text answer form h q n second)
      unfolding after
      run_grows =
          let before = graph_at g p (m + 1) in
          let shown = view_shown answer before first c.name in
          let grow = more_tables form g (map shown (views_before p m c first.collection)) (map shown added) in (
            grow.0,
            run_with answer form h q n second (Some after) second_at
                ∙ ap (λ (k : ℕ). tables_text answer form (graph_at h q (n + 1)) second after.name (views_before q n after k)) same.collection
                ∙ ap₂ (λ (name : List ℕ) (views : List ViewPlan). tables_text answer form (graph_at h q (n + 1)) second name views) (grows first.collection c at).name views_grow
                ∙ again same c.name (views_before p m c first.collection ++ added)
                ∙ ap (tables_in form g) (map-append shown (views_before p m c first.collection) added)
                ∙ grow.1
                ∙ ap (λ (x : List ℕ). x ++ grow.0) (sym (run_with answer form g p m first (Some c) at)),
          )

    same_program : IsAgain first second → IsSameRun first second
    same_program it =
        let early = run_after a.place first a.run in
        let call : second.call ≡ early.0.call = it.call ∙ sym (ap (λ (r : RunPlan). r.call) early.2) in
        record {
          collection = it.collection;
          call = it.call;
          program = more.calls a.place b.place early.0 second early.1 b.run call ∙ ap (λ (r : RunPlan). r.program) early.2;
          rounds = it.rounds;
          phases = it.phases;
        }

  run_again : (m n : ℕ) (first second : RunPlan) → m ≤ n → Runs p m first → Runs q n second → IsAgain first second → NoneBetween q m n → IsFront (step_text answer form g p m) (step_text answer form h q n)
  run_again m n first second later a b it none =
      let before : step_text answer form g p m ≡ run_text answer form g p m first = run_step_is answer form g p m a.place (Some first) a.step a.run in
      let after : step_text answer form h q n ≡ run_text answer form h q n second = run_step_is answer form h q n b.place (Some second) b.step b.run in
      subst (λ (text : List ℕ). IsFront text (step_text answer form h q n)) (sym before)
      (subst (λ (text : List ℕ). IsFront (run_text answer form g p m first) text) (sym after)
      (run_grows m n first second a b later none (run_within a.place first a.run) (same_program m n first second a b later none it)))

pub keeps_texts : (answer : Answer) (g h : GraphData) (p q : Plan) → PlanFits g p → GraphGrows g h → Continues p q → KeepsTexts answer g h p q
keeps_texts answer g h p q fits grows more = record {
  output = λ form. output_grows answer form g h p q fits grows more;
  runs = λ form. run_again answer form g h p q fits grows more;
}
