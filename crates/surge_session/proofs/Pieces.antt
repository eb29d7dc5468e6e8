-- The tables of a statement, run by run, and what it prints of them in each form.
use Rattle.std.proofs.Common.{◌≡◌, ◌∙◌, ℕ, zero, suc, ◌+◌, Bool, true, false, List, [], ◌∷◌, ◌++◌, map, take, drop, flat_map, Option, Some, None, slice_get, refl, sym, ap, ap₂, subst, append-nil}
use Rattle.std.specs.Prelude.{All, ◌==◌, if◌then◌else◌}
use mathlib.Core.Path.{fun_ext}
use Rattle.std.proofs.lemmas.Grind.{flat_map-append}
use Rattle.std.proofs.lemmas.List.Elements.{All-nil, All-cons, All-append, All-drop, All-map, All-take}
use Rattle.graph_model.specs.GraphData.{GraphData}
use Rattle.vertex_lang.specs.Expressions.{Answer}
use Rattle.gvdl_check.specs.declared.plan.ViewPlan.{ViewPlan}
use Rattle.gvdl_check.specs.declared.plan.CollectionPlan.{CollectionPlan}
use Rattle.gvdl_check.specs.declared.plan.RunPlan.{RunPlan}
use Rattle.gvdl_check.specs.declared.plan.Step.{Step}
use Rattle.gvdl_check.specs.declared.plan.Step.TheVariants as step
use Rattle.gvdl_check.specs.declared.plan.Plan.{Plan}
use Rattle.gvdl_check.specs.Continued.{unmarked}
use Rattle.gvdl_check.specs.Steps.{views_at}
use Rattle.result_tables.specs.declared.form.Form.{Form}
use Rattle.result_tables.specs.declared.form.Form.TheVariants as form
use Rattle.surge_session.specs.Live.{LiveGraph, graph_at}
use Rattle.gvdl_check.specs.Shows.{is_show}
use Rattle.surge_session.specs.Output.{Shown, edit_text, kept_at, kept_text, list_of, run_text, step_text, tables_in, tables_text, text_of, view_shown, views_added, views_before}

-- what does not look whether a run is told to be edited finds the same
pub unmarked_same : {X : Type 0} (f : RunPlan → List X) → ((run : RunPlan) → f run ≡ f (unmarked run)) → (rs : List RunPlan) (place : ℕ) → list_of f (slice_get rs place) ≡ list_of f (slice_get (map unmarked rs) place)
unmarked_same f blind [] place = refl
unmarked_same f blind (run ∷ rs) zero = blind run
unmarked_same f blind (run ∷ rs) (suc place) = unmarked_same f blind rs place

-- what a statement finds: the graph behind it; the runs and the collections; how many views a collection has before it and behind it;
-- and the kept runs
pub record Stage : Type 0 where
  pub graph : LiveGraph
  pub runs : List RunPlan
  pub collections : List CollectionPlan
  pub before : ℕ → ℕ
  pub behind : ℕ → ℕ
  pub kept : List ℕ

abbrev pub stage_at : GraphData → Plan → ℕ → Stage
stage_at g p n = record { graph = graph_at g p (n + 1); runs = map unmarked p.runs; collections = p.collections; before = views_at p n; behind = views_at p (n + 1); kept = kept_at p n }

module _ (answer : Answer) (a : Stage) where
  abbrev tables_of_run : RunPlan → List ℕ → List ViewPlan → List Shown
  tables_of_run run name views = map (view_shown answer a.graph run name) views

  abbrev run_pieces : RunPlan → List (List Shown)
  run_pieces run = list_of (λ c. tables_of_run run c.name (take (a.before run.collection) c.views) ∷ []) (slice_get a.collections run.collection)

  abbrev added_pieces : ℕ → CollectionPlan → RunPlan → List (List Shown)
  added_pieces place c run = if run.collection == place then tables_of_run run c.name (drop (a.before place) (take (a.behind place) c.views)) ∷ [] else []

  abbrev kept_pieces : ℕ → CollectionPlan → ℕ → List (List Shown)
  kept_pieces place c kept = list_of (added_pieces place c) (slice_get a.runs kept)

  abbrev followed_pieces : ℕ → List (List Shown)
  followed_pieces kept = list_of run_pieces (slice_get a.runs kept)

  -- the tables that a statement prints, in lists that each begin with a full table
  abbrev pub pieces : Step → List (List Shown)
  pieces (step.Run place) = followed_pieces place
  pieces (step.Append place first count) = list_of (λ c. flat_map (kept_pieces place c) a.kept) (slice_get a.collections place)
  pieces (step.Insert first count) = flat_map followed_pieces a.kept
  pieces (step.Remove rule) = flat_map followed_pieces a.kept
  pieces _ = []

-- ---- their texts

flat_flat : {X Y : Type 0} (h : Y → List ℕ) (f : X → List Y) (xs : List X) → flat_map (λ x. flat_map h (f x)) xs ≡ flat_map h (flat_map f xs)
flat_flat h f [] = refl
flat_flat h f (x ∷ xs) = ap (λ (bytes : List ℕ). flat_map h (f x) ++ bytes) (flat_flat h f xs) ∙ sym (flat_map-append h (f x) (flat_map f xs))

flat_list : {X Y : Type 0} (h : Y → List ℕ) (f : X → List Y) (o : Option X) → list_of (λ x. flat_map h (f x)) o ≡ flat_map h (list_of f o)
flat_list h f None = refl
flat_list h f (Some x) = refl

module _ (answer : Answer) (in_form : Form) (g : GraphData) (p : Plan) (n : ℕ) where
  abbrev here : Stage
  here = stage_at g p n

  abbrev text : List Shown → List ℕ
  text tables = tables_in in_form g tables

  one_list : (tables : List Shown) → text tables ≡ flat_map text (tables ∷ [])
  one_list tables = sym (append-nil (text tables))

  one_run : (run : RunPlan) (c : Option CollectionPlan)
      → list_of (λ x. tables_text answer in_form (graph_at g p (n + 1)) run x.name (views_before p n x run.collection)) c
      ≡ flat_map text (list_of (λ x. map (view_shown answer (graph_at g p (n + 1)) run x.name) (views_before p n x run.collection) ∷ []) c)
  one_run run None = refl
  one_run run (Some c) = one_list (map (view_shown answer (graph_at g p (n + 1)) run c.name) (views_before p n c run.collection))

  run_text_is : (run : RunPlan) → run_text answer in_form g p n run ≡ flat_map text (run_pieces answer here run)
  run_text_is run = one_run run (slice_get p.collections run.collection)

  followed_is : (kept : ℕ) → list_of (run_text answer in_form g p n) (slice_get p.runs kept) ≡ flat_map text (followed_pieces answer here kept)
  followed_is kept =
      unmarked_same (run_text answer in_form g p n) (λ run. refl) p.runs kept
      ∙ ap (λ (f : RunPlan → List ℕ). list_of f (slice_get (map unmarked p.runs) kept)) (fun_ext run_text_is)
      ∙ flat_list text (run_pieces answer here) (slice_get (map unmarked p.runs) kept)

  edit_is : edit_text answer in_form g p n ≡ flat_map text (flat_map (followed_pieces answer here) (kept_at p n))
  edit_is = ap (λ (f : ℕ → List ℕ). flat_map f (kept_at p n)) (fun_ext followed_is) ∙ flat_flat text (followed_pieces answer here) (kept_at p n)

  if_added : (b : Bool) (tables : List Shown) → (if b then text tables else []) ≡ flat_map text (if b then tables ∷ [] else [])
  if_added true tables = one_list tables
  if_added false tables = refl

  added_is : (place : ℕ) (c : CollectionPlan) (run : RunPlan)
      → (if run.collection == place then tables_text answer in_form (graph_at g p (n + 1)) run c.name (views_added p n c place) else []) ≡ flat_map text (added_pieces answer here place c run)
  added_is place c run = if_added (run.collection == place) (map (view_shown answer (graph_at g p (n + 1)) run c.name) (views_added p n c place))

  kept_is : (place : ℕ) (c : CollectionPlan) (kept : ℕ) → kept_text answer in_form (graph_at g p (n + 1)) p c.name (views_added p n c place) place kept ≡ flat_map text (kept_pieces answer here place c kept)
  kept_is place c kept =
      unmarked_same (λ run. if run.collection == place then tables_text answer in_form (graph_at g p (n + 1)) run c.name (views_added p n c place) else []) (λ run. refl) p.runs kept
      ∙ ap (λ (f : RunPlan → List ℕ). list_of f (slice_get (map unmarked p.runs) kept)) (fun_ext (added_is place c))
      ∙ flat_list text (added_pieces answer here place c) (slice_get (map unmarked p.runs) kept)

  append_is : (place : ℕ) (c : CollectionPlan)
      → flat_map (kept_text answer in_form (graph_at g p (n + 1)) p c.name (views_added p n c place) place) (kept_at p n) ≡ flat_map text (flat_map (kept_pieces answer here place c) (kept_at p n))
  append_is place c = ap (λ (f : ℕ → List ℕ). flat_map f (kept_at p n)) (fun_ext (kept_is place c)) ∙ flat_flat text (kept_pieces answer here place c) (kept_at p n)

  -- what a statement prints that shows nothing
  pub text_is : (s : Step) → is_show s ≡ false → text_of answer in_form g p n s ≡ flat_map text (pieces answer here s)
  text_is step.Nothing none = refl
  text_is (step.Make place count) none = refl
  text_is (step.Run place) none = followed_is place
  text_is (step.Append place first count) none =
      ap (λ (f : CollectionPlan → List ℕ). list_of f (slice_get p.collections place)) (fun_ext (append_is place))
      ∙ flat_list text (λ c. flat_map (kept_pieces answer here place c) (kept_at p n)) (slice_get p.collections place)
  text_is (step.ShowOrder place) none = absurd cc
  text_is (step.ShowWork place) none = absurd cc
  text_is (step.ShowTree place) none = absurd cc
  text_is (step.Insert first count) none = edit_is
  text_is (step.Remove rule) none = edit_is
  text_is (step.Aggregate place by sum) none = absurd cc

-- in a change text nothing is shown
pub show_is : (answer : Answer) (g : GraphData) (p : Plan) (n : ℕ) (s : Step) → is_show s ≡ true → text_of answer form.Changes g p n s ≡ []
show_is answer g p n step.Nothing shows = absurd cc
show_is answer g p n (step.Make place count) shows = absurd cc
show_is answer g p n (step.Run place) shows = absurd cc
show_is answer g p n (step.Append place first count) shows = absurd cc
show_is answer g p n (step.ShowOrder place) shows = refl
show_is answer g p n (step.ShowWork place) shows = refl
show_is answer g p n (step.ShowTree place) shows = refl
show_is answer g p n (step.Insert first count) shows = absurd cc
show_is answer g p n (step.Remove rule) shows = absurd cc
show_is answer g p n (step.Aggregate place by sum) shows = refl

-- ---- what holds of each table

module _ (answer : Answer) (a : Stage) (P : Shown → Type 0) (each : (place other : ℕ) (run : RunPlan) (c : CollectionPlan) → slice_get a.runs place ≡ Some run → slice_get a.collections other ≡ Some c → All (λ view. P (view_shown answer a.graph run c.name view)) c.views) where
  abbrev AllP : List (List Shown) → Type 0
  AllP lists = All (All P) lists

  one : (tables : List Shown) → All P tables → AllP (tables ∷ [])
  one tables h = All-cons (All P) tables [] h (All-nil (All P))

  if_one : (b : Bool) (tables : List Shown) → All P tables → AllP (if b then tables ∷ [] else [])
  if_one true tables h = one tables h
  if_one false tables h = All-nil (All P)

  listed : {X : Type 0} (f : X → List (List Shown)) (o : Option X) → ((x : X) → o ≡ Some x → AllP (f x)) → AllP (list_of f o)
  listed f None h = All-nil (All P)
  listed f (Some x) h = h x refl

  flat : {X : Type 0} (f : X → List (List Shown)) → ((x : X) → AllP (f x)) → (xs : List X) → AllP (flat_map f xs)
  flat f h [] = All-nil (All P)
  flat f h (x ∷ xs) = All-append (All P) (f x) (flat_map f xs) (h x) (flat f h xs)

  of_views : (place other : ℕ) (run : RunPlan) (c : CollectionPlan) → slice_get a.runs place ≡ Some run → slice_get a.collections other ≡ Some c → (views : List ViewPlan) → All (λ view. P (view_shown answer a.graph run c.name view)) views
      → All P (map (view_shown answer a.graph run c.name) views)
  of_views place other run c at there views h = All-map P (view_shown answer a.graph run c.name) views h

  followed_hold : (kept : ℕ) → AllP (followed_pieces answer a kept)
  followed_hold kept =
      listed (run_pieces answer a) (slice_get a.runs kept)
      (λ run at. listed (λ c. map (view_shown answer a.graph run c.name) (take (a.before run.collection) c.views) ∷ []) (slice_get a.collections run.collection)
      (λ c there.
      let view_holds = λ (view : ViewPlan). P (view_shown answer a.graph run c.name view) in
      let views = take (a.before run.collection) c.views in
      one (map (view_shown answer a.graph run c.name) views) (of_views kept run.collection run c at there views (All-take view_holds (a.before run.collection) c.views (each kept run.collection run c at there)))))

  kept_hold : (place : ℕ) (c : CollectionPlan) → slice_get a.collections place ≡ Some c → (kept : ℕ) → AllP (kept_pieces answer a place c kept)
  kept_hold place c there kept =
      listed (added_pieces answer a place c) (slice_get a.runs kept)
      (λ run at.
      let view_holds = λ (view : ViewPlan). P (view_shown answer a.graph run c.name view) in
      let views = drop (a.before place) (take (a.behind place) c.views) in
      if_one (run.collection == place) (map (view_shown answer a.graph run c.name) views)
      (of_views kept place run c at there views (All-drop view_holds (a.before place) (take (a.behind place) c.views) (All-take view_holds (a.behind place) c.views (each kept place run c at there)))))

  pub all_hold : (s : Step) → AllP (pieces answer a s)
  all_hold step.Nothing = All-nil (All P)
  all_hold (step.Make place count) = All-nil (All P)
  all_hold (step.Run place) = followed_hold place
  all_hold (step.Append place first count) =
      listed (λ c. flat_map (kept_pieces answer a place c) a.kept) (slice_get a.collections place) (λ c there. flat (kept_pieces answer a place c) (kept_hold place c there) a.kept)
  all_hold (step.ShowOrder place) = All-nil (All P)
  all_hold (step.ShowWork place) = All-nil (All P)
  all_hold (step.ShowTree place) = All-nil (All P)
  all_hold (step.Insert first count) = flat (followed_pieces answer a) followed_hold a.kept
  all_hold (step.Remove rule) = flat (followed_pieces answer a) followed_hold a.kept
  all_hold (step.Aggregate place by sum) = All-nil (All P)
