-- What a statement by which edges come or go leaves, prints and costs.
use Rattle.std.proofs.Common.{◌≡◌, ◌≢◌, ◌∙◌, ◌+◌, ◌*◌, ◌<◌, ◌≤◌, ℕ, zero, suc, List, [], ◌∷◌, ◌++◌, length, map, take, get_or, All, Option, Some, None, Bool, true, false, slice_get, slice_range, refl, sym, ap, ap₂, subst, arith, is_some}
use Rattle.std.specs.Prelude.{not, fold, sum_by}
use Rattle.std.proofs.lemmas.List.{length-map}
use Rattle.std.proofs.lemmas.Option.{slice_get_within, get_or_from_slice_get}
use Rattle.graph_model.specs.declared.number.EdgeNo.{EdgeNo}
use Rattle.graph_model.specs.declared.number.ViewNo.{ViewNo}
use Rattle.graph_model.specs.GraphData.{GraphData}
use Rattle.edge_predicates.specs.declared.pred.ViewRule.{ViewRule}
use Rattle.vertex_lang.specs.Expressions.{Answer}
use Rattle.vertex_lang.specs.Lone.{number_of}
use Rattle.gvdl_check.specs.declared.plan.ViewPlan.{ViewPlan}
use Rattle.gvdl_check.specs.declared.plan.CollectionPlan.{CollectionPlan}
use Rattle.gvdl_check.specs.declared.plan.RunPlan.{RunPlan}
use Rattle.gvdl_check.specs.declared.plan.Step.{Step}
use Rattle.gvdl_check.specs.declared.plan.Step.TheVariants as step
use Rattle.gvdl_check.specs.declared.plan.Plan.{Plan}
use Rattle.gvdl_check.specs.Steps.{edits, gives, runs, views_at, runs_at}
use Rattle.gvdl_check.specs.Fits.{PlanFits, IsToldEdited}
use Rattle.view_matrix.specs.Matrices.{MatrixData, live_of, rule_columns, with_live, with_changes}
use Rattle.view_order.specs.Greedy.{numbers}
use Rattle.view_segment.specs.Tasks.{Task, task_over}
use Rattle.view_versions.specs.Edits.{taken_back}
use Rattle.view_versions.specs.Laws.{EditsAreTakenBack}
use Rattle.view_versions.specs.Touched.{touched}
use Rattle.result_tables.specs.declared.form.Form.{Form}
use Rattle.surge_session.specs.declared.kept.Kept.{Kept}
use Rattle.surge_session.specs.declared.kept.RunEngine.{RunEngine}
use Rattle.surge_session.specs.Live.{LiveGraph, is_live, graph_at, live_at}
use Rattle.surge_session.specs.Output.{list_of, run_text, tables_text, views_before, made_at, keeps, kept_at, order_at, run_task, task_at, followed_text}
use Rattle.surge_session.specs.State.{rules_of, ShowsLive, shown_graph, MatricesAt, HasRunIn, order_in, IsKept, IsAt, places_of}
use Rattle.surge_session.specs.Changes.{AreTurned, IsEdited, AreEdited}
use Rattle.surge_session.specs.RunWorks.{advance_calls}
use Rattle.surge_session.specs.Works.{number_for, touched_work, work_of_step}
use Rattle.surge_session.proofs.LiveFacts.{live_count, shown_is}
use Rattle.surge_session.proofs.Keeping.{IsQuiet, quiet_order}
use Rattle.surge_session.proofs.Places.{made_same, views_same, runs_more, kept_same, counted, seen, count_of}
use Rattle.surge_session.proofs.Running.{over_is}
use Rattle.surge_session.proofs.Texts.{found, any_default, run_with}

-- ---- such a statement gives no views and keeps no run

quiet : (s : Step) → edits s ≡ true → IsQuiet s
quiet (step.Insert first count) e = tt
quiet (step.Remove rule) e = tt
quiet step.Nothing e = absurd cc
quiet (step.Make place count) e = absurd cc
quiet (step.Run place) e = absurd cc
quiet (step.Append place first count) e = absurd cc
quiet (step.ShowOrder place) e = absurd cc
quiet (step.ShowWork place) e = absurd cc
quiet (step.ShowTree place) e = absurd cc
quiet (step.Aggregate place by sum) e = absurd cc

gives_none : (place : ℕ) (s : Step) → edits s ≡ true → gives place s ≡ 0
gives_none place (step.Insert first count) e = refl
gives_none place (step.Remove rule) e = refl
gives_none place step.Nothing e = absurd cc
gives_none place (step.Make other count) e = absurd cc
gives_none place (step.Run other) e = absurd cc
gives_none place (step.Append other first count) e = absurd cc
gives_none place (step.ShowOrder other) e = absurd cc
gives_none place (step.ShowWork other) e = absurd cc
gives_none place (step.ShowTree other) e = absurd cc
gives_none place (step.Aggregate other by sum) e = absurd cc

keeps_none : (p : Plan) (s : Step) → edits s ≡ true → keeps p s ≡ []
keeps_none p (step.Insert first count) e = refl
keeps_none p (step.Remove rule) e = refl
keeps_none p step.Nothing e = absurd cc
keeps_none p (step.Make other count) e = absurd cc
keeps_none p (step.Run other) e = absurd cc
keeps_none p (step.Append other first count) e = absurd cc
keeps_none p (step.ShowOrder other) e = absurd cc
keeps_none p (step.ShowWork other) e = absurd cc
keeps_none p (step.ShowTree other) e = absurd cc
keeps_none p (step.Aggregate other by sum) e = absurd cc

pub edit_work : (answer : Answer) (g : GraphData) (p : Plan) (n : ℕ) (s : Step) → edits s ≡ true → work_of_step answer g p n s ≡ sum_by (touched_work answer g p n) (kept_at p n)
edit_work answer g p n (step.Insert first count) e = refl
edit_work answer g p n (step.Remove rule) e = refl
edit_work answer g p n step.Nothing e = absurd cc
edit_work answer g p n (step.Make place count) e = absurd cc
edit_work answer g p n (step.Run place) e = absurd cc
edit_work answer g p n (step.Append place first count) e = absurd cc
edit_work answer g p n (step.ShowOrder place) e = absurd cc
edit_work answer g p n (step.ShowWork place) e = absurd cc
edit_work answer g p n (step.ShowTree place) e = absurd cc
edit_work answer g p n (step.Aggregate place by sum) e = absurd cc

-- ---- the matrices

abbrev edited : List (EdgeNo × Bool) → MatrixData → MatrixData
edited changes m = with_changes m changes

got_edited : (changes : List (EdgeNo × Bool)) (made : List MatrixData) (place : ℕ) (m : MatrixData) → slice_get made place ≡ Some m → slice_get (map (edited changes) made) place ≡ Some (edited changes m)
got_edited changes [] place m at = absurd cc
got_edited changes (x ∷ xs) zero m at = ap (λ (y : MatrixData). Some (edited changes y)) (let e : x ≡ m = cc in e)
got_edited changes (x ∷ xs) (suc place) m at = got_edited changes xs place m at

edited_back : (changes : List (EdgeNo × Bool)) (made : List MatrixData) (place : ℕ) (x : MatrixData) → slice_get (map (edited changes) made) place ≡ Some x → (m : MatrixData) × (slice_get made place ≡ Some m) × (edited changes m ≡ x)
edited_back changes [] place x at = absurd cc
edited_back changes (m ∷ ms) zero x at = (m, refl, let e : edited changes m ≡ x = cc in e)
edited_back changes (m ∷ ms) (suc place) x at = edited_back changes ms place x at

module _ (g : GraphData) (p : Plan) (n : ℕ) (s : Step) (at : slice_get p.steps n ≡ Some s) (by : edits s ≡ true) where
  pub same_views : (place : ℕ) → made_at p (n + 1) place ≡ made_at p n place
  same_views place = made_same p n place (views_same p n place s at (gives_none place s by))

  same_count : (place : ℕ) → views_at p (n + 1) place ≡ views_at p n place
  same_count place = views_same p n place s at (gives_none place s by)

  pub kept_still : kept_at p (n + 1) ≡ kept_at p n
  kept_still = kept_same p n s at (keeps_none p s by)

  module _ (changes : List (EdgeNo × Bool)) (turned : AreTurned (live_at g p n) (live_at g p (n + 1)) changes) (made : List MatrixData) (is : MatricesAt g p n made) where
    shows_edited : (place : ℕ) (m : MatrixData) → slice_get made place ≡ Some m → ShowsLive (graph_at g p (n + 1)) (rules_of (made_at p (n + 1) place)) (edited changes m)
    shows_edited place m m_at =
        let shows : ShowsLive (graph_at g p n) (rules_of (made_at p n place)) m = is.shows place m m_at in
        subst (λ (views : List ViewPlan). ShowsLive (graph_at g p (n + 1)) (rules_of views) (edited changes m)) (sym (same_views place))
        (record { live = ap (λ (live : List Bool). fold with_live live changes) shows.live ∙ turned.gives; columns = shows.columns })

    shows_at : (place : ℕ) (x : MatrixData) → (m : MatrixData) × (slice_get made place ≡ Some m) × (edited changes m ≡ x) → ShowsLive (graph_at g p (n + 1)) (rules_of (made_at p (n + 1) place)) x
    shows_at place x back = subst (λ (y : MatrixData). ShowsLive (graph_at g p (n + 1)) (rules_of (made_at p (n + 1) place)) y) back.2 (shows_edited place back.0 back.1)

    pub edited_at : MatricesAt g p (n + 1) (map (edited changes) made)
    edited_at = record {
      all = length-map made (edited changes) ∙ is.all;
      shows = λ place x x_at. shows_at place x (edited_back changes made place x x_at);
    }

    within : (place : ℕ) (m : MatrixData) → slice_get made place ≡ Some m → All (λ c. c.0.0 < length m.live) changes
    within place m m_at = subst (λ (live : List Bool). All (λ (c : EdgeNo × Bool). c.0.0 < length live) changes) (sym (is.shows place m m_at).live) turned.within

    turns : (place : ℕ) (m : MatrixData) → slice_get made place ≡ Some m → All (λ c. c.1 ≡ not (live_of m c.0.0)) changes
    turns place m m_at = subst (λ (live : List Bool). All (λ (c : EdgeNo × Bool). c.1 ≡ not (is_live live c.0.0)) changes) (sym (is.shows place m m_at).live) turned.turns

    pub all_within : All (λ (m : MatrixData). All (λ c. c.0.0 < length m.live) changes) made
    all_within = λ i d lt. within i (get_or made i d) (found made made i (get_or made i d) refl lt (any_default made i d (get_or made i d) lt))

    pub are_edited : AreEdited made (map (edited changes) made) changes
    are_edited = record {
      count = length-map made (edited changes);
      each = λ place m m_at. (edited changes m, got_edited changes made place m m_at, record { within = within place m m_at; turns = turns place m m_at; gives = refl });
    }

-- ---- a kept run

-- a run that is kept while edges come or go is told to be edited
pub told : (g : GraphData) (p : Plan) (n place : ℕ) (s : Step) (run : RunPlan) → PlanFits g p → slice_get p.steps n ≡ Some s → edits s ≡ true → slice_get p.runs place ≡ Some run → is_some run.keep ≡ true → place < runs_at p n → run.edited ≡ true
told g p n place s run fits at by run_at named earlier =
    let lt : n < length p.steps = slice_get_within p.steps n s at in
    let is : get_or p.steps n step.Nothing ≡ s = get_or_from_slice_get p.steps n s step.Nothing at in
    let edit : edits (get_or p.steps n step.Nothing) ≡ true = ap edits is ∙ by in
    fits.edited n place lt edit earlier run run_at ∙ named

module _ (answer : Answer) (g : GraphData) (p : Plan) (n : ℕ) (s : Step) (at : slice_get p.steps n ≡ Some s) (by : edits s ≡ true) (before after : List MatrixData) (changes : List (EdgeNo × Bool))
    (was : MatricesAt g p n before) (is : MatricesAt g p (n + 1) after) (turned : AreEdited before after changes)
    (k : Kept) (kept : IsKept answer g p n before k) (run : RunPlan) (run_at : slice_get p.runs k.place ≡ Some run) (m : MatrixData) (m_at : slice_get after run.collection ≡ Some m) where
  its_run : kept.run ≡ run
  its_run = let e : Some kept.run ≡ Some run = sym kept.at ∙ run_at in cc

  its_old : slice_get before run.collection ≡ Some kept.matrix
  its_old = ap (λ (r : RunPlan). slice_get before r.collection) (sym its_run) ∙ kept.shown

  its_edit : (x : MatrixData) × (slice_get after run.collection ≡ Some x) × IsEdited kept.matrix x changes
  its_edit = turned.each run.collection kept.matrix its_old

  pub edited_here : IsEdited kept.matrix m changes
  edited_here = let e : its_edit.0 ≡ m = (let same : Some its_edit.0 ≡ Some m = sym its_edit.1 ∙ m_at in cc) in subst (λ (x : MatrixData). IsEdited kept.matrix x changes) e its_edit.2

  pub has_old : HasRunIn answer g run kept.matrix k.engine
  has_old = subst (λ (r : RunPlan). HasRunIn answer g r kept.matrix k.engine) its_run kept.has

  pub unphased : run.phases ≡ None
  unphased = ap (λ (r : RunPlan). r.phases) (sym its_run) ∙ kept.unphased

  pub named : is_some run.keep ≡ true
  named = ap (λ (r : RunPlan). is_some r.keep) (sym its_run) ∙ kept.named

  its_order : numbers (order_in k.engine) ≡ order_at g p run k.place n
  its_order = kept.order ∙ ap (λ (r : RunPlan). order_at g p r k.place n) its_run

  below : All (λ (view : ViewNo). view.0 < length (made_at p (n + 1) run.collection)) (order_in k.engine)
  below =
      subst (λ (views : List ViewPlan). All (λ (view : ViewNo). view.0 < length views) (order_in k.engine)) (sym (same_views g p n s at by run.collection))
      (subst (λ (r : RunPlan). All (λ (view : ViewNo). view.0 < length (made_at p n r.collection)) (order_in k.engine)) its_run kept.below)

  few : length (order_in k.engine) ≤ length (made_at p (n + 1) run.collection)
  few =
      subst (λ (views : List ViewPlan). length (order_in k.engine) ≤ length views) (sym (same_views g p n s at by run.collection))
      (subst (λ (r : RunPlan). length (order_in k.engine) ≤ length (made_at p n r.collection)) its_run kept.count)

  pub kept_followed : (e : RunEngine) → HasRunIn answer g run m e → order_in e ≡ order_in k.engine → (x : Kept) → x ≡ record { place = k.place; engine = e } → IsKept answer g p (n + 1) after x
  kept_followed e has same x is_x =
      let now : IsKept answer g p (n + 1) after (record { place = k.place; engine = e }) = record {
        run = run;
        at = run_at;
        named = named;
        earlier = omega (arith, kept.earlier, runs_more p n s at);
        unphased = unphased;
        matrix = m;
        shown = m_at;
        has = has;
        order = ap (λ (views : List ViewNo). numbers views) same ∙ its_order ∙ sym (quiet_order g p run k.place n s at (quiet s by));
        below = subst (λ (views : List ViewNo). All (λ (view : ViewNo). view.0 < length (made_at p (n + 1) run.collection)) views) (sym same) below;
        count = subst (λ (views : List ViewNo). length views ≤ length (made_at p (n + 1) run.collection)) (sym same) few;
      } in
      subst (λ (y : Kept). IsKept answer g p (n + 1) after y) (sym is_x) now

  -- ---- what it costs

  shows_old : ShowsLive (graph_at g p n) (rules_of (made_at p n run.collection)) kept.matrix
  shows_old = was.shows run.collection kept.matrix its_old

  shows_new : ShowsLive (graph_at g p (n + 1)) (rules_of (made_at p n run.collection)) m
  shows_new = subst (λ (views : List ViewPlan). ShowsLive (graph_at g p (n + 1)) (rules_of views) m) (same_views g p n s at by run.collection) (is.shows run.collection m m_at)

  abbrev order : List ℕ
  order = order_at g p run k.place n

  pub cost : EditsAreTakenBack → advance_calls answer g run m changes (order_in k.engine) ≡ touched_work answer g p n k.place
  cost law =
      let back : taken_back m changes ≡ kept.matrix =
      ap (λ (x : MatrixData). taken_back x changes) edited_here.gives ∙ (law kept.matrix changes edited_here.within edited_here.turns).1 in
      let old : task_over answer run.program g run.rounds (taken_back m changes) ≡ task_at answer g p run n =
      ap (λ (x : MatrixData). task_over answer run.program g run.rounds x) back ∙ over_is (graph_at g p n) kept.matrix (made_at p n run.collection) (live_count g p n) shows_old answer run in
      let new : task_over answer run.program g run.rounds m ≡ run_task answer (graph_at g p (n + 1)) run (made_at p n run.collection) =
      over_is (graph_at g p (n + 1)) m (made_at p n run.collection) (live_count g p (n + 1)) shows_new answer run in
      let many : length (order_in k.engine) ≡ length order = sym (length-map (order_in k.engine) (λ (v : ViewNo). v.0)) ∙ ap (λ (ns : List ℕ). length ns) its_order in
      let all : ℕ = number_of run.rounds in
      ap₂ (λ (a b : Task). touched a b (numbers (order_in k.engine)) * (length (order_in k.engine) * all)) old new
      ∙ ap₂ (λ (ns : List ℕ) (count : ℕ). touched (task_at answer g p run n) (run_task answer (graph_at g p (n + 1)) run (made_at p n run.collection)) ns * (count * all)) its_order many
      ∙ sym (ap (number_for (λ (r : RunPlan).
      let there = order_at g p r k.place n in
      touched (task_at answer g p r n) (run_task answer (graph_at g p (n + 1)) r (made_at p n r.collection)) there * (length there * number_of r.rounds))) run_at)

  -- ---- what it prints

  pub text : (form : Form) (c : CollectionPlan) → slice_get p.collections run.collection ≡ Some c → tables_text answer form (shown_graph g m) run c.name (slice_range c.views 0 (length m.columns)) ≡ followed_text answer form g p n k.place
  text form c c_at =
      let here : shown_graph g m ≡ graph_at g p (n + 1) = shown_is (graph_at g p (n + 1)) (rules_of (made_at p (n + 1) run.collection)) m (is.shows run.collection m m_at) in
      let views : slice_range c.views 0 (length m.columns) ≡ views_before p n c run.collection =
      seen g p (n + 1) run.collection c after m c_at is m_at ∙ ap (λ (k : ℕ). take k c.views) (same_count g p n s at by run.collection) in
      ap₂ (λ (w : LiveGraph) (vs : List ViewPlan). tables_text answer form w run c.name vs) here views ∙ sym (run_with answer form g p n run (Some c) c_at)
      ∙ sym (ap (list_of (run_text answer form g p n)) run_at)
