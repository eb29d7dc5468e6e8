-- A kept run, to whose collection views are added.
use Rattle.std.proofs.Common.{◌≡◌, ◌∙◌, ◌+◌, ◌-◌, ◌*◌, ◌<◌, ◌≤◌, ℕ, List, ◌++◌, length, take, All, Some, None, slice_get, slice_range, Bool, true, refl, sym, ap, subst, arith}
use Rattle.std.specs.Prelude.{is_some, if◌then◌else◌}
use Rattle.std.specs.List.{range_with_len, last_or}
use Rattle.std.proofs.Math.Nat.{mul_comm}
use Rattle.graph_model.specs.declared.number.ViewNo.{ViewNo}
use Rattle.graph_model.specs.GraphData.{GraphData}
use Rattle.vertex_lang.specs.declared.lone.Rounds.{Rounds}
use Rattle.vertex_lang.specs.Expressions.{Answer}
use Rattle.vertex_lang.specs.Lone.{number_of}
use Rattle.gvdl_check.specs.declared.plan.CollectionPlan.{CollectionPlan}
use Rattle.gvdl_check.specs.declared.plan.RunPlan.{RunPlan}
use Rattle.gvdl_check.specs.declared.plan.Step.TheVariants as step
use Rattle.gvdl_check.specs.declared.plan.Plan.{Plan}
use Rattle.view_matrix.specs.Matrices.{MatrixData, distance_of}
use Rattle.view_order.specs.Greedy.{numbers}
use Rattle.view_turns.specs.Turns.{done}
use Rattle.result_tables.specs.declared.form.Form.{Form}
use Rattle.surge_session.specs.declared.kept.Kept.{Kept}
use Rattle.surge_session.specs.declared.kept.RunEngine.{RunEngine}
use Rattle.surge_session.specs.declared.kept.RunEngine.TheVariants as run_engine
use Rattle.surge_session.specs.Live.{LiveGraph, graph_at}
use Rattle.surge_session.specs.Output.{made_at, in_order, order_at, tables_text, kept_text}
use Rattle.surge_session.specs.Works.{full_work, longer_work, added_work}
use Rattle.surge_session.specs.RunWorks.{more_calls}
use Rattle.surge_session.specs.State.{rules_of, ShowsLive, shown_graph, HasRunIn, order_in, IsKept, MatricesAt}
use Rattle.surge_session.proofs.LiveFacts.{shown_is}
use Rattle.surge_session.proofs.Places.{counted, columns_within, shows_taken}
use Rattle.surge_session.proofs.Stating.{in_another_order, its_name, its_order, its_phases, has_here, below_first, count_first, columns_first, more_is, kept_more, cost_more, added_here}
use Rattle.surge_session.proofs.Texts.{kept_here}

-- a work that is counted by nodes and rounds
by_nodes : (views nodes rounds : ℕ) → views * (nodes * rounds) ≡ nodes * rounds * views
by_nodes views nodes rounds = mul_comm views (nodes * rounds)

module _ (answer : Answer) (g : GraphData) (p : Plan) (n place number count : ℕ) (made : List MatrixData) (k : Kept) (kept : IsKept answer g p n made k) (run : RunPlan) (run_at : slice_get p.runs k.place ≡ Some run) (same : run.collection ≡ place)
    (appends : slice_get p.steps n ≡ Some (step.Append place number count)) (is : MatricesAt g p (n + 1) made) (m : MatrixData) (m_at : slice_get made place ≡ Some m) (first : ℕ) (is_first : first ≡ length (made_at p n place)) where
  here : slice_get made run.collection ≡ Some m
  here = ap (λ (other : ℕ). slice_get made other) same ∙ m_at

  at : slice_get p.steps n ≡ Some (step.Append run.collection number count)
  at = appends ∙ ap (λ (other : ℕ). Some (step.Append other number count)) (sym same)

  its_first : length (made_at p n run.collection) ≡ first
  its_first = ap (λ (other : ℕ). length (made_at p n other)) same ∙ sym is_first

  -- ---- before

  pub has_before : HasRunIn answer g run m k.engine
  has_before = has_here answer g p n made k run kept run_at m here

  pub first_within : first ≤ length m.columns
  first_within = omega (arith, its_first, columns_first answer g p n made k run kept run_at m here number count is at)

  pub all_below : All (λ (view : ViewNo). view.0 < first) (order_in k.engine)
  all_below = subst (λ (end : ℕ). All (λ (view : ViewNo). view.0 < end) (order_in k.engine)) its_first (below_first answer g p n made k run kept run_at)

  pub few_before : length (order_in k.engine) ≤ first
  few_before = omega (arith, its_first, count_first answer g p n made k run kept run_at)

  pub has_name : is_some run.keep ≡ true
  has_name = its_name answer g p n made k run kept run_at

  pub in_no_phases : run.phases ≡ None
  in_no_phases = its_phases answer g p n made k run kept run_at

  -- ---- behind

  abbrev order_from : ℕ → List ℕ
  order_from from = numbers (order_in k.engine) ++ in_order run.order (distance_of m) (last_or None (numbers (order_in k.engine))) (range_with_len from (length m.columns - from))

  module _ (new : RunEngine) (has : HasRunIn answer g run m new) (ordered : numbers (order_in new) ≡ order_from first) (grew : length (order_in new) ≡ length (order_in k.engine) + (length m.columns - first)) where
    its_more : numbers (order_in new) ≡ order_from (length (made_at p n run.collection))
    its_more = ordered ∙ ap order_from (sym its_first)

    pub kept_with_more : IsKept answer g p (n + 1) made (record { place = k.place; engine = new })
    kept_with_more = kept_more answer g p n made k run kept run_at m here number count is at new has its_more (record { place = k.place; engine = new }) refl (omega (arith, grew, few_before, first_within))

    ordered_at : numbers (order_in new) ≡ order_at g p run k.place (n + 1)
    ordered_at = its_more ∙ more_is answer g p n made k run kept run_at m here number count is at

    columns_now : length m.columns ≡ length (made_at p (n + 1) place)
    columns_now = counted g p (n + 1) place made m is m_at

    -- ---- how often the updater is called

    abbrev told : Bool → ℕ
    told edited = if edited then full_work g run (length (made_at p (n + 1) run.collection) - length (made_at p n run.collection)) else longer_work answer g p run k.place n

    added_is : added_work answer g p n place k.place ≡ told run.edited
    added_is = added_here answer g p n place k.place run run_at same

    by_engine : (old later : RunEngine) → k.engine ≡ old → new ≡ later → more_calls answer run m old later ≤ told run.edited
    by_engine (run_engine.Plain e) (run_engine.Plain f) before after =
        let old : HasRunIn answer g run m (run_engine.Plain e) = subst (λ (x : RunEngine). HasRunIn answer g run m x) before has_before in
        let later : HasRunIn answer g run m (run_engine.Plain f) = subst (λ (x : RunEngine). HasRunIn answer g run m x) after has in
        let first_order : numbers e.order ≡ order_at g p run k.place n = ap (λ (x : RunEngine). numbers (order_in x)) (sym before) ∙ its_order answer g p n made k run kept run_at in
        let second_order : numbers f.order ≡ order_at g p run k.place (n + 1) = ap (λ (x : RunEngine). numbers (order_in x)) (sym after) ∙ ordered_at in
        let cost : done f - done e ≡ longer_work answer g p run k.place n =
        cost_more answer g p n made k run kept run_at m here number count is at e f (in_another_order answer g run m (numbers e.order) (order_at g p run k.place n) e first_order old.1)
        (in_another_order answer g run m (numbers f.order) (order_at g p run k.place (n + 1)) f second_order later.1) in
        omega (arith, cost ∙ sym (ap told old.0))
    by_engine (run_engine.Versions e) (run_engine.Versions f) before after =
        let later : HasRunIn answer g run m (run_engine.Versions f) = subst (λ (x : RunEngine). HasRunIn answer g run m x) after has in
        let old_count : length e.order ≡ length (order_in k.engine) = ap (λ (x : RunEngine). length (order_in x)) (sym before) in
        let new_count : length f.order ≡ length (order_in new) = ap (λ (x : RunEngine). length (order_in x)) (sym after) in
        let now : length (made_at p (n + 1) run.collection) ≡ length (made_at p (n + 1) place) = ap (λ (other : ℕ). length (made_at p (n + 1) other)) same in
        let views : length f.order - length e.order ≡ length (made_at p (n + 1) run.collection) - length (made_at p n run.collection) = omega (arith, old_count, new_count, now, grew, columns_now, its_first) in
        let nodes : length f.graph.now.ids ≡ length g.ids = ap (λ (x : GraphData). length x.ids) later.1.graph in
        let rounds : number_of f.rounds ≡ number_of run.rounds = ap (λ (x : Rounds). number_of x) later.1.rounds in
        let cost : more_calls answer run m (run_engine.Versions e) (run_engine.Versions f) ≡ told true =
        ap (λ (v : ℕ). v * (length f.graph.now.ids * number_of f.rounds)) views
        ∙ ap (λ (i : ℕ). (length (made_at p (n + 1) run.collection) - length (made_at p n run.collection)) * (i * number_of f.rounds)) nodes
        ∙ ap (λ (r : ℕ). (length (made_at p (n + 1) run.collection) - length (made_at p n run.collection)) * (length g.ids * r)) rounds
        ∙ by_nodes (length (made_at p (n + 1) run.collection) - length (made_at p n run.collection)) (length g.ids) (number_of run.rounds) in
        omega (arith, cost ∙ sym (ap told later.0))
    by_engine (run_engine.Plain e) (run_engine.Versions f) before after = omega arith
    by_engine (run_engine.Plain e) (run_engine.Phased results) before after = omega arith
    by_engine (run_engine.Versions e) (run_engine.Plain f) before after = omega arith
    by_engine (run_engine.Versions e) (run_engine.Phased results) before after = omega arith
    by_engine (run_engine.Phased results) later before after = omega arith

    pub within_added : more_calls answer run m k.engine new ≤ added_work answer g p n place k.place
    within_added = omega (arith, by_engine k.engine new refl refl, added_is)

  -- ---- what is written

  shown_here : shown_graph g m ≡ graph_at g p (n + 1)
  shown_here = shown_is (graph_at g p (n + 1)) (rules_of (made_at p (n + 1) place)) m (is.shows place m m_at)

  module _ (collection : CollectionPlan) (c_at : slice_get p.collections place ≡ Some collection) where
    pub within_views : length m.columns ≤ length collection.views
    within_views = columns_within g p (n + 1) place collection made m c_at is m_at

    pub shows_views : ShowsLive (shown_graph g m) (rules_of (take (length m.columns) collection.views)) m
    shows_views = subst (λ (w : LiveGraph). ShowsLive w (rules_of (take (length m.columns) collection.views)) m) (sym shown_here) (shows_taken g p (n + 1) place collection made m c_at is m_at)

    pub text_of_added : (form : Form) → tables_text answer form (shown_graph g m) run collection.name (slice_range collection.views first (length m.columns))
        ≡ kept_text answer form (graph_at g p (n + 1)) p collection.name (slice_range collection.views first (length (made_at p (n + 1) place))) place k.place
    text_of_added form =
        let name = collection.name in
        ap (λ (w : LiveGraph). tables_text answer form w run name (slice_range collection.views first (length m.columns))) shown_here
        ∙ ap (λ (end : ℕ). tables_text answer form (graph_at g p (n + 1)) run name (slice_range collection.views first end)) (counted g p (n + 1) place made m is m_at)
        ∙ sym (kept_here answer form (graph_at g p (n + 1)) p name (slice_range collection.views first (length (made_at p (n + 1) place))) place k.place run run_at same)
