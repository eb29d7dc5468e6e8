-- What a statement that runs views leaves, prints and costs.
use Rattle.std.proofs.Common.{◌≡◌, ◌≢◌, ◌∙◌, ◌+◌, ◌-◌, ◌*◌, ◌<◌, ◌≤◌, ℕ, zero, suc, List, [], ◌∷◌, ◌++◌, length, take, drop, get_or, All, Option, Some, None, Result, Ok, Err, OnOk, slice_get, slice_range, refl, sym, ap, ap₂, subst, arith, Bool, true, is_some, codes}
use Rattle.std.specs.Prelude.{◌==◌, if◌then◌else◌}
use Rattle.std.specs.List.{range_with_len, last_or}
use Rattle.std.proofs.lemmas.Bool.{ne_eqb, eq-eqb}
use Rattle.graph_model.specs.declared.number.ViewNo.{ViewNo}
use Rattle.graph_model.specs.GraphData.{GraphData}
use Rattle.vertex_lang.specs.Expressions.{Answer}
use Rattle.gvdl_check.specs.declared.plan.ViewPlan.{ViewPlan}
use Rattle.gvdl_check.specs.declared.plan.CollectionPlan.{CollectionPlan}
use Rattle.gvdl_check.specs.declared.plan.RunPlan.{RunPlan}
use Rattle.gvdl_check.specs.declared.plan.Step.{Step}
use Rattle.gvdl_check.specs.declared.plan.Step.TheVariants as step
use Rattle.gvdl_check.specs.declared.plan.Plan.{Plan}
use Rattle.gvdl_check.specs.Steps.{views_at, StepFits}
use Rattle.gvdl_check.specs.Fits.{RunFits, PlanFits}
use Rattle.std.proofs.lemmas.List.{take-append-le, take_all}
use Rattle.std.proofs.lemmas.Option.{slice_get_within, get_or_from_slice_get}
use Rattle.result_tables.specs.declared.form.Form.{Form}
use Rattle.view_matrix.specs.Matrices.{MatrixData, IsView, distance_of}
use Rattle.view_order.specs.Greedy.{numbers}
use Rattle.view_engine.specs.declared.engine.Engine.{Engine}
use Rattle.view_engine.specs.Engines.{segments_in}
use Rattle.view_turns.specs.Turns.{done}
use Rattle.result_tables.specs.TableText.{line_end}
use Rattle.surge_session.specs.declared.kept.Kept.{Kept}
use Rattle.surge_session.specs.declared.kept.RunEngine.{RunEngine}
use Rattle.surge_session.specs.declared.kept.RunEngine.TheVariants as run_engine
use Rattle.surge_session.specs.Output.{list_of, run_task, task_at, segments_at, named_work, work_lines, work_text, tables_text, views_before, made_at, begun_in, in_order, first_order, longer_order, order_at, run_text, text_of, step_text}
use Rattle.surge_session.specs.Works.{order_work, longer_work, full_work, number_for, own_runs, phased_work, run_in, run_work, added_work, work_of_step, step_work}
use Rattle.surge_session.specs.RunWorks.{first_calls}
use Rattle.phase_runs.specs.Answers.{held_views}
use Rattle.vertex_lang.specs.declared.lone.Rounds.{Rounds}
use Rattle.vertex_lang.specs.Lone.{number_of}
use Rattle.std.proofs.Math.Nat.{mul_comm}
use Rattle.std.proofs.lemmas.List.{length-map}
use Rattle.surge_session.specs.State.{rules_of, places_of, ShowsLive, shown_graph, HasRun, HasRunIn, order_in, IsFor, IsKept, MatricesAt}
use Rattle.surge_session.specs.Live.{LiveGraph, graph_at}
use Rattle.surge_session.specs.WorkLines.{lines_of}
use Rattle.surge_session.proofs.LiveFacts.{live_count, shown_is, graph_passed}
use Rattle.surge_session.proofs.Keeping.{run_views_in, kept_on, own_order, longer, elsewhere_order}
use Rattle.surge_session.proofs.Places.{made_same, made_rises, views_same, runs_more, counted, seen}
use Rattle.surge_session.proofs.Running.{first_is, longer_is, done_is, lines_are, own_is}
use Rattle.surge_session.proofs.Texts.{found, run_step_is, run_with}

pub in_another_order : (answer : Answer) (g : GraphData) (run : RunPlan) (m : MatrixData) (before after : List ℕ) (e : Engine) → before ≡ after → HasRun answer g run m before e → HasRun answer g run m after e
in_another_order answer g run m before after e same has = subst (λ (order : List ℕ). HasRun answer g run m order e) same has

work_with : (answer : Answer) (g : GraphData) (p : Plan) (n place : ℕ) (run : Option RunPlan) → slice_get p.runs place ≡ run
    → work_text answer g p n place ≡ list_of (λ (r : RunPlan). list_of (λ (x : List ℕ). named_work x (task_at answer g p r n) (made_at p n r.collection) (segments_at answer g p r place n)) r.keep) run
work_with answer g p n place run at = ap (list_of (λ (r : RunPlan). list_of (λ (x : List ℕ). named_work x (task_at answer g p r n) (made_at p n r.collection) (segments_at answer g p r place n)) r.keep)) at

-- a run that isn't kept under a name has no such text
pub no_work : (answer : Answer) (g : GraphData) (p : Plan) (n place : ℕ) (run : RunPlan) → slice_get p.runs place ≡ Some run → run.keep ≡ None → work_text answer g p n place ≡ []
no_work answer g p n place run at none =
    work_with answer g p n place (Some run) at ∙ ap (list_of (λ (x : List ℕ). named_work x (task_at answer g p run n) (made_at p n run.collection) (segments_at answer g p run place n))) none

-- ---- a run

module _ (answer : Answer) (g : GraphData) (p : Plan) (n place : ℕ) (run : RunPlan) (at : slice_get p.steps n ≡ Some (step.Run place)) (run_at : slice_get p.runs place ≡ Some run)
    (made : List MatrixData) (is : MatricesAt g p n made) (m : MatrixData) (m_at : slice_get made run.collection ≡ Some m) where
  same_views : made_at p (n + 1) run.collection ≡ made_at p n run.collection
  same_views = made_same p n run.collection (views_same p n run.collection (step.Run place) at refl)

  same_graph : graph_at g p (n + 1) ≡ graph_at g p n
  same_graph = graph_passed g p n (step.Run place) at refl

  shows_now : ShowsLive (graph_at g p n) (rules_of (made_at p n run.collection)) m
  shows_now = is.shows run.collection m m_at

  shows_then : ShowsLive (graph_at g p (n + 1)) (rules_of (made_at p (n + 1) run.collection)) m
  shows_then =
      subst (λ (w : LiveGraph). ShowsLive w (rules_of (made_at p (n + 1) run.collection)) m) (sym same_graph)
      (subst (λ (views : List ViewPlan). ShowsLive (graph_at g p n) (rules_of views) m) (sym same_views) shows_now)

  shown_here : shown_graph g m ≡ graph_at g p (n + 1)
  shown_here = shown_is (graph_at g p (n + 1)) (rules_of (made_at p (n + 1) run.collection)) m shows_then

  pub order_is : begun_in run.order (distance_of m) (range_with_len 0 (length m.columns)) ≡ order_at g p run place (n + 1)
  order_is = first_is (graph_at g p (n + 1)) m (made_at p (n + 1) run.collection) (live_count g p (n + 1)) shows_then run ∙ sym (own_order g p run place n at)

  -- what an engine that shares work has done is the work of the order
  pub ran_plain : (e : Engine) → numbers e.order ≡ order_at g p run place (n + 1) → HasRun answer g run m (numbers e.order) e → done e ≡ order_work answer (graph_at g p (n + 1)) run (made_at p (n + 1) run.collection) (order_at g p run place (n + 1))
  ran_plain e same has =
      done_is (graph_at g p (n + 1)) m (made_at p (n + 1) run.collection) (live_count g p (n + 1)) shows_then answer run (order_at g p run place (n + 1)) e
      (in_another_order answer g run m (numbers e.order) (order_at g p run place (n + 1)) e same has)

  abbrev there : List ViewPlan
  there = made_at p (n + 1) run.collection

  abbrev order : List ℕ
  order = order_at g p run place (n + 1)

  -- how often the updater is called at most
  pub ran_calls : (engine : RunEngine) → HasRunIn answer g run m engine → numbers (order_in engine) ≡ order_at g p run place (n + 1) → first_calls answer g run m engine ≡ run_work answer g p n place run
  ran_calls (run_engine.Plain e) has same =
      ran_plain e same has.1
      ∙ sym (ap (λ (b : Bool). if b then full_work g run (length order) else order_work answer (graph_at g p (n + 1)) run there order) has.0)
      ∙ sym (ap (λ (o : Option ℕ). run_in answer g run (graph_at g p (n + 1)) there order o) has.1.unphased)
  ran_calls (run_engine.Versions e) has same =
      let count : length e.order ≡ length order = sym (length-map e.order (λ (v : ViewNo). v.0)) ∙ ap (λ (ns : List ℕ). length ns) same in
      ap₂ (λ (x : GraphData) (r : Rounds). length e.order * (length x.ids * number_of r)) has.1.graph has.1.rounds
      ∙ mul_comm (length e.order) (length g.ids * number_of run.rounds)
      ∙ ap (λ (k : ℕ). length g.ids * number_of run.rounds * k) count
      ∙ sym (ap (λ (b : Bool). if b then full_work g run (length order) else order_work answer (graph_at g p (n + 1)) run there order) has.0)
      ∙ sym (ap (λ (o : Option ℕ). run_in answer g run (graph_at g p (n + 1)) there order o) has.1.unphased)
  ran_calls (run_engine.Phased results) has same =
      ap₂ (λ (phases runs : ℕ). length g.ids * (number_of run.rounds * phases) * runs) (ap (number_for (λ (k : ℕ). k)) has.1.phases)
      (own_is (graph_at g p (n + 1)) m there (live_count g p (n + 1)) shows_then (held_views results) ∙ ap (own_runs (graph_at g p (n + 1)) there None) same)
      ∙ sym (ap (λ (o : Option ℕ). run_in answer g run (graph_at g p (n + 1)) there order o) has.1.phases)

  pub ran_text : (form : Form) (c : CollectionPlan) → slice_get p.collections run.collection ≡ Some c → tables_text answer form (shown_graph g m) run c.name (slice_range c.views 0 (length m.columns)) ≡ step_text answer form g p n
  ran_text form c c_at =
      ap (λ (w : LiveGraph). tables_text answer form w run c.name (slice_range c.views 0 (length m.columns))) shown_here
      ∙ ap (λ (views : List ViewPlan). tables_text answer form (graph_at g p (n + 1)) run c.name views) (seen g p n run.collection c made m c_at is m_at)
      ∙ sym (run_with answer form g p n run (Some c) c_at) ∙ sym (run_step_is answer form g p n place (Some run) at run_at)

-- ---- a kept run, and views that are added to its collection

module _ (answer : Answer) (g : GraphData) (p : Plan) (n : ℕ) (made : List MatrixData) (k : Kept) (run : RunPlan) (kept : IsKept answer g p n made k) (run_at : slice_get p.runs k.place ≡ Some run) where
  its_run : kept.run ≡ run
  its_run = let e : Some kept.run ≡ Some run = sym kept.at ∙ run_at in cc

  its_matrix : slice_get made run.collection ≡ Some kept.matrix
  its_matrix = ap (λ (r : RunPlan). slice_get made r.collection) (sym its_run) ∙ kept.shown

  its_has : HasRunIn answer g run kept.matrix k.engine
  its_has = subst (λ (r : RunPlan). HasRunIn answer g r kept.matrix k.engine) its_run kept.has

  pub its_order : numbers (order_in k.engine) ≡ order_at g p run k.place n
  its_order = kept.order ∙ ap (λ (r : RunPlan). order_at g p r k.place n) its_run

  pub its_name : is_some run.keep ≡ true
  its_name = ap (λ (r : RunPlan). is_some r.keep) (sym its_run) ∙ kept.named

  pub its_phases : run.phases ≡ None
  its_phases = ap (λ (r : RunPlan). r.phases) (sym its_run) ∙ kept.unphased

  pub below_first : All (λ (view : ViewNo). view.0 < length (made_at p n run.collection)) (order_in k.engine)
  below_first = subst (λ (r : RunPlan). All (λ (view : ViewNo). view.0 < length (made_at p n r.collection)) (order_in k.engine)) its_run kept.below

  pub count_first : length (order_in k.engine) ≤ length (made_at p n run.collection)
  count_first = subst (λ (r : RunPlan). length (order_in k.engine) ≤ length (made_at p n r.collection)) its_run kept.count

  module _ (m : MatrixData) (m_at : slice_get made run.collection ≡ Some m) where
    the_matrix : kept.matrix ≡ m
    the_matrix = let e : Some kept.matrix ≡ Some m = sym its_matrix ∙ m_at in cc

    pub has_here : HasRunIn answer g run m k.engine
    has_here = subst (λ (x : MatrixData). HasRunIn answer g run x k.engine) the_matrix its_has

    -- an engine that shares work
    module _ (e : Engine) (plain : k.engine ≡ run_engine.Plain e) where
      pub has_plain : HasRun answer g run m (order_at g p run k.place n) e
      has_plain =
          let here : HasRunIn answer g run m (run_engine.Plain e) = subst (λ (x : RunEngine). HasRunIn answer g run m x) plain has_here in
          in_another_order answer g run m (numbers e.order) (order_at g p run k.place n) e (ap (λ (x : RunEngine). numbers (order_in x)) (sym plain) ∙ its_order) here.1

      -- the text of its work
      module _ (is : MatricesAt g p n made) where
        shows_work : ShowsLive (graph_at g p n) (rules_of (made_at p n run.collection)) m
        shows_work = is.shows run.collection m m_at

        pub work_shown : (name : List ℕ) (views : List ViewPlan) → run.keep ≡ Some name → views ≡ made_at p n run.collection
            → codes "work " ++ (name ++ (line_end ++ (lines_of views 1 (segments_in e) ++ (codes "end" ++ line_end)))) ≡ work_text answer g p n k.place
        work_shown name views named same =
            let there = made_at p n run.collection in
            let lines : lines_of views 1 (segments_in e) ≡ work_lines (run_task answer (graph_at g p n) run there) there 1 (segments_at answer g p run k.place n) =
            ap (λ (vs : List ViewPlan). lines_of vs 1 (segments_in e)) same ∙ lines_are (graph_at g p n) m there (live_count g p n) shows_work answer run (order_at g p run k.place n) e has_plain in
            ap (λ (t : List ℕ). codes "work " ++ (name ++ (line_end ++ (t ++ (codes "end" ++ line_end))))) lines
            ∙ sym (ap (list_of (λ (x : List ℕ). named_work x (task_at answer g p run n) (made_at p n run.collection) (segments_at answer g p run k.place n))) named)
            ∙ sym (work_with answer g p n k.place (Some run) run_at)

    module _ (first count : ℕ) (is : MatricesAt g p (n + 1) made) (at : slice_get p.steps n ≡ Some (step.Append run.collection first count)) where
      pub columns_first : length (made_at p n run.collection) ≤ length m.columns
      columns_first = omega (arith, counted g p (n + 1) run.collection made m is m_at, made_rises p n run.collection (step.Append run.collection first count) at)

      abbrev from : ℕ
      from = length (made_at p n run.collection)

      abbrev more : List ℕ
      more = numbers (order_in k.engine) ++ in_order run.order (distance_of m) (last_or None (numbers (order_in k.engine))) (range_with_len from (length m.columns - from))

      pub more_is : more ≡ order_at g p run k.place (n + 1)
      more_is =
          longer_is (graph_at g p (n + 1)) m (made_at p (n + 1) run.collection) (live_count g p (n + 1)) (is.shows run.collection m m_at) run (numbers (order_in k.engine)) from
          ∙ ap (λ (before : List ℕ). longer_order (graph_at g p (n + 1)) run (made_at p (n + 1) run.collection) before from) its_order
          ∙ sym (longer g p run k.place n first count at kept.earlier)

      module _ (e : RunEngine) (has : HasRunIn answer g run m e) (ordered : numbers (order_in e) ≡ more) where
        pub kept_more : (x : Kept) → x ≡ record { place = k.place; engine = e } → length (order_in e) ≤ length m.columns → IsKept answer g p (n + 1) made x
        kept_more x same few =
            let there = counted g p (n + 1) run.collection made m is m_at in
            let views : All (IsView m) (order_in e) = run_views_in answer g run m e its_phases has in
            let now : IsKept answer g p (n + 1) made (record { place = k.place; engine = e }) = record {
              run = run;
              at = run_at;
              named = its_name;
              earlier = omega (arith, kept.earlier, runs_more p n (step.Append run.collection first count) at);
              unphased = its_phases;
              matrix = m;
              shown = m_at;
              has = has;
              order = ordered ∙ more_is;
              below = λ i d lt. let v = views i d lt in omega (arith, v, there);
              count = omega (arith, few, there);
            } in
            subst (λ (y : Kept). IsKept answer g p (n + 1) made y) (sym same) now

      -- what an engine that shares work did on the added views
      pub cost_more : (e f : Engine) → HasRun answer g run m (order_at g p run k.place n) e → HasRun answer g run m (order_at g p run k.place (n + 1)) f → done f - done e ≡ longer_work answer g p run k.place n
      cost_more e f before after =
          let views = made_at p (n + 1) run.collection in
          let w = graph_at g p (n + 1) in
          let shows : ShowsLive w (rules_of views) m = is.shows run.collection m m_at in
          let old : done e ≡ order_work answer w run views (order_at g p run k.place n) = done_is w m views (live_count g p (n + 1)) shows answer run (order_at g p run k.place n) e before in
          let new : done f ≡ order_work answer w run views (order_at g p run k.place (n + 1)) = done_is w m views (live_count g p (n + 1)) shows answer run (order_at g p run k.place (n + 1)) f after in
          ap₂ (λ (x y : ℕ). x - y) new old

-- ---- what the append counts for a kept run

pub added_here : (answer : Answer) (g : GraphData) (p : Plan) (n place kept : ℕ) (run : RunPlan) → slice_get p.runs kept ≡ Some run → run.collection ≡ place → added_work answer g p n place kept ≡ (if run.edited then full_work g run (length (made_at p (n + 1) run.collection) - length (made_at p n run.collection)) else longer_work answer g p run kept n)
added_here answer g p n place kept run at e =
    let more : RunPlan → ℕ = λ r. if r.edited then full_work g r (length (made_at p (n + 1) r.collection) - length (made_at p n r.collection)) else longer_work answer g p r kept n in
    ap (number_for (λ (r : RunPlan). if r.collection == place then more r else 0)) at
    ∙ ap (λ (b : Bool). if b then more run else 0) (eq-eqb run.collection place e)

-- a kept run on another collection stays as it is
pub kept_apart : (answer : Answer) (g : GraphData) (p : Plan) (n place first count : ℕ) (made : List MatrixData) (k : Kept) (run : RunPlan) (kept : IsKept answer g p n made k) → slice_get p.runs k.place ≡ Some run → slice_get p.steps n ≡ Some (step.Append place first count)
    → run.collection ≢ place → IsKept answer g p (n + 1) made k
kept_apart answer g p n place first count made k run kept run_at at ne =
    let same : kept.run ≡ run = (let e : Some kept.run ≡ Some run = sym kept.at ∙ run_at in cc) in
    kept_on answer g p n made k (step.Append place first count) at kept
    (elsewhere_order g p kept.run k.place n place first count at (λ e. ne (ap (λ (r : RunPlan). r.collection) (sym same) ∙ sym e)))

-- ---- what a statement names

pub at_index : {X : Type 0} (xs ys : List X) (i : ℕ) (x y : X) → xs ≡ ys → slice_get ys i ≡ Some y → x ≡ get_or xs i x → slice_get ys i ≡ Some x
at_index xs ys i x y same at is = found xs ys i x same (omega (arith, slice_get_within ys i y at, ap (λ (zs : List _). length zs) same)) is

pub step_fits : (g : GraphData) (p : Plan) (n : ℕ) (s : Step) → PlanFits g p → slice_get p.steps n ≡ Some s → StepFits p n s
step_fits g p n s fits at = subst (λ (x : Step). StepFits p n x) (get_or_from_slice_get p.steps n s step.Nothing at) (fits.steps n (slice_get_within p.steps n s at))

pub run_here : (p : Plan) (place : ℕ) (runs : List RunPlan) (run : RunPlan) → place < length p.runs → runs ≡ p.runs → run ≡ get_or runs place run → slice_get p.runs place ≡ Some run
run_here p place runs run lt same is = found runs p.runs place run same (omega (arith, lt, ap (λ (rs : List RunPlan). length rs) same)) is

pub its_collection : (g : GraphData) (p : Plan) (place : ℕ) (run : RunPlan) → PlanFits g p → slice_get p.runs place ≡ Some run → run.collection < length p.collections
its_collection g p place run fits at =
    let here : RunFits g (length p.collections) run = subst (λ (r : RunPlan). RunFits g (length p.collections) r) (get_or_from_slice_get p.runs place run run at) (fits.runs place run (slice_get_within p.runs place run at)) in
    here.collection

pub matrix_here : (g : GraphData) (p : Plan) (n : ℕ) (made : List MatrixData) (is : MatricesAt g p n made) (place : ℕ) (m : MatrixData) → place < length p.collections → m ≡ get_or made place m → slice_get made place ≡ Some m
matrix_here g p n made is place m lt same = found made made place m refl (omega (arith, is.all, lt)) same

pub both_ok : {A E : Type 0} (r : Result A E) {P Q R : Type 0} → (P → Q → R) → OnOk r P → OnOk r Q → OnOk r R
both_ok (Ok a) f p q = f p q
both_ok (Err e) f p q = tt

pub places_all : (P : ℕ → Type 0) (kept : List Kept) → All (λ (k : Kept). P k.place) kept → All P (places_of kept)
places_all P [] all = λ i d lt. absurd (omega (arith, lt))
places_all P (k ∷ ks) all = behind_one P k.place (places_of ks) (all 0 k (omega arith)) (places_all P ks (λ i d lt. all (suc i) d (omega (arith, lt)))) where
  behind_one : (Q : ℕ → Type 0) (x : ℕ) (xs : List ℕ) → Q x → All Q xs → All Q (x ∷ xs)
  behind_one Q x xs q rest zero d lt = q
  behind_one Q x xs q rest (suc i) d lt = rest i d (omega (arith, lt))

-- a list that was lent and came back as long as it was
pub came_back : {X : Type 0} (new old : List X) (count : ℕ) → length new ≡ length old → count ≡ length old → take count (new ++ drop (length new) old) ≡ new
came_back new old count same is = take-append-le count new (drop (length new) old) (omega (arith, same, is)) ∙ take_all count new (omega (arith, same, is))

pub step_work_is : (answer : Answer) (g : GraphData) (p : Plan) (n : ℕ) (s : Step) → slice_get p.steps n ≡ Some s → step_work answer g p n ≡ work_of_step answer g p n s
step_work_is answer g p n s at = ap (number_for (work_of_step answer g p n)) at

pub run_step_work : (answer : Answer) (g : GraphData) (p : Plan) (n place : ℕ) (run : RunPlan) → slice_get p.steps n ≡ Some (step.Run place) → slice_get p.runs place ≡ Some run → step_work answer g p n ≡ run_work answer g p n place run
run_step_work answer g p n place run at run_at = step_work_is answer g p n (step.Run place) at ∙ ap (number_for (run_work answer g p n place)) run_at
