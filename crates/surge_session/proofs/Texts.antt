-- What a statement prints, by what it names.
use Rattle.std.proofs.Common.{◌≡◌, ◌∙◌, ◌+◌, ◌<◌, ◌≤◌, ℕ, zero, suc, List, [], ◌∷◌, ◌++◌, length, get_or, Option, Some, None, Result, Ok, Err, OnOk, slice_get, ap, ap₂, subst, refl, arith, flat_map, append-nil, Bool, true, false, is_some, sym}
use Rattle.std.specs.Prelude.{◌==◌, if◌then◌else◌, IfSome}
use Rattle.std.specs.List.{range_with_len}
use Rattle.std.proofs.lemmas.Grind.{flat_map-append}
use Rattle.std.proofs.lemmas.Bool.{ne_eqb, eq-eqb}
use Rattle.std.proofs.lemmas.Option.{slice_get_within, slice_get_read, slice_get_past, get_or_from_slice_get}
use Rattle.graph_model.specs.GraphData.{GraphData}
use Rattle.vertex_lang.specs.Expressions.{Answer}
use Rattle.gvdl_check.specs.declared.plan.ViewPlan.{ViewPlan}
use Rattle.gvdl_check.specs.declared.plan.CollectionPlan.{CollectionPlan}
use Rattle.gvdl_check.specs.declared.plan.RunPlan.{RunPlan}
use Rattle.gvdl_check.specs.declared.plan.Step.{Step}
use Rattle.gvdl_check.specs.declared.plan.Step.TheVariants as step
use Rattle.gvdl_check.specs.declared.plan.Plan.{Plan}
use Rattle.gvdl_check.specs.Fits.{ColumnsFit, RunFits, SumFits, PlanFits}
use Rattle.aggregate_views.specs.Rows.{HasSumColumn}
use Rattle.result_tables.specs.declared.form.Form.{Form}
use Rattle.surge_session.specs.Live.{LiveGraph, graph_at}
use Rattle.surge_session.specs.Aggregates.{aggregate_text}
use Rattle.surge_session.specs.Output.{list_of, tables_text, views_before, views_added, kept_at, run_text, kept_text, append_text, order_text, shown_text, tree_text, shown_tree, groups_text, text_of, step_text, texts, IsRun}

-- ---- looking up

pub any_default : {X : Type 0} (xs : List X) (i : ℕ) (d e : X) → i < length xs → get_or xs i d ≡ get_or xs i e
any_default [] i d e lt = absurd (omega arith)
any_default (x ∷ xs) zero d e lt = refl
any_default (x ∷ xs) (suc i) d e lt = any_default xs i d e (omega arith)

pub found : {X : Type 0} (xs ys : List X) (i : ℕ) (x : X) → xs ≡ ys → i < length xs → x ≡ get_or xs i x → slice_get ys i ≡ Some x
found {X} xs ys i x same lt is = subst (λ (zs : List X). slice_get zs i ≡ Some x) same (slice_get_read xs (length xs) i x refl lt is)

pub missing : {X : Type 0} (xs ys : List X) (i : ℕ) → xs ≡ ys → length xs ≤ i → slice_get ys i ≡ None
missing {X} xs ys i same le = subst (λ (zs : List X). slice_get zs i ≡ None) same (slice_get_past xs i le)

-- what stands at a place of a list
pub at_place : {X : Type 0} (xs : List X) (i : ℕ) → i < length xs → (x : X) × (slice_get xs i ≡ Some x)
at_place [] i lt = absurd (omega (arith, lt))
at_place (x ∷ xs) zero lt = (x, refl)
at_place (x ∷ xs) (suc i) lt = at_place xs i (omega (arith, lt))

pub on_ok : {A E : Type 0} (r : Result A E) {P Q : Type 0} → (P → Q) → OnOk r P → OnOk r Q
on_ok (Ok a) f h = f h
on_ok (Err e) f h = tt

pub if_ok : {A E : Type 0} (r : Result A E) {P : Type 0} → P → OnOk r P
if_ok (Ok a) p = p
if_ok (Err e) p = tt

-- each run of a plan can be made
pub run_fits : (g : GraphData) (p : Plan) (n : ℕ) (run : RunPlan) → PlanFits g p → slice_get p.runs n ≡ Some run → IsRun g run
run_fits g p n run fits at =
    let here : RunFits g (length p.collections) run = subst (λ (r : RunPlan). RunFits g (length p.collections) r) (get_or_from_slice_get p.runs n run run at) (fits.runs n run (slice_get_within p.runs n run at)) in
    record { checked = here.checked; some = here.some; few = here.limit; split = here.split; phases = fewer run.phases here.phases } where
      fewer : (phases : Option ℕ) → IfSome phases (λ n. (1 ≤ n) × (n ≤ 1_000) × (run.keep ≡ None)) → IfSome phases (λ n. (1 ≤ n) × (n ≤ 1_000))
      fewer None h = tt
      fewer (Some n) h = (h.0, h.1)

pub few_phases : (phases : Option ℕ) (n : ℕ) → phases ≡ Some n → IfSome phases (λ k. (1 ≤ k) × (k ≤ 1_000)) → (1 ≤ n) × (n ≤ 1_000)
few_phases phases n is h = subst (λ (o : Option ℕ). IfSome o (λ k. (1 ≤ k) × (k ≤ 1_000))) is h

-- a run that is kept has no phases
pub kept_unphased : (g : GraphData) (p : Plan) (n : ℕ) (run : RunPlan) → PlanFits g p → slice_get p.runs n ≡ Some run → is_some run.keep ≡ true → run.phases ≡ None
kept_unphased g p n run fits at named =
    let here : RunFits g (length p.collections) run = subst (λ (r : RunPlan). RunFits g (length p.collections) r) (get_or_from_slice_get p.runs n run run at) (fits.runs n run (slice_get_within p.runs n run at)) in
    none run.phases here.phases where
      none : (phases : Option ℕ) → IfSome phases (λ n. (1 ≤ n) × (n ≤ 1_000) × (run.keep ≡ None)) → phases ≡ None
      none None h = refl
      none (Some n) h = absurd (let e : true ≡ false = sym named ∙ ap is_some h.2 in cc)

-- each column that a statement names is one of the graph
pub columns_fit : (g : GraphData) (p : Plan) (n : ℕ) (s : Step) → PlanFits g p → slice_get p.steps n ≡ Some s → ColumnsFit g s
columns_fit g p n s fits at = subst (λ (x : Step). ColumnsFit g x) (get_or_from_slice_get p.steps n s step.Nothing at) (fits.columns n step.Nothing (slice_get_within p.steps n s at))

pub sum_column : (g : GraphData) (sum : Option ℕ) → SumFits g sum → HasSumColumn g sum
sum_column g None h = tt
sum_column g (Some column) h = slice_get_within g.edge_columns column h.0 h.1

-- ---- a run

pub run_with : (answer : Answer) (form : Form) (g : GraphData) (p : Plan) (n : ℕ) (run : RunPlan) (c : Option CollectionPlan) → slice_get p.collections run.collection ≡ c
    → run_text answer form g p n run ≡ list_of (λ (x : CollectionPlan). tables_text answer form (graph_at g p (n + 1)) run x.name (views_before p n x run.collection)) c
run_with answer form g p n run c at = ap (λ (o : Option CollectionPlan). list_of (λ (x : CollectionPlan). tables_text answer form (graph_at g p (n + 1)) run x.name (views_before p n x run.collection)) o) at

-- ---- a kept run

kept_with : (answer : Answer) (form : Form) (w : LiveGraph) (p : Plan) (name : List ℕ) (added : List ViewPlan) (place kept : ℕ) (run : Option RunPlan) → slice_get p.runs kept ≡ run
    → kept_text answer form w p name added place kept ≡ list_of (λ (r : RunPlan). if r.collection == place then tables_text answer form w r name added else []) run
kept_with answer form w p name added place kept run at = ap (λ (o : Option RunPlan). list_of (λ (r : RunPlan). if r.collection == place then tables_text answer form w r name added else []) o) at

pub kept_missing : (answer : Answer) (form : Form) (w : LiveGraph) (p : Plan) (name : List ℕ) (added : List ViewPlan) (place kept : ℕ) → slice_get p.runs kept ≡ None → kept_text answer form w p name added place kept ≡ []
kept_missing answer form w p name added place kept at = kept_with answer form w p name added place kept None at

pub kept_elsewhere : (answer : Answer) (form : Form) (w : LiveGraph) (p : Plan) (name : List ℕ) (added : List ViewPlan) (place kept : ℕ) (run : RunPlan) → slice_get p.runs kept ≡ Some run → (run.collection ≡ place → ⊥)
    → kept_text answer form w p name added place kept ≡ []
kept_elsewhere answer form w p name added place kept run at ne =
    kept_with answer form w p name added place kept (Some run) at ∙ ap (λ (b : Bool). if b then tables_text answer form w run name added else []) (ne_eqb run.collection place ne)

pub kept_here : (answer : Answer) (form : Form) (w : LiveGraph) (p : Plan) (name : List ℕ) (added : List ViewPlan) (place kept : ℕ) (run : RunPlan) → slice_get p.runs kept ≡ Some run → run.collection ≡ place
    → kept_text answer form w p name added place kept ≡ tables_text answer form w run name added
kept_here answer form w p name added place kept run at e =
    kept_with answer form w p name added place kept (Some run) at ∙ ap (λ (b : Bool). if b then tables_text answer form w run name added else []) (eq-eqb run.collection place e)

-- ---- an append

pub append_with : (answer : Answer) (form : Form) (g : GraphData) (p : Plan) (n place : ℕ) (c : Option CollectionPlan) → slice_get p.collections place ≡ c
    → append_text answer form g p n place ≡ list_of (λ (x : CollectionPlan). flat_map (kept_text answer form (graph_at g p (n + 1)) p x.name (views_added p n x place) place) (kept_at p n)) c
append_with answer form g p n place c at = ap (λ (o : Option CollectionPlan). list_of (λ (x : CollectionPlan). flat_map (kept_text answer form (graph_at g p (n + 1)) p x.name (views_added p n x place) place) (kept_at p n)) o) at

-- ---- a statement

pub step_is : (answer : Answer) (form : Form) (g : GraphData) (p : Plan) (n : ℕ) (s : Step) → slice_get p.steps n ≡ Some s → step_text answer form g p n ≡ text_of answer form g p n s
step_is answer form g p n s at = ap (list_of (text_of answer form g p n)) at

pub run_step_is : (answer : Answer) (form : Form) (g : GraphData) (p : Plan) (n place : ℕ) (run : Option RunPlan) → slice_get p.steps n ≡ Some (step.Run place) → slice_get p.runs place ≡ run
    → step_text answer form g p n ≡ list_of (run_text answer form g p n) run
run_step_is answer form g p n place run at is = step_is answer form g p n (step.Run place) at ∙ ap (list_of (run_text answer form g p n)) is

-- ---- all statements

pub range-add : (a m n : ℕ) → range_with_len a (m + n) ≡ range_with_len a m ++ range_with_len (a + m) n
range-add a zero n = ap₂ range_with_len (let e : a ≡ a + zero = omega arith in e) (let e : zero + n ≡ n = omega arith in e)
range-add a (suc m) n =
    ap (range_with_len a) (let e : suc m + n ≡ suc (m + n) = omega arith in e) ∙ ap (λ (x : List ℕ). a ∷ x) (range-add (a + 1) m n ∙ ap (λ (k : ℕ). range_with_len (a + 1) m ++ range_with_len k n) (let e : a + 1 + m ≡ a + suc m = omega arith in e))

pub one_step_more : (answer : Answer) (form : Form) (g : GraphData) (p : Plan) (n : ℕ) → texts answer form g p (n + 1) ≡ texts answer form g p n ++ step_text answer form g p n
one_step_more answer form g p n =
    ap (flat_map (step_text answer form g p)) (range-add 0 n 1 ∙ ap (λ (k : ℕ). range_with_len 0 n ++ k ∷ []) (let e : 0 + n ≡ n = omega arith in e)) ∙ flat_map-append (step_text answer form g p) (range_with_len 0 n) (n ∷ [])
    ∙ ap (λ (x : List ℕ). texts answer form g p n ++ x) (append-nil (step_text answer form g p n))

pub shown_with : (g : GraphData) (p : Plan) (n place : ℕ) (c : Option CollectionPlan) → slice_get p.collections place ≡ c → shown_text g p n place ≡ list_of (λ (x : CollectionPlan). order_text (graph_at g p (n + 1)) x.name (views_before p n x place)) c
shown_with g p n place c at = ap (λ (o : Option CollectionPlan). list_of (λ (x : CollectionPlan). order_text (graph_at g p (n + 1)) x.name (views_before p n x place)) o) at

pub tree_with : (g : GraphData) (p : Plan) (n place : ℕ) (c : Option CollectionPlan) → slice_get p.collections place ≡ c → shown_tree g p n place ≡ list_of (λ (x : CollectionPlan). tree_text (graph_at g p (n + 1)) x.name (views_before p n x place)) c
tree_with g p n place c at = ap (λ (o : Option CollectionPlan). list_of (λ (x : CollectionPlan). tree_text (graph_at g p (n + 1)) x.name (views_before p n x place)) o) at

pub groups_with : (g : GraphData) (p : Plan) (n place by : ℕ) (sum : Option ℕ) (c : Option CollectionPlan) → slice_get p.collections place ≡ c
    → groups_text g p n place by sum ≡ list_of (λ (x : CollectionPlan). flat_map (aggregate_text (graph_at g p (n + 1)) by sum x.name) (views_before p n x place)) c
groups_with g p n place by sum c at = ap (λ (o : Option CollectionPlan). list_of (λ (x : CollectionPlan). flat_map (aggregate_text (graph_at g p (n + 1)) by sum x.name) (views_before p n x place)) o) at
