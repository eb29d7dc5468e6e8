-- The table that is told of a view is that of its answer.
use Rattle.std.proofs.Common.{◌≡◌, ◌∙◌, ◌<◌, ◌==◌, ◌⊎◌, inl, inr, is_some, ℕ, zero, suc, Bool, true, false, cond, List, [], ◌∷◌, length, map, get_or, All, Option, Some, None, refl, sym, ap, ap₂, subst, arith}
use Rattle.std.specs.Prelude.{◌||◌, Contains}
use Rattle.std.specs.List.{find, list_any}
use Rattle.std.specs.Option.{option_map}
use Rattle.std.proofs.lemmas.Bool.Decides.{eqb_tells}
use Rattle.graph_model.specs.declared.number.EdgeNo.{EdgeNo}
use Rattle.graph_model.specs.declared.number.ViewNo.{ViewNo}
use Rattle.graph_model.specs.GraphData.{GraphData}
use Rattle.edge_predicates.specs.declared.pred.ViewRule.{ViewRule}
use Rattle.vertex_lang.specs.declared.lone.Lone.{Lone}
use Rattle.vertex_lang.specs.declared.lone.Rounds.{Rounds}
use Rattle.vertex_lang.specs.declared.program.Program.{Program}
use Rattle.vertex_lang.specs.Arcs.{arcs_between}
use Rattle.vertex_lang.specs.Expressions.{Answer}
use Rattle.vertex_lang.specs.Lone.{answer_of, number_of, HasAllValues}
use Rattle.vertex_lang.specs.AnswerLaws.{answer_meets, answer_size}
use Rattle.vertex_lang.specs.PhaseLaws.{phases-size}
use Rattle.vertex_lang.specs.Phases.{phases_answer}
use Rattle.gvdl_check.specs.declared.plan.RunPlan.{RunPlan}
use Rattle.view_matrix.specs.Matrices.{MatrixData, edges_in}
use Rattle.view_segment.specs.Tasks.{Task, task_over, lone_of}
use Rattle.view_engine.specs.declared.engine.Engine.{Engine}
use Rattle.view_engine.specs.Engines.{IsResult, task_of}
use Rattle.view_versions.specs.declared.engine.VersionEngine.{VersionEngine}
use Rattle.view_versions.specs.Engines as versions
use Rattle.phase_runs.specs.Answers.{HoldsAnswer, answer_on, held_views}
use Rattle.result_tables.specs.declared.table.Table.{Table}
use Rattle.result_tables.specs.Results.{Held, ResultsData, held_on, table_on}
use Rattle.result_tables.specs.TableText.{table_of, IsTable}
use Rattle.surge_session.specs.Live.{LiveGraph, live_edges}
use Rattle.surge_session.specs.Output.{answer_over, view_arcs, view_answer}
use Rattle.view_order.specs.Greedy.{numbers}
use Rattle.surge_session.specs.declared.kept.RunEngine.TheVariants as run_engine
use Rattle.surge_session.specs.State.{shown_graph, HasRun, HasRunIn, HasFollowed, HasPhased}

-- ---- a run alone

module _ (answer : Answer) (g : GraphData) (run : RunPlan) (m : MatrixData) (v : ℕ) (rule : ViewRule) (shown : edges_in m v ≡ live_edges (shown_graph g m) rule) where
  alone_is : run.phases ≡ None → lone_of (task_over answer run.program g run.rounds m) v ≡ view_answer answer (shown_graph g m) run rule
  alone_is none =
      ap (λ (edges : List EdgeNo). answer_of answer run.program g (arcs_between run.program.along g edges) run.rounds) shown
      ∙ ap (λ (phases : Option ℕ). answer_over answer g run (view_arcs (shown_graph g m) run rule) phases) (sym none)

  task_same : (program : Program) (graph : GraphData) (rounds : Rounds) → program ≡ run.program → graph ≡ g → rounds ≡ run.rounds → lone_of (task_over answer program graph rounds m) v ≡ lone_of (task_over answer run.program g run.rounds m) v
  task_same program graph rounds p e r =
      ap (λ (x : Program). lone_of (task_over answer x graph rounds m) v) p ∙ ap (λ (x : GraphData). lone_of (task_over answer run.program x rounds m) v) e ∙ ap (λ (x : Rounds). lone_of (task_over answer run.program g x m) v) r

  pub plain_table : (order : List ℕ) (e : Engine) → HasRun answer g run m order e → lone_of (task_of answer m e) v ≡ view_answer answer (shown_graph g m) run rule
  plain_table order e has = task_same e.program.now e.graph.now e.rounds has.is.program has.is.graph has.is.rounds ∙ alone_is has.unphased

  pub followed_table : (order : List ℕ) (e : VersionEngine) → HasFollowed answer g run m order e → lone_of (versions.task_of answer m e) v ≡ view_answer answer (shown_graph g m) run rule
  followed_table order e has = task_same e.program.now e.graph.now e.rounds has.program has.graph has.rounds ∙ alone_is has.unphased

  -- ---- a run in phases

  pub phased_table : (phases : ℕ) (view : ViewNo) → view.0 ≡ v → run.phases ≡ Some phases → answer_on answer run.program g m (number_of run.rounds) phases view ≡ view_answer answer (shown_graph g m) run rule
  phased_table phases view same is =
      ap (λ (n : ℕ). phases_answer answer run.program g (arcs_between run.program.along g (edges_in m n)) (number_of run.rounds) phases) same
      ∙ ap (λ (edges : List EdgeNo). phases_answer answer run.program g (arcs_between run.program.along g edges) (number_of run.rounds) phases) shown
      ∙ ap (λ (o : Option ℕ). answer_over answer g run (view_arcs (shown_graph g m) run rule) o) (sym is)

pub told_by : (task : Task) (view : ViewNo) (work : Option ℕ) (table : Table) → IsResult task view work (Some table) → table ≡ table_of (lone_of task view.0)
told_by task view None table is = absurd cc
told_by task view (Some work) table is = let e : Some table ≡ Some (table_of (lone_of task view.0)) = is in cc

-- what holds of each view that is held holds of one that is found there
module _ (P : ViewNo → Type 0) (view : ViewNo) where
  same_view : (u : ViewNo) → u.0 ≡ view.0 → u ≡ view
  same_view u e = ap (λ (n : ℕ). let x : ViewNo = record { 0 = n } in x) e

  pub held_all : (held : List Held) (h : Held) → find (λ (x : Held). x.view.0 == view.0) held ≡ Some h → All P (map (λ (x : Held). x.view) held) → P view
  held_all [] h e all = absurd cc
  held_all (x ∷ xs) h e all = by (λ f rest. held_all xs h f rest) (eqb_tells x.view.0 view.0) where
    by : (find (λ (y : Held). y.view.0 == view.0) xs ≡ Some h → All P (map (λ (y : Held). y.view) xs) → P view) → ((x.view.0 == view.0) ≡ true) × (x.view.0 ≡ view.0) ⊎ ((x.view.0 == view.0) ≡ false) × (x.view.0 ≡ view.0 → ⊥) → P view
    by later (inl hit) = subst P (same_view x.view hit.1) (all 0 x.view (omega arith))
    by later (inr miss) =
        later (sym (ap (λ (b : Bool). cond b (Some x) (find (λ (y : Held). y.view.0 == view.0) xs)) miss.0) ∙ e) (λ i d lt. all (suc i) d (omega (arith, lt)))

pub is_held : (P : ViewNo → Type 0) (results : ResultsData) (view : ViewNo) (held : Option Held) → held_on results view ≡ held → is_some held ≡ true → All P (held_views results) → P view
is_held P results view None e there all = absurd cc
is_held P results view (Some h) e there all = held_all P view results.held h e all

-- ---- its size

sized : (answer : Answer) (g : GraphData) (run : RunPlan) (w : LiveGraph) (rule : ViewRule) (phases : Option ℕ) → w.graph ≡ g → HasAllValues w.graph (answer_over answer w.graph run (view_arcs w run rule) phases)
sized answer g run w rule None e =
    let arcs = view_arcs w run rule in answer_size answer run.program w.graph arcs run.rounds (answer_of answer run.program w.graph arcs run.rounds) (answer_meets answer run.program w.graph arcs run.rounds)
sized answer g run w rule (Some phases) e = phases-size answer run.program w.graph (view_arcs w run rule) (number_of run.rounds) phases

pub is_table : (answer : Answer) (w : LiveGraph) (run : RunPlan) (rule : ViewRule) → IsTable w.graph (table_of (view_answer answer w run rule))
is_table answer w run rule = sized answer w.graph run w rule run.phases refl

-- ---- a view among others

pub among : (views : List ViewNo) (i : ℕ) (other view : ViewNo) → i < length views → other ≡ get_or views i other → other.0 ≡ view.0 → Contains views view
among views i other view lt is same =
    let e : other ≡ view = ap (λ (n : ℕ). let x : ViewNo = record { 0 = n } in x) same in
    (i, lt, any views i view other lt ∙ sym is ∙ e) where
      any : (xs : List ViewNo) (i : ℕ) (d e : ViewNo) → i < length xs → get_or xs i d ≡ get_or xs i e
      any [] i d e lt = absurd (omega (arith, lt))
      any (x ∷ xs) zero d e lt = refl
      any (x ∷ xs) (suc i) d e lt = any xs i d e (omega (arith, lt))

-- ---- a run that is told to be edited

pub not_plain : (answer : Answer) (g : GraphData) (run : RunPlan) (m : MatrixData) (e : Engine) → run.edited ≡ true → HasRunIn answer g run m (run_engine.Plain e) → ⊥
not_plain answer g run m e edited has = let wrong : true ≡ false = sym edited ∙ has.0 in cc

pub engine_before : (answer : Answer) (g : GraphData) (run : RunPlan) (m : MatrixData) (e : VersionEngine) → HasRunIn answer g run m (run_engine.Versions e) → HasFollowed answer e.graph.now run m (numbers e.order) e
engine_before answer g run m e has = subst (λ (x : GraphData). HasFollowed answer x run m (numbers e.order) e) (sym has.1.graph) has.1

pub engine_behind : (answer : Answer) (g : GraphData) (run : RunPlan) (before m : MatrixData) (e f : VersionEngine) → HasRunIn answer g run before (run_engine.Versions e) → HasFollowed answer e.graph.now run m (numbers f.order) f
    → HasRunIn answer g run m (run_engine.Versions f)
engine_behind answer g run before m e f had has = (had.0, subst (λ (x : GraphData). HasFollowed answer x run m (numbers f.order) f) had.1.graph has)

pub not_phased : (answer : Answer) (g : GraphData) (run : RunPlan) (m : MatrixData) (results : ResultsData) → run.phases ≡ None → HasRunIn answer g run m (run_engine.Phased results) → ⊥
not_phased answer g run m results none has = let wrong : None ≡ Some has.0 = sym none ∙ has.1.phases in cc
