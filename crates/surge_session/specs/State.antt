-- What a session keeps.
use Rattle.std.specs.Prelude.{◌≡◌, ℕ, ◌+◌, ◌<◌, ◌≤◌, Bool, true, List, [], length, map, All, slice_get, Option, Some, None, is_some, false}
use Rattle.graph_model.specs.declared.number.ViewNo.{ViewNo}
use Rattle.graph_model.specs.GraphData.{GraphData}
use Rattle.edge_predicates.specs.declared.pred.ViewRule.{ViewRule}
use Rattle.vertex_lang.specs.Expressions.{Answer}
use Rattle.vertex_lang.specs.Lone.{number_of}
use Rattle.gvdl_check.specs.Steps.{runs_at}
use Rattle.gvdl_check.specs.declared.plan.RunPlan.{RunPlan}
use Rattle.gvdl_check.specs.declared.plan.Plan.{Plan}
use Rattle.gvdl_check.specs.declared.plan.ViewPlan.{ViewPlan}
use Rattle.view_matrix.specs.Matrices.{MatrixData, edges_in, rule_columns}
use Rattle.view_order.specs.Greedy.{numbers}
use Rattle.view_engine.specs.declared.engine.Engine.{Engine}
use Rattle.view_engine.specs.Engines.{IsEngine, Stands, AreFinished}
use Rattle.view_versions.specs.declared.engine.VersionEngine.{VersionEngine}
use Rattle.view_versions.specs.Engines.{IsEngine as IsFollower, Stands as Follows}
use Rattle.result_tables.specs.Results.{ResultsData}
use Rattle.phase_runs.specs.Answers.{HoldsAnswer, held_views}
use Rattle.surge_session.specs.declared.kept.RunEngine.{RunEngine}
use Rattle.surge_session.specs.declared.kept.RunEngine.TheVariants as run_engine
use Rattle.surge_session.specs.declared.kept.Kept.{Kept}
use Rattle.surge_session.specs.Live.{LiveGraph, graph_at, live_at, live_edges}
use Rattle.surge_session.specs.Output.{made_at, kept_at, order_at}

abbrev pub rules_of : List ViewPlan → List ViewRule
rules_of views = map (λ view. view.rule) views

-- ---- matrices

-- the graph with the edges that are live in a matrix
abbrev pub shown_graph : GraphData → MatrixData → LiveGraph
shown_graph g m = record { graph = g; live = m.live }

-- the matrix shows these views of the live edges
pub record ShowsLive (w : LiveGraph) (rules : List ViewRule) (m : MatrixData) : Type 0 where
  pub live : m.live ≡ w.live
  pub columns : m.columns ≡ rule_columns w.graph rules

-- the matrix of each collection shows the views that it has before this statement
pub record MatricesAt (g : GraphData) (p : Plan) (n : ℕ) (matrices : List MatrixData) : Type 0 where
  pub all : length matrices ≡ length p.collections
  pub shows : (place : ℕ) (m : MatrixData) → slice_get matrices place ≡ Some m → ShowsLive (graph_at g p n) (rules_of (made_at p n place)) m

-- the views of the matrix from this one on are these views of the live edges
abbrev pub Shows : LiveGraph → MatrixData → ℕ → List ViewPlan → Type 0
Shows w m first views = (i : ℕ) (view : ViewPlan) → slice_get views i ≡ Some view → (first + i < length m.columns) × (edges_in m (first + i) ≡ live_edges w view.rule)

-- ---- runs

-- an engine for a run on the views of a matrix, in this order
pub record IsFor (answer : Answer) (g : GraphData) (run : RunPlan) (m : MatrixData) (taken : List ℕ) (e : Engine) : Type 0 where
  pub engine : IsEngine e
  pub fresh : e.spent ≡ false
  pub stands : Stands answer m e
  pub order : numbers e.order ≡ taken
  pub graph : e.graph.now ≡ g
  pub program : e.program.now ≡ run.program
  pub rounds : e.rounds ≡ run.rounds
  pub split : e.split ≡ run.split

-- the engine has run all of them; where the run is kept, more views may be added
pub record HasRun (answer : Answer) (g : GraphData) (run : RunPlan) (m : MatrixData) (order : List ℕ) (e : Engine) : Type 0 where
  pub is : IsFor answer g run m order e
  pub finished : AreFinished e
  pub grows : is_some run.keep ≡ true → e.grows ≡ true
  pub unphased : run.phases ≡ None

-- an engine over versions has run all views of this order over a matrix
pub record HasFollowed (answer : Answer) (g : GraphData) (run : RunPlan) (m : MatrixData) (taken : List ℕ) (e : VersionEngine) : Type 0 where
  pub engine : IsFollower e
  pub fresh : e.spent ≡ false
  pub stands : Follows answer m e
  pub order : numbers e.order ≡ taken
  pub graph : e.graph.now ≡ g
  pub program : e.program.now ≡ run.program
  pub rounds : e.rounds ≡ run.rounds
  pub unphased : run.phases ≡ None

-- the answers in phases are held on each view of the order
pub record HasPhased (answer : Answer) (g : GraphData) (run : RunPlan) (m : MatrixData) (many : ℕ) (results : ResultsData) : Type 0 where
  pub phases : run.phases ≡ Some many
  pub all : All (HoldsAnswer answer run.program g m (number_of run.rounds) many results) (held_views results)

-- the views in the order in which they are run
abbrev pub order_in : RunEngine → List ViewNo
order_in (run_engine.Plain e) = e.order
order_in (run_engine.Versions e) = e.order
order_in (run_engine.Phased results) = held_views results

-- the views of the order were run over the matrix: by an engine that follows edges exactly where the run is told to be edited
abbrev pub HasRunIn : Answer → GraphData → RunPlan → MatrixData → RunEngine → Type 0
HasRunIn answer g run m (run_engine.Plain e) = (run.edited ≡ false) × HasRun answer g run m (numbers e.order) e
HasRunIn answer g run m (run_engine.Versions e) = (run.edited ≡ true) × HasFollowed answer g run m (numbers e.order) e
HasRunIn answer g run m (run_engine.Phased results) = (phases : ℕ) × HasPhased answer g run m phases results

-- ---- kept runs

-- a kept run was made before this statement, and has run the views that its collection had then or got since
pub record IsKept (answer : Answer) (g : GraphData) (p : Plan) (n : ℕ) (matrices : List MatrixData) (kept : Kept) : Type 0 where
  pub run : RunPlan
  pub at : slice_get p.runs kept.place ≡ Some run
  pub named : is_some run.keep ≡ true
  pub earlier : kept.place < runs_at p n
  pub unphased : run.phases ≡ None
  pub matrix : MatrixData
  pub shown : slice_get matrices run.collection ≡ Some matrix
  pub has : HasRunIn answer g run matrix kept.engine
  pub order : numbers (order_in kept.engine) ≡ order_at g p run kept.place n
  pub below : All (λ view. view.0 < length (made_at p n run.collection)) (order_in kept.engine)
  pub count : length (order_in kept.engine) ≤ length (made_at p n run.collection)

abbrev pub places_of : List Kept → List ℕ
places_of kept = map (λ k. k.place) kept

-- these are the live edges, the matrices and the kept runs before this statement
pub record IsAt (answer : Answer) (g : GraphData) (p : Plan) (n : ℕ) (alive : List Bool) (made : List MatrixData) (kept : List Kept) : Type 0 where
  pub live : alive ≡ live_at g p n
  pub matrices : MatricesAt g p n made
  pub places : places_of kept ≡ kept_at p n
  pub each : All (IsKept answer g p n made) kept
