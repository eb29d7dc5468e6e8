-- How often the updater is called for a run on the views of a matrix.
use Rattle.std.specs.Prelude.{ℕ, ◌-◌, ◌*◌, Bool, None, List, length}
use Rattle.graph_model.specs.declared.number.EdgeNo.{EdgeNo}
use Rattle.graph_model.specs.declared.number.ViewNo.{ViewNo}
use Rattle.graph_model.specs.GraphData.{GraphData}
use Rattle.vertex_lang.specs.Expressions.{Answer}
use Rattle.vertex_lang.specs.Lone.{number_of}
use Rattle.gvdl_check.specs.declared.plan.RunPlan.{RunPlan}
use Rattle.view_matrix.specs.Matrices.{MatrixData}
use Rattle.view_order.specs.Greedy.{numbers}
use Rattle.view_segment.specs.Tasks.{task_over}
use Rattle.view_turns.specs.Turns.{done}
use Rattle.view_versions.specs.Edits.{taken_back}
use Rattle.view_versions.specs.Touched.{touched}
use Rattle.view_versions.specs.Engines.{most_works}
use Rattle.phase_runs.specs.Answers.{own_runs, held_views}
use Rattle.surge_session.specs.declared.kept.RunEngine.{RunEngine}
use Rattle.surge_session.specs.declared.kept.RunEngine.TheVariants as run_engine
use Rattle.surge_session.specs.Works.{number_for}

-- on all views at first
abbrev pub first_calls : Answer → GraphData → RunPlan → MatrixData → RunEngine → ℕ
first_calls answer g run m (run_engine.Plain e) = done e
first_calls answer g run m (run_engine.Versions e) = most_works e (length e.order)
first_calls answer g run m (run_engine.Phased results) = length g.ids * (number_of run.rounds * number_for (λ phases. phases) run.phases) * own_runs m None (held_views results)

-- on more views behind them
abbrev pub more_calls : Answer → RunPlan → MatrixData → (old new : RunEngine) → ℕ
more_calls answer run m (run_engine.Plain e) (run_engine.Plain f) = done f - done e
more_calls answer run m (run_engine.Versions e) (run_engine.Versions f) = most_works f (length f.order - length e.order)
more_calls answer run m _ _ = 0

-- on its views, as edges come and go, where it has this order
abbrev pub advance_calls : Answer → GraphData → RunPlan → MatrixData → List (EdgeNo × Bool) → List ViewNo → ℕ
advance_calls answer g run m changes order =
    touched (task_over answer run.program g run.rounds (taken_back m changes)) (task_over answer run.program g run.rounds m) (numbers order) * (length order * number_of run.rounds)
