-- How often a statement calls the updater at most.
use Rattle.std.specs.Prelude.{ℕ, ◌+◌, ◌-◌, ◌*◌, ◌==◌, if◌then◌else◌, List, [], ◌∷◌, length, sum_by, slice_get, Option, Some, None}
use Rattle.std.specs.List.{range_with_len}
use Rattle.graph_model.specs.GraphData.{GraphData}
use Rattle.vertex_lang.specs.Expressions.{Answer}
use Rattle.vertex_lang.specs.Lone.{number_of}
use Rattle.gvdl_check.specs.declared.plan.ViewPlan.{ViewPlan}
use Rattle.gvdl_check.specs.declared.plan.RunPlan.{RunPlan}
use Rattle.gvdl_check.specs.declared.plan.Step.{Step}
use Rattle.gvdl_check.specs.declared.plan.Step.TheVariants as step
use Rattle.gvdl_check.specs.declared.plan.Plan.{Plan}
use Rattle.view_engine.specs.Splits.{segments_of, all_works}
use Rattle.view_versions.specs.Touched.{touched}
use Rattle.surge_session.specs.Live.{LiveGraph, graph_at}
use Rattle.surge_session.specs.Output.{difference, kept_at, made_at, order_at, run_task, task_at}

-- a number for what is there, and 0 where nothing is
abbrev pub number_for : {A : Type 0} → (A → ℕ) → Option A → ℕ
number_for f None = 0
number_for f (Some a) = f a

-- ---- a run that is not edited and has no phases

-- the works of all views of this order together, where the run's collection has these views
abbrev pub order_work : Answer → LiveGraph → RunPlan → List ViewPlan → List ℕ → ℕ
order_work answer w run views order = let task = run_task answer w run views in all_works task (segments_of task run.split order)

-- how much more the works of the order behind this step are than those of the order before it
abbrev pub longer_work : Answer → GraphData → Plan → RunPlan → ℕ → ℕ → ℕ
longer_work answer g p run place n =
    let views = made_at p (n + 1) run.collection in
    order_work answer (graph_at g p (n + 1)) run views (order_at g p run place (n + 1)) - order_work answer (graph_at g p (n + 1)) run views (order_at g p run place n)

-- ---- a kept run that follows edges

-- each node in each round, for so many views
abbrev pub full_work : GraphData → RunPlan → ℕ → ℕ
full_work g run count = length g.ids * number_of run.rounds * count

-- the nodes that the edges of this step touch, in each round and view of the run at this place
abbrev pub touched_work : Answer → GraphData → Plan → ℕ → ℕ → ℕ
touched_work answer g p n kept =
    number_for
    (λ run.
    let order = order_at g p run kept n in
    touched (task_at answer g p run n) (run_task answer (graph_at g p (n + 1)) run (made_at p n run.collection)) order * (length order * number_of run.rounds))
    (slice_get p.runs kept)

-- ---- a run in phases

-- for how many of these views a run is made, which stand behind this one, or behind none: for the first, and for each that differs
-- from the one before it
abbrev pub own_runs : LiveGraph → List ViewPlan → Option ℕ → List ℕ → ℕ
own_runs w views None [] = 0
own_runs w views (Some u) [] = 0
own_runs w views None (v ∷ vs) = 1 + own_runs w views (Some v) vs
own_runs w views (Some u) (v ∷ vs) = (if difference w views (Some u) v == 0 then 0 else 1) + own_runs w views (Some v) vs

abbrev pub phased_work : LiveGraph → RunPlan → List ViewPlan → List ℕ → ℕ → ℕ
phased_work w run views order phases = length w.graph.ids * (number_of run.rounds * phases) * own_runs w views None order

-- ---- statements

abbrev pub run_in : Answer → GraphData → RunPlan → LiveGraph → List ViewPlan → List ℕ → Option ℕ → ℕ
run_in answer g run w views order (Some phases) = phased_work w run views order phases
run_in answer g run w views order None = if run.edited then full_work g run (length order) else order_work answer w run views order

-- a run on all views of its order
abbrev pub run_work : Answer → GraphData → Plan → ℕ → ℕ → RunPlan → ℕ
run_work answer g p n place run = run_in answer g run (graph_at g p (n + 1)) (made_at p (n + 1) run.collection) (order_at g p run place (n + 1)) run.phases

-- the views that a step adds to a kept run, if it is one on this collection
abbrev pub added_work : Answer → GraphData → Plan → ℕ → ℕ → ℕ → ℕ
added_work answer g p n place kept =
    number_for
    (λ run.
    if run.collection == place
    then (if run.edited then full_work g run (length (made_at p (n + 1) run.collection) - length (made_at p n run.collection)) else longer_work answer g p run kept n)
    else 0)
    (slice_get p.runs kept)

abbrev pub work_of_step : Answer → GraphData → Plan → ℕ → Step → ℕ
work_of_step answer g p n (step.Run place) = number_for (run_work answer g p n place) (slice_get p.runs place)
work_of_step answer g p n (step.Append place first count) = sum_by (added_work answer g p n place) (kept_at p n)
work_of_step answer g p n (step.Insert first count) = sum_by (touched_work answer g p n) (kept_at p n)
work_of_step answer g p n (step.Remove rule) = sum_by (touched_work answer g p n) (kept_at p n)
work_of_step answer g p n _ = 0

-- so often this statement calls the updater at most
abbrev pub step_work : Answer → GraphData → Plan → ℕ → ℕ
step_work answer g p n = number_for (work_of_step answer g p n) (slice_get p.steps n)

-- the same of so many statements, and of all
abbrev pub works : Answer → GraphData → Plan → ℕ → ℕ
works answer g p n = sum_by (step_work answer g p) (range_with_len 0 n)

abbrev pub plan_work : Answer → GraphData → Plan → ℕ
plan_work answer g p = works answer g p (length p.steps)
