-- What the steps of a plan count: collections, runs, views and edges.
use Rattle.std.specs.Prelude.{◌≡◌, ℕ, ◌+◌, ◌<◌, ◌≤◌, ◌==◌, Bool, true, false, List, length, take, get_or}
use Rattle.std.specs.Prelude.{if◌then◌else◌}
use Rattle.std.specs.List.{sum_by}
use Rattle.gvdl_check.specs.declared.plan.CollectionPlan.{CollectionPlan}
use Rattle.gvdl_check.specs.declared.plan.RunPlan.{RunPlan}
use Rattle.gvdl_check.specs.declared.plan.Step.{Step}
use Rattle.gvdl_check.specs.declared.plan.Step.TheVariants as step
use Rattle.gvdl_check.specs.declared.plan.Plan.{Plan}
use Rattle.gvdl_check.specs.Known.{views_in}

-- how many collections a step makes
abbrev pub makes : Step → ℕ
makes (step.Make place count) = 1
makes _ = 0

-- how many runs a step makes
abbrev pub runs : Step → ℕ
runs (step.Run place) = 1
runs _ = 0

-- how many views a step gives to this collection
abbrev pub gives : ℕ → Step → ℕ
gives collection (step.Make place count) = if place == collection then count else 0
gives collection (step.Append place first count) = if place == collection then count else 0
gives collection _ = 0

-- how many edges come with a step
abbrev pub comes : Step → ℕ
comes (step.Insert first count) = count
comes _ = 0

-- by the step edges come or go
abbrev pub edits : Step → Bool
edits (step.Insert first count) = true
edits (step.Remove rule) = true
edits _ = false

-- A step behind these, and behind a load of so many edges: what it makes has the next place, and what it names was made
-- by them. What it appends comes behind the views that the collection has by then, and edges behind all that came before.
abbrev pub Follows : ℕ → List Step → Step → Type 0
Follows loaded before step.Nothing = Unit {0}
Follows loaded before (step.Make place count) =
    (place ≡ sum_by makes before) × (sum_by (gives place) before ≡ 0)
Follows loaded before (step.Run place) = place ≡ sum_by runs before
Follows loaded before (step.Append place first count) =
    (place < sum_by makes before) × (first ≡ sum_by (gives place) before)
Follows loaded before (step.ShowOrder place) = place < sum_by makes before
Follows loaded before (step.ShowWork place) = place < sum_by runs before
Follows loaded before (step.ShowTree place) = place < sum_by makes before
Follows loaded before (step.Insert first count) = first ≡ loaded + sum_by comes before
Follows loaded before (step.Remove rule) = Unit {0}
Follows loaded before (step.Aggregate place by sum) = place < sum_by makes before

-- steps behind a load of so many edges that make these collections, with these views, and these runs
pub record StepsFit (loaded : ℕ) (steps : List Step) (made : List CollectionPlan) (ran : List RunPlan) : Type 0 where
  pub collections : sum_by makes steps ≡ length made
  pub runs : sum_by runs steps ≡ length ran
  pub views : (place : ℕ) → sum_by (gives place) steps ≡ length (views_in made place)
  pub each : (n : ℕ) → n < length steps → Follows loaded (take n steps) (get_or steps n step.Nothing)

-- ---- at a step of a plan, which counts from 0

-- how many collections there are before this step
abbrev pub collections_at : Plan → ℕ → ℕ
collections_at p n = sum_by makes (take n p.steps)

-- how many runs there are before this step
abbrev pub runs_at : Plan → ℕ → ℕ
runs_at p n = sum_by runs (take n p.steps)

-- how many views this collection has before this step: these are its first ones
abbrev pub views_at : Plan → ℕ → ℕ → ℕ
views_at p n collection = sum_by (gives collection) (take n p.steps)

-- how many edges came before this step, those that went again counted
abbrev pub edges_at : Plan → ℕ → ℕ
edges_at p n = p.loaded + sum_by comes (take n p.steps)

-- What a step names is one of the plan, and was made before it. What it makes has the next place.
abbrev pub StepFits : Plan → ℕ → Step → Type 0
StepFits p n step.Nothing = Unit {0}
StepFits p n (step.Make place count) =
    (place ≡ collections_at p n) × (place < length p.collections) × (views_at p n place ≡ 0)
    × (count ≤ length (views_in p.collections place))
StepFits p n (step.Run place) = (place ≡ runs_at p n) × (place < length p.runs)
StepFits p n (step.Append place first count) =
    (place < collections_at p n) × (place < length p.collections) × (first ≡ views_at p n place)
    × (first + count ≤ length (views_in p.collections place))
StepFits p n (step.ShowOrder place) = (place < collections_at p n) × (place < length p.collections)
StepFits p n (step.ShowWork place) = (place < runs_at p n) × (place < length p.runs)
StepFits p n (step.ShowTree place) = (place < collections_at p n) × (place < length p.collections)
StepFits p n (step.Insert first count) = first ≡ edges_at p n
StepFits p n (step.Remove rule) = Unit {0}
StepFits p n (step.Aggregate place by sum) = (place < collections_at p n) × (place < length p.collections)
