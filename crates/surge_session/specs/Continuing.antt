-- What further statements leave as it was, as an append, or an insert or a removal of edges.
use Rattle.std.specs.Prelude.{◌≡◌, ℕ, ◌≤◌, ◌<◌, false, Some, slice_get}
use Rattle.graph_model.specs.GraphData.{GraphData}
use Rattle.vertex_lang.specs.Expressions.{Answer}
use Rattle.gvdl_check.specs.declared.plan.RunPlan.{RunPlan}
use Rattle.gvdl_check.specs.declared.plan.Step.TheVariants as step
use Rattle.gvdl_check.specs.declared.plan.Plan.{Plan}
use Rattle.gvdl_check.specs.declared.plan.Step.{Step}
use Rattle.gvdl_check.specs.Continued.{IsFront}
use Rattle.gvdl_check.specs.Steps.{edits}
use Rattle.result_tables.specs.declared.form.Form.{Form}
use Rattle.surge_session.specs.Output.{step_text, plan_text}

-- the statement makes this run
pub record Runs (p : Plan) (n : ℕ) (made : RunPlan) : Type 0 where
  pub place : ℕ
  pub step : slice_get p.steps n ≡ Some (step.Run place)
  pub run : slice_get p.runs place ≡ Some made

-- the same call for the same rounds, and the same phases or none, on the same collection
pub record IsAgain (first second : RunPlan) : Type 0 where
  pub collection : second.collection ≡ first.collection
  pub call : second.call ≡ first.call
  pub rounds : second.rounds ≡ first.rounds
  pub phases : second.phases ≡ first.phases

-- no edge comes or goes from this statement on up to that one
abbrev pub NoneBetween : Plan → (m n : ℕ) → Type 0
NoneBetween p m n = (i : ℕ) (s : Step) → m ≤ i → i < n → slice_get p.steps i ≡ Some s → edits s ≡ false

-- Of the plan of a script over a graph, and of that of a script which continues it over a graph with further edges behind, in
-- each form: the output of the first is a front of the output of the second. And where a later statement runs the same call for
-- the same rounds and phases again, whatever its order and its split, and no edge came or went between, it first prints the same
-- tables of the views that were there before.
pub record KeepsTexts (answer : Answer) (g h : GraphData) (before after : Plan) : Type 0 where
  pub output : (form : Form) → IsFront (plan_text answer form g before) (plan_text answer form h after)
  pub runs : (form : Form) (m n : ℕ) (first second : RunPlan) → m ≤ n → Runs before m first → Runs after n second → IsAgain first second → NoneBetween after m n
      → IsFront (step_text answer form g before m) (step_text answer form h after n)
