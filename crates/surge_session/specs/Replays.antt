-- The output of a script as a change text: its tables are what the script without its shows and aggregates prints.
use Rattle.std.specs.Prelude.{◌≡◌, ℕ, ◌<◌, ◌^◌, pos, negsuc, List, All, Ok, Some, slice_get}
use Rattle.graph_model.specs.declared.value.Val.{Val}
use Rattle.graph_model.specs.declared.value.Val.TheVariants.{Nil, Num}
use Rattle.graph_model.specs.GraphData.{GraphData}
use Rattle.edge_predicates.specs.declared.pred.ViewRule.{ViewRule}
use Rattle.gvdl_tree.specs.declared.script.Script.{Script}
use Rattle.vertex_lang.specs.Expressions.{Answer}
use Rattle.gvdl_check.specs.declared.plan.RunPlan.{RunPlan}
use Rattle.gvdl_check.specs.declared.plan.Plan.{Plan}
use Rattle.gvdl_check.specs.Plans.{plan}
use Rattle.gvdl_check.specs.Shows.{without_shows}
use Rattle.result_tables.specs.declared.form.Form.TheVariants as form
use Rattle.change_text.specs.Blocks.{Block}
use Rattle.change_text.specs.Reading.{IsChanges}
use Rattle.change_text.specs.Spelling.{tables_text}
use Rattle.surge_session.specs.Live.{LiveGraph}
use Rattle.surge_session.specs.Output.{plan_text, view_answer}

-- none, or a whole number of 64 bits, as each value in memory is
abbrev pub IsWord : Val → Type 0
IsWord Nil = Unit {0}
IsWord (Num (pos n)) = n < 2 ^ 63
IsWord (Num (negsuc n)) = n < 2 ^ 63

-- the answers of the runs of a plan on views of live edges have such values
abbrev pub HasWords : Answer → GraphData → Plan → Type 0
HasWords answer g p = (place : ℕ) (run : RunPlan) (w : LiveGraph) (rule : ViewRule) → w.graph ≡ g → slice_get p.runs place ≡ Some run → All IsWord (view_answer answer w run rule).values

-- the output of the first plan as a change text is one, and its tables are the output of the second
pub record ComesBack (answer : Answer) (g : GraphData) (p q : Plan) : Type 0 where
  pub blocks : List Block
  pub changes : IsChanges (plan_text answer form.Changes g p) blocks
  pub tables : tables_text blocks ≡ plan_text answer form.Tables g q

-- so it is with the plan of a script and that of the script without its shows and aggregates, which has one too
pub record ChangesReplay (answer : Answer) (s : Script) (g : GraphData) (groups : List ℕ) (p : Plan) : Type 0 where
  pub less : Plan
  pub planned : plan (without_shows s) g groups ≡ Ok less
  pub back : HasWords answer g p → ComesBack answer g p less
