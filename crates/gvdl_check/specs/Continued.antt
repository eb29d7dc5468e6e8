-- A script that is continued by further statements, and what its plan keeps.
use Rattle.std.specs.Prelude.{◌≡◌, ℕ, false, List, ◌++◌, Some, map, slice_get}
use Rattle.graph_model.specs.GraphData.{GraphData}
use Rattle.gvdl_tree.specs.declared.script.Script.{Script}
use Rattle.gvdl_check.specs.declared.plan.CollectionPlan.{CollectionPlan}
use Rattle.gvdl_check.specs.declared.plan.RunPlan.{RunPlan}
use Rattle.gvdl_check.specs.declared.plan.Plan.{Plan}

-- the second list is the first one, and more behind it
abbrev pub IsFront : {A : Type 0} → List A → List A → Type 0
IsFront {A} front all = (more : List A) × (all ≡ front ++ more)

-- the same form, the same name of the graph and the same statements, with further ones behind them
pub record IsContinued (script longer : Script) : Type 0 where
  pub form : longer.form ≡ script.form
  pub graph : longer.graph ≡ script.graph
  pub statements : IsFront script.statements longer.statements

-- the same collection, with more views behind its own
pub record GrowsTo (before after : CollectionPlan) : Type 0 where
  pub name : after.name ≡ before.name
  pub views : IsFront before.views after.views

-- two graphs with the same columns
pub record SameColumns (g h : GraphData) : Type 0 where
  pub nodes : h.node_columns ≡ g.node_columns
  pub edges : h.edge_columns ≡ g.edge_columns

-- a run, whether or not it is told to be edited
abbrev pub unmarked : RunPlan → RunPlan
unmarked run = record run { edited = false }

-- The same statements, runs and collections, and more behind them. Collections may have more views by then, runs may be told
-- to be edited, and a call means one program throughout.
pub record Continues (before after : Plan) : Type 0 where
  pub loaded : after.loaded ≡ before.loaded
  pub steps : IsFront before.steps after.steps
  pub runs : IsFront (map unmarked before.runs) (map unmarked after.runs)
  pub collections : (place : ℕ) (c : CollectionPlan) → slice_get before.collections place ≡ Some c → (d : CollectionPlan) × (slice_get after.collections place ≡ Some d) × GrowsTo c d
  pub calls : (i j : ℕ) (first second : RunPlan) → slice_get after.runs i ≡ Some first → slice_get after.runs j ≡ Some second → second.call ≡ first.call → second.program ≡ first.program
