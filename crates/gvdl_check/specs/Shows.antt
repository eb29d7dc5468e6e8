-- What a script shows, and the script and its plan without that.
use Rattle.std.specs.Prelude.{◌≡◌, Bool, true, false, not, List, filter, map, Result, Ok}
use Rattle.gvdl_tree.specs.declared.script.Script.{Script}
use Rattle.gvdl_tree.specs.declared.script.Statement.{Statement}
use Rattle.gvdl_tree.specs.declared.script.Statement.TheVariants as statement
use Rattle.gvdl_check.specs.declared.fault.CheckFault.{CheckFault}
use Rattle.gvdl_check.specs.declared.plan.Step.{Step}
use Rattle.gvdl_check.specs.declared.plan.Step.TheVariants as step
use Rattle.gvdl_check.specs.declared.plan.Plan.{Plan}
use Rattle.gvdl_check.specs.Continued.{unmarked}

-- the statement is a show or an aggregate
abbrev pub shows : Statement → Bool
shows (statement.ShowOrder name) = true
shows (statement.ShowWork name) = true
shows (statement.ShowTree name) = true
shows (statement.Aggregate target by sum) = true
shows _ = false

abbrev pub without_shows : Script → Script
without_shows s = record s { statements = filter (λ x. not (shows x)) s.statements }

-- the step shows something
abbrev pub is_show : Step → Bool
is_show (step.ShowOrder place) = true
is_show (step.ShowWork place) = true
is_show (step.ShowTree place) = true
is_show (step.Aggregate place by sum) = true
is_show _ = false

-- the steps that show nothing
abbrev pub unshown : List Step → List Step
unshown steps = filter (λ s. not (is_show s)) steps

-- The second plan is the first one without the steps that show something. Whether its runs are told to be edited is left open.
pub record IsUnshown (p q : Plan) : Type 0 where
  pub loaded : q.loaded ≡ p.loaded
  pub collections : q.collections ≡ p.collections
  pub runs : map unmarked q.runs ≡ map unmarked p.runs
  pub steps : q.steps ≡ unshown p.steps

-- such a plan was made
pub record HasUnshown (said : Result Plan CheckFault) (p : Plan) : Type 0 where
  pub rest : Plan
  pub is : said ≡ Ok rest
  pub less : IsUnshown p rest
