-- Names of a plan that end no line, and numbers of calls that are short.
use Rattle.std.specs.Prelude.{◌≢◌, ℕ, suc, ◌<◌, ◌^◌, ℤ, pos, negsuc, List, All}
use Rattle.gvdl_tree.specs.declared.script.Arg.{Arg}
use Rattle.gvdl_tree.specs.declared.script.Arg.TheVariants as arg
use Rattle.gvdl_tree.specs.declared.script.Call.{Call}
use Rattle.gvdl_check.specs.declared.plan.ViewPlan.{ViewPlan}
use Rattle.gvdl_check.specs.declared.plan.CollectionPlan.{CollectionPlan}
use Rattle.gvdl_check.specs.declared.plan.Plan.{Plan}

-- no byte ends a line
abbrev pub IsLine : List ℕ → Type 0
IsLine bytes = All (λ b. b ≢ 10) bytes

abbrev pub ViewNamed : ViewPlan → Type 0
ViewNamed view = IsLine view.name

pub record CollectionNamed (c : CollectionPlan) : Type 0 where
  pub name : IsLine c.name
  pub views : All ViewNamed c.views

-- a whole number from -(2^63 - 1) to 2^63 - 1
abbrev pub IsShort : ℤ → Type 0
IsShort (pos n) = n < 2 ^ 63
IsShort (negsuc n) = suc n < 2 ^ 63

abbrev pub ArgShort : Arg → Type 0
ArgShort (arg.Number z) = IsShort z
ArgShort (arg.Prop p) = Unit {0}

pub record CallNamed (c : Call) : Type 0 where
  pub name : IsLine c.name
  pub args : All ArgShort c.args

-- the collections of a plan, their views and the programs that its runs call have such names
pub record PlanNamed (p : Plan) : Type 0 where
  pub collections : All CollectionNamed p.collections
  pub calls : All (λ run. CallNamed run.call) p.runs
