-- What follows from the definition of a plan, each law as one statement, and proofs of them that the rooms above can cite.
use Rattle.std.specs.Prelude.{◌≡◌, ◌≤◌, ◌+◌, ◌++◌, ℕ, List, length, sum, Ok}
use Rattle.std.specs.List.{sum_by}
use Rattle.graph_model.specs.GraphData.{GraphData}
use Rattle.gvdl_tree.specs.declared.script.Script.{Script}
use Rattle.gvdl_check.specs.declared.plan.Plan.{Plan}
use Rattle.gvdl_check.specs.Plans.{files_of, plan}
use Rattle.gvdl_check.specs.Fits.{PlanFits, HoldsNoLowest}
use Rattle.gvdl_check.specs.Written.{IsWritten}
use Rattle.gvdl_check.specs.Continued.{IsContinued, SameColumns, Continues}
use Rattle.gvdl_check.specs.PlanLaws.{plan_sound}
use Rattle.gvdl_check.specs.NumberLaws.{no_lowest}
use Rattle.gvdl_check.specs.ContinuedLaws.{plan_continues}
use Rattle.gvdl_check.specs.NameLines.{PlanNamed}
use Rattle.gvdl_check.specs.NameLaws.{names_are_lines}
use Rattle.gvdl_check.specs.Shows.{HasUnshown, without_shows}
use Rattle.gvdl_check.specs.UnshownLaws.{plan_unshown}

-- the plan of a script fits the graph, and has one step for each statement behind the load
abbrev pub PlansFit : Type 0
PlansFit = (s : Script) (g : GraphData) (groups : List ℕ) (p : Plan) → sum groups ≡ length g.ends → plan s g groups ≡ Ok p
    → PlanFits g p × (length p.steps ≡ length s.statements)

pub plans_fit : PlansFit
plans_fit s g groups p all e = let sound = plan_sound s g groups p all e in (sound.fits, sound.steps)

-- no program of the plan of a script holds the number -(2^63)
abbrev pub PlansHoldNoLowest : Type 0
PlansHoldNoLowest = (s : Script) (g : GraphData) (groups : List ℕ) (p : Plan) → IsWritten s → sum groups ≡ length g.ends → plan s g groups ≡ Ok p → HoldsNoLowest p

pub plans_hold_no_lowest : PlansHoldNoLowest
plans_hold_no_lowest s g groups p written all e = no_lowest s g groups p written all e

-- The plan of a script that is continued goes on from the plan of the shorter one: over a graph with the same columns, to
-- which further files may have given edges, behind those of the edges file and of the files that the shorter one inserts.
abbrev pub PlansContinue : Type 0
PlansContinue = (s t : Script) (g h : GraphData) (groups more : List ℕ) (p q : Plan) → IsContinued s t → SameColumns g h
    → 1 + sum_by files_of s.statements ≤ length groups → plan s g groups ≡ Ok p → plan t h (groups ++ more) ≡ Ok q → Continues p q

pub plans_continue : PlansContinue
plans_continue s t g h groups more p q longer same files first second = plan_continues s t g h groups more p q longer same files first second

-- names in the plan of a script end no line, and numbers of its calls are those of a text
abbrev pub PlansNameLines : Type 0
PlansNameLines = (s : Script) (g : GraphData) (groups : List ℕ) (p : Plan) → IsWritten s → plan s g groups ≡ Ok p → PlanNamed p

pub plans_name_lines : PlansNameLines
plans_name_lines s g groups p written e = names_are_lines s g groups p written e

-- The script without its shows and aggregates has a plan where the script has one: that plan without the steps that show
-- something.
abbrev pub PlansWithoutShows : Type 0
PlansWithoutShows = (s : Script) (g : GraphData) (groups : List ℕ) (p : Plan) → plan s g groups ≡ Ok p → HasUnshown (plan (without_shows s) g groups) p

pub plans_without_shows : PlansWithoutShows
plans_without_shows s g groups p e = plan_unshown s g groups p e
