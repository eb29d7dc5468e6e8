-- No program of the plan of a script holds the number -(2^63).
use Rattle.std.proofs.Common.{◌≡◌, ℕ, List, [], ◌∷◌, length, Ok}
use Rattle.std.specs.Prelude.{All, sum}
use Rattle.std.proofs.lemmas.List.Elements.{All-nil, All-cons, All-head, All-tail}
use Rattle.graph_model.specs.GraphData.{GraphData}
use Rattle.gvdl_tree.specs.declared.script.Script.{Script}
use Rattle.vertex_lang.specs.Values.{lowest_number}
use Rattle.vertex_lang.specs.Leaves.{HoldsNumber}
use Rattle.gvdl_programs.specs.Calls.{HasNoLowest}
use Rattle.gvdl_check.specs.declared.plan.RunPlan.{RunPlan}
use Rattle.gvdl_check.specs.declared.plan.Plan.{Plan}
use Rattle.gvdl_check.specs.Plans.{plan}
use Rattle.gvdl_check.specs.Fits.{RunFits, HoldsNoLowest}
use Rattle.gvdl_check.specs.Written.{IsWritten}
use Rattle.gvdl_check.specs.PlanLaws.{plan_sound}
use Rattle.gvdl_check.specs.CallLaws.{calls_hold}
use Rattle.gvdl_check.specs.WrittenNumbers.{written_calls}

abbrev IsFree : RunPlan → Type 0
IsFree run = HoldsNumber run.program lowest_number → ⊥

abbrev IsGivenOther : RunPlan → Type 0
IsGivenOther run = HasNoLowest run.call.args

each_free : (g : GraphData) (n : ℕ) (runs : List RunPlan) → All (RunFits g n) runs → All IsGivenOther runs → All IsFree runs
each_free g n [] fit given = All-nil IsFree
each_free g n (run ∷ more) fit given =
    All-cons IsFree run more ((All-head (RunFits g n) run more fit).numbers (All-head IsGivenOther run more given))
    (each_free g n more (All-tail (RunFits g n) run more fit) (All-tail IsGivenOther run more given))

pub no_lowest : (s : Script) (g : GraphData) (groups : List ℕ) (p : Plan) → IsWritten s → sum groups ≡ length g.ends → plan s g groups ≡ Ok p → HoldsNoLowest p
no_lowest s g groups p written all e =
    each_free g (length p.collections) p.runs (plan_sound s g groups p all e).fits.runs (calls_hold (λ c. HasNoLowest c.args) s g groups p (written_calls s written) e)
