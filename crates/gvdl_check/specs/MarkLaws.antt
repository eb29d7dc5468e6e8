-- The runs of a plan, of which those that are kept while edges come or go are told to be edited.
use Rattle.std.proofs.Common.{◌≡◌, ℕ, ◌&&◌, List, [], ◌∷◌, zero, suc, length, get_or, slice_get, Some, refl, ap, subst, arith}
use Rattle.std.specs.Prelude.{All, nat_lt, is_some}
use Rattle.std.proofs.lemmas.List.Elements.{All-nil, All-cons, All-head, All-tail}
use Rattle.graph_model.specs.GraphData.{GraphData}
use Rattle.gvdl_check.specs.declared.plan.RunPlan.{RunPlan}
use Rattle.gvdl_check.specs.Known.{run_marked, runs_marked}
use Rattle.gvdl_check.specs.Fits.{RunFits}

pub marked_length : (last : ℕ) (numbers : List ℕ) (runs : List RunPlan) → length numbers ≡ length runs → length (runs_marked last numbers runs) ≡ length runs
marked_length last [] runs e = e
marked_length last (number ∷ numbers) [] e = absurd (omega (arith, e))
marked_length last (number ∷ numbers) (run ∷ runs) e = ap (λ (n : ℕ). suc n) (marked_length last numbers runs (omega (arith, e)))

marked_fits : (g : GraphData) (n last number : ℕ) (run : RunPlan) → RunFits g n run → RunFits g n (run_marked last number run)
marked_fits g n last number run h =
    record { collection = h.collection; checked = h.checked; call = h.call; numbers = h.numbers; some = h.some; limit = h.limit; split = h.split; phases = h.phases }

-- what holds of each run, told to be edited or not, holds of each run of the plan
pub each_marked : (Q : RunPlan → Type 0) (last : ℕ) → ((number : ℕ) (run : RunPlan) → Q run → Q (run_marked last number run)) → (numbers : List ℕ) (runs : List RunPlan) → All Q runs → All Q (runs_marked last numbers runs)
each_marked Q last on [] runs h = All-nil Q
each_marked Q last on (number ∷ numbers) [] h = All-nil Q
each_marked Q last on (number ∷ numbers) (run ∷ runs) h =
    All-cons Q (run_marked last number run) (runs_marked last numbers runs) (on number run (All-head Q run runs h)) (each_marked Q last on numbers runs (All-tail Q run runs h))

pub all_marked : (g : GraphData) (n last : ℕ) (numbers : List ℕ) (runs : List RunPlan) → All (RunFits g n) runs → All (RunFits g n) (runs_marked last numbers runs)
all_marked g n last numbers runs h = each_marked (RunFits g n) last (marked_fits g n last) numbers runs h

-- a run of the plan is told to be edited exactly where it is kept and its statement stands before the last edit
pub marked_at : (last : ℕ) (numbers : List ℕ) (runs : List RunPlan) (place : ℕ) (run : RunPlan) → slice_get (runs_marked last numbers runs) place ≡ Some run
    → run.edited ≡ (is_some run.keep && nat_lt (get_or numbers place 0) last)
marked_at last [] runs place run e = absurd cc
marked_at last (number ∷ numbers) [] place run e = absurd cc
marked_at last (number ∷ numbers) (first ∷ runs) zero run e =
    let same : run_marked last number first ≡ run = cc in
    subst (λ (r : RunPlan). r.edited ≡ (is_some r.keep && nat_lt number last)) same refl
marked_at last (number ∷ numbers) (first ∷ runs) (suc place) run e = marked_at last numbers runs place run e
