-- Which edges a list of truth values names, and which a file brought.
use Rattle.std.proofs.Common.{◌≡◌, ◌∙◌, ◌+◌, ◌<◌, ◌≤◌, ℕ, Bool, true, false, ◌&&◌, List, length, map, take, get_or, Some, slice_get, refl, ap, subst, arith}
use Rattle.std.specs.Prelude.{nat_le, nat_lt, sum_by}
use Rattle.std.specs.List.{range_with_len}
use Rattle.std.proofs.lemmas.Bool.Decides.{nat_tests}
use Rattle.std.proofs.lemmas.List.{get_or_past}
use Rattle.std.proofs.lemmas.List.FromFn.{get_or-map-range_with_len}
use Rattle.std.proofs.lemmas.List.Sums.{sum_by_more_le}
use Rattle.std.proofs.lemmas.Option.{slice_get_within, get_or_from_slice_get}
use Rattle.graph_model.specs.GraphData.{GraphData}
use Rattle.gvdl_check.specs.declared.plan.Step.{Step}
use Rattle.gvdl_check.specs.declared.plan.Step.TheVariants as step
use Rattle.gvdl_check.specs.declared.plan.Plan.{Plan}
use Rattle.gvdl_check.specs.Steps.{comes, edges_at, StepFits}
use Rattle.gvdl_check.specs.Fits.{PlanFits}
use Rattle.surge_session.specs.Live.{is_live}

-- ---- a truth value for each edge

pub inside : (g : GraphData) (f : ℕ → Bool) (e : ℕ) → e < length g.ends → is_live (map f (range_with_len 0 (length g.ends))) e ≡ f e
inside g f e lt = get_or-map-range_with_len f 0 (length g.ends) e e false lt (omega arith)

pub outside : (live : List Bool) (count e : ℕ) → length live ≡ count → count ≤ e → is_live live e ≡ false
outside live count e all le = get_or_past live e false (omega (arith, all, le))

and_false : (b : Bool) → (b && false) ≡ false
and_false true = refl
and_false false = refl

abbrev pub brought : ℕ → ℕ → ℕ → Bool
brought first count e = nat_le first e && nat_lt e (first + count)

-- ---- an edge that no file brought yet

pub not_below : (e n : ℕ) → n ≤ e → nat_lt e n ≡ false
not_below e n le = grind (arith, nat_tests)

pub not_brought : (first count e : ℕ) → first + count ≤ e → brought first count e ≡ false
not_brought first count e le = ap (λ (b : Bool). nat_le first e && b) (not_below e (first + count) le) ∙ and_false (nat_le first e)

-- the edges that come with a step are among all that came with the plan
pub brought_within : (g : GraphData) (p : Plan) → PlanFits g p → (n first count : ℕ) → slice_get p.steps n ≡ Some (step.Insert first count) → first + count ≤ length g.ends
brought_within g p fits n first count at =
    let lt : n < length p.steps = slice_get_within p.steps n (step.Insert first count) at in
    let is : get_or p.steps n step.Nothing ≡ step.Insert first count = get_or_from_slice_get p.steps n (step.Insert first count) step.Nothing at in
    let here : first ≡ edges_at p n = subst (λ (s : Step). StepFits p n s) is (fits.steps n lt) in
    let many : comes (get_or p.steps n step.Nothing) ≡ count = ap comes is in
    omega (arith, here, many, sum_by_more_le comes p.steps n step.Nothing lt, fits.edges)
