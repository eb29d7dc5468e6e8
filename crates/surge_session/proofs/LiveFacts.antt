-- Which edges are live before a statement, and before the next one.
use Rattle.std.proofs.Common.{◌≡◌, ◌∙◌, ◌+◌, ℕ, zero, suc, Bool, true, false, ◌&&◌, ◌||◌, List, length, Option, Some, None, slice_get, refl, ap, arith}
use Rattle.std.specs.Prelude.{not, nat_le, nat_lt}
use Rattle.std.proofs.lemmas.List.FromFn.{length-map-range_with_len}
use Rattle.graph_model.specs.GraphData.{GraphData}
use Rattle.edge_predicates.specs.Truth.{truth}
use Rattle.gvdl_check.specs.declared.plan.Step.{Step}
use Rattle.gvdl_check.specs.declared.plan.Step.TheVariants as step
use Rattle.gvdl_check.specs.declared.plan.Plan.{Plan}
use Rattle.gvdl_check.specs.Steps.{edits}
use Rattle.view_matrix.specs.Matrices.{MatrixData}
use Rattle.edge_predicates.specs.declared.pred.ViewRule.{ViewRule}
use Rattle.surge_session.specs.Live.{LiveGraph, is_live, live_loaded, live_after, live_at, graph_at}
use Rattle.surge_session.specs.State.{ShowsLive, shown_graph}

-- ---- there is a truth value for each edge

count_after : (g : GraphData) (live : List Bool) (s : Option Step) → length live ≡ length g.ends → length (live_after g live s) ≡ length g.ends
count_after g live None e = e
count_after g live (Some (step.Insert first count)) e = length-map-range_with_len (λ (x : ℕ). is_live live x || (nat_le first x && nat_lt x (first + count))) 0 (length g.ends)
count_after g live (Some (step.Remove rule)) e = length-map-range_with_len (λ (x : ℕ). is_live live x && not (truth g x rule)) 0 (length g.ends)
count_after g live (Some step.Nothing) e = e
count_after g live (Some (step.Make place count)) e = e
count_after g live (Some (step.Run place)) e = e
count_after g live (Some (step.Append place first count)) e = e
count_after g live (Some (step.ShowOrder place)) e = e
count_after g live (Some (step.ShowWork place)) e = e
count_after g live (Some (step.ShowTree place)) e = e
count_after g live (Some (step.Aggregate place by sum)) e = e

pub live_count : (g : GraphData) (p : Plan) (n : ℕ) → length (live_at g p n) ≡ length g.ends
unfolding live_at
live_count g p zero = length-map-range_with_len (λ (e : ℕ). nat_lt e p.loaded) 0 (length g.ends)
live_count g p (suc n) = count_after g (live_at g p n) (slice_get p.steps n) (live_count g p n)

pub live_first : (g : GraphData) (p : Plan) → live_at g p 0 ≡ live_loaded g p
unfolding live_at
live_first g p = refl

-- the graph with the edges that are live in a matrix is the one that it shows
pub shown_is : (w : LiveGraph) (rules : List ViewRule) (m : MatrixData) → ShowsLive w rules m → shown_graph w.graph m ≡ w
shown_is w rules m shows = ap (λ (live : List Bool). let v : LiveGraph = record { graph = w.graph; live = live } in v) shows.live

-- ---- a statement by which no edge comes or goes

kept_live : (g : GraphData) (live : List Bool) (s : Step) → edits s ≡ false → live_after g live (Some s) ≡ live
kept_live g live (step.Insert first count) other = absurd cc
kept_live g live (step.Remove rule) other = absurd cc
kept_live g live step.Nothing other = refl
kept_live g live (step.Make place count) other = refl
kept_live g live (step.Run place) other = refl
kept_live g live (step.Append place first count) other = refl
kept_live g live (step.ShowOrder place) other = refl
kept_live g live (step.ShowWork place) other = refl
kept_live g live (step.ShowTree place) other = refl
kept_live g live (step.Aggregate place by sum) other = refl

-- what is live behind a statement
pub live_next : (g : GraphData) (p : Plan) (n : ℕ) (s : Option Step) → slice_get p.steps n ≡ s → live_at g p (n + 1) ≡ live_after g (live_at g p n) s
unfolding live_at
live_next g p n s at = ap (live_at g p) (let e : n + 1 ≡ suc n = omega arith in e) ∙ ap (live_after g (live_at g p n)) at

pub live_passed : (g : GraphData) (p : Plan) (n : ℕ) (s : Step) → slice_get p.steps n ≡ Some s → edits s ≡ false → live_at g p (n + 1) ≡ live_at g p n
live_passed g p n s at other = live_next g p n (Some s) at ∙ kept_live g (live_at g p n) s other

pub graph_passed : (g : GraphData) (p : Plan) (n : ℕ) (s : Step) → slice_get p.steps n ≡ Some s → edits s ≡ false → graph_at g p (n + 1) ≡ graph_at g p n
graph_passed g p n s at other =
    ap (λ (live : List Bool). let w : LiveGraph = record { graph = g; live = live } in w) (live_passed g p n s at other)
