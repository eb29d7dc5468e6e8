-- Which edges there are: those of the edges file at first, more with each file that is inserted, and fewer after a removal.
use Rattle.std.specs.Prelude.{ℕ, zero, suc, ◌+◌, Bool, false, not, ◌&&◌, ◌||◌, nat_le, nat_lt, List, length, map, filter, get_or, slice_get, Option, Some}
use Rattle.std.specs.List.{range_with_len}
use Rattle.graph_model.specs.declared.number.EdgeNo.{EdgeNo}
use Rattle.graph_model.specs.GraphData.{GraphData}
use Rattle.edge_predicates.specs.declared.pred.Pred.{Pred}
use Rattle.edge_predicates.specs.declared.pred.ViewRule.{ViewRule}
use Rattle.edge_predicates.specs.Truth.{truth, rule_truth}
use Rattle.edge_predicates.specs.ViewEdges.{edges_of}
use Rattle.gvdl_check.specs.declared.plan.Step.{Step}
use Rattle.gvdl_check.specs.declared.plan.Step.TheVariants as step
use Rattle.gvdl_check.specs.declared.plan.Plan.{Plan}

-- whether each edge of a graph is live, by its number: such a list has an entry for each edge
abbrev pub is_live : List Bool → ℕ → Bool
is_live live e = get_or live e false

-- a truth value for each edge of a graph
abbrev for_each : GraphData → (ℕ → Bool) → List Bool
for_each g live = map live (range_with_len 0 (length g.ends))

-- after the load the edges of the edges file are live, which stand first
abbrev pub live_loaded : GraphData → Plan → List Bool
live_loaded g p = for_each g (λ e. nat_lt e p.loaded)

-- so many edges from this one on come
abbrev pub live_inserted : GraphData → List Bool → (first count : ℕ) → List Bool
live_inserted g live first count = for_each g (λ e. is_live live e || (nat_le first e && nat_lt e (first + count)))

-- the live edges for which the predicate holds go; edges that come later stay
abbrev pub live_removed : GraphData → List Bool → Pred → List Bool
live_removed g live rule = for_each g (λ e. is_live live e && not (truth g e rule))

abbrev pub live_after : GraphData → List Bool → Option Step → List Bool
live_after g live (Some (step.Insert first count)) = live_inserted g live first count
live_after g live (Some (step.Remove rule)) = live_removed g live rule
live_after g live _ = live

-- which edges are live before this step
unfoldable pub live_at : GraphData → Plan → ℕ → List Bool
live_at g p zero = live_loaded g p
live_at g p (suc n) = live_after g (live_at g p n) (slice_get p.steps n)

-- a graph with the edges that are live at some time
pub record LiveGraph : Type 0 where
  pub graph : GraphData
  pub live : List Bool

-- the graph before this step
abbrev pub graph_at : GraphData → Plan → ℕ → LiveGraph
graph_at g p n = record { graph = g; live = live_at g p n }

-- the edges of a view: those that are live and for which each predicate of its rule holds, by rising number
abbrev pub live_edges : LiveGraph → ViewRule → List EdgeNo
live_edges w rule = filter (λ e. is_live w.live e.0 && rule_truth w.graph e.0 rule) (edges_of w.graph)
