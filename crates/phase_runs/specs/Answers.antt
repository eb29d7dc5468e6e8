-- What a run in phases answers on the views of an order, and for how many of them a run is made.
use Rattle.std.specs.Prelude.{◌≡◌, ℕ, ◌+◌, ◌==◌, List, [], ◌∷◌, map, Option, Some, None, if◌then◌else◌}
use Rattle.graph_model.specs.declared.number.ViewNo.{ViewNo}
use Rattle.graph_model.specs.GraphData.{GraphData}
use Rattle.vertex_lang.specs.declared.arc.Arc.{Arc}
use Rattle.vertex_lang.specs.declared.lone.Lone.{Lone}
use Rattle.vertex_lang.specs.declared.program.Program.{Program}
use Rattle.vertex_lang.specs.Arcs.{arcs_between}
use Rattle.vertex_lang.specs.Expressions.{Answer}
use Rattle.vertex_lang.specs.Phases.{phases_answer}
use Rattle.view_matrix.specs.Matrices.{MatrixData, edges_in, distance_of}
use Rattle.result_tables.specs.Results.{ResultsData, table_on}
use Rattle.result_tables.specs.TableText.{table_of}

-- ---- answers

-- the arcs of a view
abbrev pub view_arcs : Program → GraphData → MatrixData → ViewNo → List Arc
view_arcs p graph m view = arcs_between p.along graph (edges_in m view.0)

-- the answer of the program alone on the view, in so many phases of n rounds each
abbrev pub answer_on : Answer → Program → GraphData → MatrixData → (n phases : ℕ) → ViewNo → Lone
answer_on answer p graph m n phases view = phases_answer answer p graph (view_arcs p graph m view) n phases

-- its table is held
abbrev pub HoldsAnswer : Answer → Program → GraphData → MatrixData → (n phases : ℕ) → ResultsData → ViewNo → Type 0
HoldsAnswer answer p graph m n phases results view = table_on results view ≡ Some (table_of (answer_on answer p graph m n phases view))

-- the views on which an answer is held, in their order
abbrev pub held_views : ResultsData → List ViewNo
held_views results = map (λ h. h.view) results.held

-- ---- runs

-- Whether a run is made for a view that stands behind another one, or behind none: it is where it differs from that one in
-- some edge.
abbrev pub own_run : MatrixData → Option ℕ → ℕ → ℕ
own_run m None v = 1
own_run m (Some u) v = if distance_of m (Some u) v == 0 then 0 else 1

-- for how many of these views, the first of which stands behind this one, or behind none
abbrev pub own_runs : MatrixData → Option ℕ → List ViewNo → ℕ
own_runs m before [] = 0
own_runs m before (v ∷ vs) = own_run m before v.0 + own_runs m (Some v.0) vs
