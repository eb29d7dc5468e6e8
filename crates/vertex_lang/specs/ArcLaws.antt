-- The arcs of edges run along their direction, and are arcs of the graph.
use Rattle.std.specs.Prelude.{◌<◌, List, [], ◌∷◌, length, flat_map, All, Contains, refl}
use Rattle.std.proofs.Common.{inl, inr}
use Rattle.std.proofs.lemmas.List.Elements.{All-nil, All-cons, All-append, All-head, All-tail, All-weaker}
use Rattle.graph_model.specs.declared.number.EdgeNo.{EdgeNo}
use Rattle.graph_model.specs.GraphData.{GraphData, EndsAmong, node}
use Rattle.vertex_lang.specs.declared.arc.Arc.{Arc}
use Rattle.vertex_lang.specs.declared.program.Along.{Along}
use Rattle.vertex_lang.specs.declared.program.Along.TheVariants as along
use Rattle.vertex_lang.specs.Arcs.{arcs_between, arcs_of_edge, forward, backward, IsArc}
use Rattle.vertex_lang.specs.Directions.{RunsAlong}
use Rattle.vertex_lang.specs.ExtremeLaws.{contains-here, contains-there}

module _ (P : Arc → Type 0) (f : EdgeNo → List Arc) where
  all-flat : (edges : List EdgeNo) → All (λ e. All P (f e)) edges → All P (flat_map f edges)
  all-flat [] h = All-nil P
  all-flat (e ∷ edges) h = All-append P (f e) (flat_map f edges) (All-head (λ x. All P (f x)) e edges h) (all-flat edges (All-tail (λ x. All P (f x)) e edges h))

  each-edge : (edges : List EdgeNo) → ((e : EdgeNo) → All P (f e)) → All P (flat_map f edges)
  each-edge edges h = all-flat edges (λ i d low. h _)

one : (P : Arc → Type 0) (a : Arc) → P a → All P (a ∷ [])
one P a h = All-cons P a [] h (All-nil P)

two : (P : Arc → Type 0) (a b : Arc) → P a → P b → All P (a ∷ b ∷ [])
two P a b h k = All-cons P a (b ∷ []) h (one P b k)

edge-runs : (way : Along) (graph : GraphData) (e : EdgeNo) → All (RunsAlong way graph) (arcs_of_edge way graph e)
edge-runs along.Out graph e = one (RunsAlong along.Out graph) (forward graph e) refl
edge-runs along.In graph e = one (RunsAlong along.In graph) (backward graph e) refl
edge-runs along.Both graph e = two (RunsAlong along.Both graph) (forward graph e) (backward graph e) (inl refl) (inr refl)

pub arcs-run : (way : Along) (graph : GraphData) (edges : List EdgeNo) → All (RunsAlong way graph) (arcs_between way graph edges)
arcs-run way graph edges = each-edge (RunsAlong way graph) (arcs_of_edge way graph) edges (edge-runs way graph)

-- ---- the edges that they come from

edge-comes : (way : Along) (graph : GraphData) (edges : List EdgeNo) (e : EdgeNo) → Contains edges e → All (λ a. Contains edges a.edge) (arcs_of_edge way graph e)
edge-comes along.Out graph edges e h = one (λ a. Contains edges a.edge) (forward graph e) h
edge-comes along.In graph edges e h = one (λ a. Contains edges a.edge) (backward graph e) h
edge-comes along.Both graph edges e h = two (λ a. Contains edges a.edge) (forward graph e) (backward graph e) h h

all-within : (edges : List EdgeNo) → All (Contains edges) edges
all-within [] = All-nil (Contains [])
all-within (e ∷ edges) = All-cons (Contains (e ∷ edges)) e edges (contains-here e edges) (All-weaker (Contains edges) (Contains (e ∷ edges)) (λ x h. contains-there e edges x h) edges (all-within edges))

pub arcs-come : (way : Along) (graph : GraphData) (edges : List EdgeNo) → All (λ a. Contains edges a.edge) (arcs_between way graph edges)
arcs-come way graph edges = all-flat (λ a. Contains edges a.edge) (arcs_of_edge way graph) edges (All-weaker (Contains edges) (λ e. All (λ a. Contains edges a.edge) (arcs_of_edge way graph e)) (λ e h. edge-comes way graph edges e h) edges (all-within edges))

-- ---- arcs of the graph

edge-within : (way : Along) (graph : GraphData) (e : EdgeNo) → All (EndsAmong (length graph.ids)) graph.ends → e.0 < length graph.ends → All (IsArc graph) (arcs_of_edge way graph e)
edge-within along.Out graph e among low = let ends = among e.0 (node 0, node 0) low in one (IsArc graph) (forward graph e) (record { tail = ends.0; head = ends.1; edge = low })
edge-within along.In graph e among low = let ends = among e.0 (node 0, node 0) low in one (IsArc graph) (backward graph e) (record { tail = ends.1; head = ends.0; edge = low })
edge-within along.Both graph e among low =
    let ends = among e.0 (node 0, node 0) low in
    two (IsArc graph) (forward graph e) (backward graph e) (record { tail = ends.0; head = ends.1; edge = low }) (record { tail = ends.1; head = ends.0; edge = low })

pub arcs-within : (way : Along) (graph : GraphData) (edges : List EdgeNo) → All (EndsAmong (length graph.ids)) graph.ends → All (λ e. e.0 < length graph.ends) edges → All (IsArc graph) (arcs_between way graph edges)
arcs-within way graph edges among low = all-flat (IsArc graph) (arcs_of_edge way graph) edges (All-weaker (λ e. e.0 < length graph.ends) (λ e. All (IsArc graph) (arcs_of_edge way graph e)) (λ e h. edge-within way graph e among h) edges low)
