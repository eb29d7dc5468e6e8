-- The arcs of an edge.
use Rattle.std.proofs.Common.{◌≡◌, ◌∙◌, ◌<◌, ◌≤◌, ◌+◌, ◌++◌, ◌∷◌, [], ℕ, List, length, get_or, take, ap, arith}
use Rattle.std.specs.Prelude.{All}
use Rattle.std.proofs.lemmas.Grind.{flat_map-append}
use Rattle.std.proofs.lemmas.List.{take_more, append-nil}
use Rattle.std.proofs.lemmas.List.Elements.{All-nil, All-cons}
use Rattle.graph_model.specs.declared.number.EdgeNo.{EdgeNo}
use Rattle.graph_model.specs.GraphData.{GraphData}
use Rattle.vertex_lang.specs.declared.arc.Arc.{Arc}
use Rattle.vertex_lang.specs.declared.program.Along.{Along}
use Rattle.vertex_lang.specs.declared.program.Along.TheVariants as along
use Rattle.vertex_lang.specs.Arcs.{arcs_between, arcs_of_edge, forward, backward, IsArc}

one : (graph : GraphData) (a : Arc) → IsArc graph a → All (IsArc graph) (a ∷ [])
one graph a h = All-cons (IsArc graph) a [] h (All-nil (IsArc graph))

pub edge_arcs : (way : Along) (graph : GraphData) (e : EdgeNo) → IsArc graph (forward graph e) → IsArc graph (backward graph e) → All (IsArc graph) (arcs_of_edge way graph e)
edge_arcs along.Out graph e f b = one graph (forward graph e) f
edge_arcs along.In graph e f b = one graph (backward graph e) b
edge_arcs along.Both graph e f b = All-cons (IsArc graph) (forward graph e) (backward graph e ∷ []) f (one graph (backward graph e) b)

pub few_arcs : (way : Along) (graph : GraphData) (e : EdgeNo) → length (arcs_of_edge way graph e) ≤ 2
few_arcs along.Out graph e = omega arith
few_arcs along.In graph e = omega arith
few_arcs along.Both graph e = omega arith

-- with one edge more
pub arcs_more : (way : Along) (graph : GraphData) (edges : List EdgeNo) (i : ℕ) (d : EdgeNo) → i < length edges → arcs_between way graph (take (i + 1) edges) ≡ arcs_between way graph (take i edges) ++ arcs_of_edge way graph (get_or edges i d)
arcs_more way graph edges i d low =
    let f = λ (e : EdgeNo). arcs_of_edge way graph e in
    ap (λ (es : List EdgeNo). arcs_between way graph es) (take_more edges i d low)
    ∙ flat_map-append f (take i edges) (get_or edges i d ∷ [])
    ∙ ap (λ (xs : List Arc). arcs_between way graph (take i edges) ++ xs) (append-nil (f (get_or edges i d)))
