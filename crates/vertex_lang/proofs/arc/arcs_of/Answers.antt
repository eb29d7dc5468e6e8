use Rattle.std.proofs.Common.{◌≡◌, ◌∙◌, ◌++◌, List, length, get_or, ap, sym, subst, arith}
use Rattle.std.specs.Prelude.{All}
use Rattle.std.proofs.lemmas.List.{length-append}
use Rattle.std.proofs.lemmas.List.Elements.{All-append}
use Rattle.graph_model.specs.declared.number.EdgeNo.{EdgeNo}
use Rattle.vertex_lang.specs.declared.arc.Arc.{Arc}
use Rattle.vertex_lang.specs.Arcs.{arcs_of_edge, IsArc}
use Rattle.vertex_lang.proofs.ArcFacts.{few_arcs, arcs_more}
use Rattle.vertex_lang.proofs.arc.arcs_of.Goals as goal

abbrev no_edge : EdgeNo
no_edge = record { 0 = 0 }

pub loop-edge-preserved : goal.loop-edge-preserved
loop-edge-preserved c =
    let i = c.loop-edge.edge-index in
    let edges = c.args.edges.now in
    let graph = c.args.graph.now in
    let way = c.args.along in
    let e = get_or edges i no_edge in
    let new : c.push_arcs.new.arcs ≡ c.loop-edge.arcs ++ arcs_of_edge way graph e = c.in_ok-push_arcs.ensures.arcs in
    record {
      arcs = new ∙ ap (λ (xs : List Arc). xs ++ arcs_of_edge way graph e) c.loop-edge.invariant.arcs ∙ sym (arcs_more way graph edges i no_edge c.loop-edge-test.true);
      within = subst (λ (xs : List Arc). All (IsArc graph) xs) (sym new) (All-append (IsArc graph) c.loop-edge.arcs (arcs_of_edge way graph e) c.loop-edge.invariant.within c.push_arcs.ensures.within);
      count = omega (arith, ap (λ (xs : List Arc). length xs) new, length-append c.loop-edge.arcs (arcs_of_edge way graph e), few_arcs way graph e, c.loop-edge.invariant.count);
    }
