-- One edge more comes.
use Rattle.std.proofs.Common.{◌∙◌, ◌+◌, ℕ, Bool, true, List, [], ◌∷◌, ◌++◌, sym, ap, refl}
use Rattle.std.proofs.lemmas.List.FromFn.{map-range_with_len_more}
use Rattle.graph_model.specs.declared.number.EdgeNo.{EdgeNo}
use Rattle.edge_predicates.specs.ViewEdges.{edge}
use Rattle.surge_session.proofs.edit.edges_inserted.Goals as goal

pub loop-place-preserved : goal.loop-place-preserved
loop-place-preserved c =
    let first = c.args.first in
    let place = c.loop-place.place in
    c.in_ok-push.ensures.items
    ∙ ap (λ (cs : List (EdgeNo × Bool)). cs ++ (edge (first + place), true) ∷ []) c.loop-place.invariant
    ∙ sym (map-range_with_len_more (λ (e : ℕ). (edge e, true)) first place (first + place) refl)
