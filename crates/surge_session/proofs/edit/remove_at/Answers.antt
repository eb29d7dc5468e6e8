-- The edge goes.
use Rattle.std.proofs.Common.{◌≡◌, ◌+◌, Bool, false, true, List, [], ◌∷◌, ◌++◌, sym, subst, arith}
use Rattle.graph_model.specs.declared.number.EdgeNo.{EdgeNo}
use Rattle.edge_predicates.specs.Truth.{truth}
use Rattle.edge_predicates.specs.ViewEdges.{edge}
use Rattle.surge_session.specs.Changes.{HasRemoved}
use Rattle.surge_session.specs.Live.{is_live}
use Rattle.surge_session.proofs.Texts.{on_ok}
use Rattle.surge_session.proofs.Turning.{goes}
use Rattle.surge_session.proofs.edit.remove_at.Goals as goal

pub returns : goal.returns
returns c =
    let graph = c.args.graph.now in
    let live = c.args.live.now in
    let rule = c.args.rule.now in
    let place = c.args.place in
    let old : List (EdgeNo × Bool) = c.args.changes.now in
    let there : is_live live place ≡ true = cc in
    let holds : truth graph place rule ≡ true = cc in
    on_ok c.push.result
    (λ (e : c.push.new.self ≡ old ++ (edge place, false) ∷ []).
    subst (λ (cs : List (EdgeNo × Bool)). HasRemoved graph live rule (place + 1) cs) (sym e) (goes graph live rule place old c.requires.so_far c.requires.within there holds)) c.push.ensures.ok
