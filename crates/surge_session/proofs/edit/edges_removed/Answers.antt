-- All edges were looked at.
use Rattle.std.proofs.Common.{◌≡◌, Bool, ℕ, List, length, subst, sym, arith}
use Rattle.graph_model.specs.declared.number.EdgeNo.{EdgeNo}
use Rattle.surge_session.specs.Changes.{HasRemoved}
use Rattle.surge_session.proofs.Turning.{nothing_removed, all_removed}
use Rattle.surge_session.proofs.edit.edges_removed.Goals as goal

pub loop-place-init : goal.loop-place-init
loop-place-init c =
    let graph = c.args.graph.now in
    let live = c.args.live.now in
    let rule = c.args.rule.now in
    subst (λ (cs : List (EdgeNo × Bool)). HasRemoved graph live rule 0 cs) (sym c.new-changes.ensures) (nothing_removed graph live rule)

pub returns : goal.returns
returns c =
    let graph = c.args.graph.now in
    let live = c.args.live.now in
    let rule = c.args.rule.now in
    let cs = c.loop-place.changes in
    let all : c.loop-place.place ≡ length live = omega arith in
    all_removed graph live rule cs c.requires (subst (λ (k : ℕ). HasRemoved graph live rule k cs) all c.loop-place.invariant)
