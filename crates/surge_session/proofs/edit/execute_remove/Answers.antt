-- The edges go that are live and of which the predicate holds.
use Rattle.std.proofs.Common.{◌≡◌, ◌∙◌, ◌+◌, true, Bool, List, Some, length, sym, ap, subst, refl, arith}
use Rattle.graph_model.specs.declared.number.EdgeNo.{EdgeNo}
use Rattle.gvdl_check.specs.declared.plan.Step.TheVariants as step
use Rattle.surge_session.specs.Changes.{AreTurned}
use Rattle.surge_session.specs.Live.{live_at, live_removed}
use Rattle.surge_session.proofs.LiveFacts.{live_count, live_next}
use Rattle.surge_session.proofs.edit.execute_remove.Goals as goal

pub edges_removed-requires : goal.edges_removed-requires
edges_removed-requires g c = ap (λ (l : List Bool). length l) (c.deref.ensures.value ∙ c.requires.at.live) ∙ live_count c.args.setting.graph.now c.args.setting.plan.now c.args.n

pub execute_edit-requires-clause-step : goal.execute_edit-requires-clause-step
execute_edit-requires-clause-step g c = (step.Remove c.args.rule.now, c.requires.step, refl)

pub execute_edit-requires-clause-changes : goal.execute_edit-requires-clause-changes
execute_edit-requires-clause-changes g c =
    let graph = c.args.setting.graph.now in
    let p = c.args.setting.plan.now in
    let n = c.args.n in
    let rule = c.args.rule.now in
    let there : c.deref.result.now ≡ live_at graph p n = c.deref.ensures.value ∙ c.requires.at.live in
    let next : live_at graph p (n + 1) ≡ live_removed graph (live_at graph p n) rule = live_next graph p n (Some (step.Remove rule)) c.requires.step in
    subst (λ (cs : List (EdgeNo × Bool)). AreTurned (live_at graph p n) (live_at graph p (n + 1)) cs) (sym c.as_slice.ensures)
    (subst (λ (after : List Bool). AreTurned (live_at graph p n) after c.in-Ok.changes) (sym next)
    (subst (λ (live : List Bool). AreTurned live (live_removed graph live rule) c.in-Ok.changes) there c.in-Ok.ensures))
