-- The edges come behind all that came before.
use Rattle.std.proofs.Common.{◌≡◌, ◌∙◌, ◌+◌, ◌<◌, ◌≤◌, true, Bool, List, length, sym, ap, subst, refl, arith}
use Rattle.graph_model.specs.declared.number.EdgeNo.{EdgeNo}
use Rattle.gvdl_check.specs.declared.plan.Step.TheVariants as step
use Rattle.surge_session.specs.Changes.{AreTurned}
use Rattle.surge_session.specs.Live.{live_at}
use Rattle.surge_session.proofs.Brought.{brought_within}
use Rattle.surge_session.proofs.Turning.{insert_turns}
use Rattle.surge_session.proofs.edit.execute_insert.Goals as goal

pub edges_inserted-requires : goal.edges_inserted-requires
edges_inserted-requires g c =
    let within = brought_within c.args.setting.graph.now c.args.setting.plan.now c.requires.fits c.args.n c.args.first c.args.count c.requires.step in
    omega (arith, within, c.edge_count-all.ensures.count, c.edge_count-all.ensures.limit)

pub execute_edit-requires-clause-step : goal.execute_edit-requires-clause-step
execute_edit-requires-clause-step g c = (step.Insert c.args.first c.args.count, c.requires.step, refl)

pub execute_edit-requires-clause-changes : goal.execute_edit-requires-clause-changes
execute_edit-requires-clause-changes g c =
    let graph = c.args.setting.graph.now in
    let p = c.args.setting.plan.now in
    let n = c.args.n in
    subst (λ (cs : List (EdgeNo × Bool)). AreTurned (live_at graph p n) (live_at graph p (n + 1)) cs) (sym (c.as_slice.ensures ∙ c.in-Ok.ensures)) (insert_turns graph p c.requires.fits n c.args.first c.args.count c.requires.step)
