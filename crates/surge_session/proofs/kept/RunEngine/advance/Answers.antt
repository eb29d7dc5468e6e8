-- Only a run that follows edges is brought to them.
use Rattle.std.proofs.Common.{◌≡◌, ◌∙◌, ◌+◌, ◌≤◌, true, false, List, ℕ, sym, ap, subst, None, Some}
use Rattle.graph_model.specs.GraphData.{GraphData}
use Rattle.view_matrix.specs.Matrices.{MatrixData}
use Rattle.view_order.specs.Greedy.{numbers}
use Rattle.surge_session.specs.RunWorks.{advance_calls}
use Rattle.surge_session.specs.State.{HasFollowed, HasRunIn, order_in}
use Rattle.surge_session.specs.declared.kept.RunEngine.{RunEngine}
use Rattle.surge_session.specs.declared.kept.RunEngine.TheVariants as run_engine
use Rattle.std.specs.Prelude.{OnOk}
use Rattle.surge_session.proofs.Texts.{on_ok}
use Rattle.surge_session.proofs.Telling.{not_plain, not_phased, engine_before, engine_behind}
use Rattle.surge_session.proofs.kept.RunEngine.advance.Goals as goal

pub advance_followed-requires : goal.advance_followed-requires
advance_followed-requires g c =
    let turns = c.requires.turns in
    let here = subst (λ (x : RunEngine). HasRunIn g.U.Updater.answer c.args.graph.now c.args.run.now turns.0 x) c.in-Versions.is turns.2 in
    record { turns = (turns.0, turns.1, engine_before g.U.Updater.answer c.args.graph.now c.args.run.now turns.0 c.in-Versions.engine here) }

pub returns-in-Versions-clause-has : goal.returns-in-Versions-clause-has
returns-in-Versions-clause-has g c =
    let answer = g.U.Updater.answer in
    let graph = c.args.graph.now in
    let run = c.args.run.now in
    let m = c.args.matrix.now in
    let turns = c.requires.turns in
    let e = c.in-Versions.engine in
    let here : HasRunIn answer graph run turns.0 (run_engine.Versions e) = subst (λ (x : RunEngine). HasRunIn answer graph run turns.0 x) c.in-Versions.is turns.2 in
    on_ok c.advance_followed.result (λ has. engine_behind answer graph run turns.0 m e c.advance_followed.new.engine here has) c.advance_followed.ensures.has

pub returns-in-Versions-clause-calls : goal.returns-in-Versions-clause-calls
returns-in-Versions-clause-calls g c =
    let answer = g.U.Updater.answer in
    let graph = c.args.graph.now in
    let run = c.args.run.now in
    let m = c.args.matrix.now in
    let turns = c.requires.turns in
    let e = c.in-Versions.engine in
    let here : HasRunIn answer graph run turns.0 (run_engine.Versions e) = subst (λ (x : RunEngine). HasRunIn answer graph run turns.0 x) c.in-Versions.is turns.2 in
    let same : advance_calls answer e.graph.now run m c.args.changes.now e.order ≡ advance_calls answer graph run m c.args.changes.now e.order = ap (λ (x : GraphData). advance_calls answer x run m c.args.changes.now e.order) here.1.graph in
    let there : advance_calls answer graph run m c.args.changes.now e.order ≡ advance_calls answer graph run m c.args.changes.now (order_in c.args.self.now) = sym (ap (λ (x : RunEngine). advance_calls answer graph run m c.args.changes.now (order_in x)) c.in-Versions.is) in
    subst (λ (k : ℕ). OnOk c.advance_followed.result (g.U.Counted.calls c.advance_followed.new.updater ≤ g.U.Counted.calls c.args.updater.now + k)) (same ∙ there) c.advance_followed.ensures.calls

pub returns-in-Plain-clause-has : goal.returns-in-Plain-clause-has
returns-in-Plain-clause-has g c =
    let turns = c.requires.turns in
    absurd (not_plain g.U.Updater.answer c.args.graph.now c.args.run.now turns.0 _ c.requires.edited (subst (λ (x : RunEngine). HasRunIn g.U.Updater.answer c.args.graph.now c.args.run.now turns.0 x) c.in-Plain.is turns.2))

pub returns-in-Phased-clause-has : goal.returns-in-Phased-clause-has
returns-in-Phased-clause-has g c =
    let turns = c.requires.turns in
    absurd (not_phased g.U.Updater.answer c.args.graph.now c.args.run.now turns.0 _ c.requires.unphased (subst (λ (x : RunEngine). HasRunIn g.U.Updater.answer c.args.graph.now c.args.run.now turns.0 x) c.in-Phased.is turns.2))
