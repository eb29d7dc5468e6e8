-- What is told of the view is the table of its answer.
use Rattle.std.proofs.Common.{◌≡◌, ◌∙◌, true, is_some, List, Option, Some, refl, sym, ap, subst}
use Rattle.std.proofs.lemmas.Result.{IfOk-weaker}
use Rattle.vertex_lang.specs.Lone.{number_of}
use Rattle.view_order.specs.Greedy.{numbers}
use Rattle.phase_runs.specs.Answers.{HoldsAnswer, answer_on}
use Rattle.result_tables.specs.declared.table.Table.{Table}
use Rattle.result_tables.specs.Results.{held_on, table_on}
use Rattle.result_tables.specs.TableText.{table_of}
use Rattle.surge_session.specs.declared.kept.RunEngine.{RunEngine}
use Rattle.surge_session.specs.declared.kept.RunEngine.TheVariants as run_engine
use Rattle.surge_session.specs.State.{HasRunIn}
use Rattle.surge_session.proofs.Telling.{followed_table, phased_table, is_held}
use Rattle.surge_session.proofs.kept.RunEngine.result.Goals as goal

pub returns-else-not-stands_among : goal.returns-else-not-stands_among
returns-else-not-stands_among g c =
    let answer = g.U.Updater.answer in
    let graph = c.args.graph.now in
    let run = c.args.run.now in
    let m = c.args.matrix.now in
    let e = c.in-Versions.engine in
    let here : HasRunIn answer graph run m (run_engine.Versions e) = subst (λ (x : RunEngine). HasRunIn answer graph run m x) c.in-Versions.is c.requires.has in
    IfOk-weaker c.result-in-Versions.result _ _ (λ (t : Table) same. same ∙ ap table_of (followed_table answer graph run m c.args.view.0 c.args.rule.now c.requires.shown (numbers e.order) e here.1))
    (c.result-in-Versions.ensures answer m here.1.stands)

pub returns-else-not-has : goal.returns-else-not-has
returns-else-not-has g c =
    let answer = g.U.Updater.answer in
    let graph = c.args.graph.now in
    let run = c.args.run.now in
    let m = c.args.matrix.now in
    let view = c.args.view in
    let results = c.in-Phased.results in
    let here : HasRunIn answer graph run m (run_engine.Phased results) = subst (λ (x : RunEngine). HasRunIn answer graph run m x) c.in-Phased.is c.requires.has in
    let there : is_some (held_on results view) ≡ true = sym c.has.ensures ∙ c.if-not-has.false in
    let holds : table_on results view ≡ Some (table_of (answer_on answer run.program graph m (number_of run.rounds) here.0 view)) =
    is_held (HoldsAnswer answer run.program graph m (number_of run.rounds) here.0 results) results view (held_on results view) refl there here.1.all in
    IfOk-weaker c.table.result _ _
    (λ (t : Table) e. (let one : Some t ≡ Some (table_of (answer_on answer run.program graph m (number_of run.rounds) here.0 view)) = sym e ∙ holds in let same : t ≡ table_of (answer_on answer run.program graph m (number_of run.rounds) here.0 view) = cc in same)
    ∙ ap table_of (phased_table answer graph run m view.0 c.args.rule.now c.requires.shown here.0 view refl here.1.phases)) c.table.ensures.table
