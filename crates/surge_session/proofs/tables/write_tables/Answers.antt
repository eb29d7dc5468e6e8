-- Each table alone, or as blocks.
use Rattle.std.proofs.Common.{◌≡◌, ◌∙◌, ℕ, List, true, false, map, sym, subst}
use Rattle.std.specs.Prelude.{OnErr, OnOk}
use Rattle.surge_outside.specs.Written.{GrewByFront, appended}
use Rattle.surge_session.specs.Output.{is_changes, view_shown}
use Rattle.surge_session.specs.State.{shown_graph}
use Rattle.surge_session.proofs.Blocks.{texts_alone, texts_of_blocks}
use Rattle.surge_session.proofs.tables.write_tables.Goals as goal

pub returns-then-is_changes-clause-ok : goal.returns-then-is_changes-clause-ok
returns-then-is_changes-clause-ok g c =
    let changes : is_changes c.args.form ≡ true = sym c.is_changes.ensures ∙ c.if-is_changes.true in
    let graph = c.args.ran.graph.now in
    let tables = map (view_shown g.U.Updater.answer (shown_graph graph c.args.ran.matrix.now) c.args.ran.run.now c.args.ran.collection.now.name) c.args.views.now in
    subst (λ (bytes : List ℕ). OnOk c.write_blocks.result (g.O.Sink.written c.write_blocks.new.out ≡ appended (g.O.Sink.written c.args.out.now) bytes)) (texts_of_blocks c.args.form graph tables changes) c.write_blocks.ensures.ok

pub returns-then-is_changes-clause-err : goal.returns-then-is_changes-clause-err
returns-then-is_changes-clause-err g c =
    let changes : is_changes c.args.form ≡ true = sym c.is_changes.ensures ∙ c.if-is_changes.true in
    let graph = c.args.ran.graph.now in
    let tables = map (view_shown g.U.Updater.answer (shown_graph graph c.args.ran.matrix.now) c.args.ran.run.now c.args.ran.collection.now.name) c.args.views.now in
    subst (λ (bytes : List ℕ). OnErr c.write_blocks.result (GrewByFront (g.O.Sink.written c.args.out.now) (g.O.Sink.written c.write_blocks.new.out) bytes)) (texts_of_blocks c.args.form graph tables changes) c.write_blocks.ensures.err

pub returns-clause-ok : goal.returns-clause-ok
returns-clause-ok g c =
    let alone : is_changes c.args.form ≡ false = sym c.is_changes.ensures ∙ c.if-is_changes.false in
    let text = texts_alone g.U.Updater.answer c.args.form (shown_graph c.args.ran.graph.now c.args.ran.matrix.now) c.args.ran.run.now c.args.ran.collection.now.name c.args.views.now alone in
    subst (λ (bytes : List ℕ). OnOk c.write_texts.result (g.O.Sink.written c.write_texts.new.out ≡ appended (g.O.Sink.written c.args.out.now) bytes)) text c.write_texts.ensures.ok

pub returns-clause-err : goal.returns-clause-err
returns-clause-err g c =
    let alone : is_changes c.args.form ≡ false = sym c.is_changes.ensures ∙ c.if-is_changes.false in
    let text = texts_alone g.U.Updater.answer c.args.form (shown_graph c.args.ran.graph.now c.args.ran.matrix.now) c.args.ran.run.now c.args.ran.collection.now.name c.args.views.now alone in
    subst (λ (bytes : List ℕ). OnErr c.write_texts.result (GrewByFront (g.O.Sink.written c.args.out.now) (g.O.Sink.written c.write_texts.new.out) bytes)) text c.write_texts.ensures.err
