-- The block is that of the answer's table.
use Rattle.std.proofs.Common.{◌≡◌, ◌∙◌, ℕ, List, Option, option_copied, refl, sym, ap, subst}
use Rattle.surge_outside.specs.Written.{GrewByFront, appended}
use Rattle.gvdl_printer.specs.Canonical.{canonical_call}
use Rattle.result_tables.specs.declared.table.Table.{Table}
use Rattle.result_tables.specs.TableText.{IsTable, head_text}
use Rattle.change_text.specs.Spelling.{block_text}
use Rattle.change_text.specs.Writing.{IsTableHead, block_of}
use Rattle.surge_session.specs.Output.{block_behind, view_shown}
use Rattle.surge_session.specs.State.{shown_graph}
use Rattle.surge_session.proofs.Telling.{is_table}
use Rattle.surge_session.proofs.view.write_block.Goals as goal

pub write_change-requires-clause-head : goal.write_change-requires-clause-head
write_change-requires-clause-head g c =
    let begins : IsTableHead (head_text c.args.ran.collection.now.name c.args.view.now.name (canonical_call c.args.ran.run.now.call)) = refl in
    subst IsTableHead (sym (c.as_slice.ensures.value ∙ c.in-Ok.ensures.head)) begins

pub write_change-requires-clause-table : goal.write_change-requires-clause-table
write_change-requires-clause-table g c =
    let w = shown_graph c.args.ran.graph.now c.args.ran.matrix.now in
    subst (λ (t : Table). IsTable c.args.ran.graph.now t) (sym c.in-Ok.ensures.table) (is_table g.U.Updater.answer w c.args.ran.run.now c.args.view.now.rule)

pub returns-in-Ok-write_change-clause-ok : goal.returns-in-Ok-write_change-clause-ok
returns-in-Ok-write_change-clause-ok g c =
    let graph = c.args.ran.graph.now in
    let before = option_copied c.args.before in
    let a = c.in-Ok.answered in
    let text : block_text (block_of c.as_slice.result.now graph before a.table) ≡ block_text (block_behind graph before (view_shown g.U.Updater.answer (shown_graph graph c.args.ran.matrix.now) c.args.ran.run.now c.args.ran.collection.now.name c.args.view.now)) =
    ap (λ (h : List ℕ). block_text (block_of h graph before a.table)) (c.as_slice.ensures.value ∙ c.in-Ok.ensures.head)
    ∙ ap (λ (t : Table). block_text (block_of (head_text c.args.ran.collection.now.name c.args.view.now.name (canonical_call c.args.ran.run.now.call)) graph before t)) c.in-Ok.ensures.table in
    c.in-Ok-write_change.ensures.ok ∙ ap (λ (bytes : List ℕ). appended (g.O.Sink.written c.args.out.now) bytes) text

pub returns-clause-err : goal.returns-clause-err
returns-clause-err g c =
    let graph = c.args.ran.graph.now in
    let before = option_copied c.args.before in
    let a = c.in-Ok.answered in
    let text : block_text (block_of c.as_slice.result.now graph before a.table) ≡ block_text (block_behind graph before (view_shown g.U.Updater.answer (shown_graph graph c.args.ran.matrix.now) c.args.ran.run.now c.args.ran.collection.now.name c.args.view.now)) =
    ap (λ (h : List ℕ). block_text (block_of h graph before a.table)) (c.as_slice.ensures.value ∙ c.in-Ok.ensures.head)
    ∙ ap (λ (t : Table). block_text (block_of (head_text c.args.ran.collection.now.name c.args.view.now.name (canonical_call c.args.ran.run.now.call)) graph before t)) c.in-Ok.ensures.table in
    subst (λ (bytes : List ℕ). GrewByFront (g.O.Sink.written c.args.out.now) (g.O.Sink.written c.write_change.new.out) bytes) text c.in-Err-write_change.ensures.err
