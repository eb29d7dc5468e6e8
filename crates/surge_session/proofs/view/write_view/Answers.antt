-- The table is that of the answer.
use Rattle.std.proofs.Common.{◌≡◌, ◌∙◌, ℕ, List, length, sym, ap, subst}
use Rattle.std.specs.Prelude.{OnErr}
use Rattle.surge_outside.specs.Written.{GrewByFront}
use Rattle.gvdl_printer.specs.Canonical.{canonical_call}
use Rattle.result_tables.specs.declared.table.Table.{Table}
use Rattle.result_tables.specs.TableText.{IsTable, head_text, form_text}
use Rattle.surge_session.specs.Live.{LiveGraph, live_edges}
use Rattle.surge_session.specs.Output.{view_text}
use Rattle.surge_session.specs.State.{shown_graph}
use Rattle.surge_session.proofs.Telling.{is_table}
use Rattle.surge_session.proofs.view.write_view.Goals as goal

pub write_table-requires : goal.write_table-requires
write_table-requires g c =
    let w = shown_graph c.args.ran.graph.now c.args.ran.matrix.now in
    subst (λ (t : Table). IsTable c.args.ran.graph.now t) (sym c.in-Ok.ensures.table) (is_table g.U.Updater.answer w c.args.ran.run.now c.args.view.now.rule)

pub returns-clause-err : goal.returns-clause-err
returns-clause-err g c =
    let graph = c.args.ran.graph.now in
    let w = shown_graph graph c.args.ran.matrix.now in
    let run = c.args.ran.run.now in
    let view = c.args.view.now in
    let form = c.args.form in
    let a = c.in-Ok.answered in
    let head = head_text c.args.ran.collection.now.name view.name (canonical_call run.call) in
    let text : form_text form c.as_slice.result.now a.edges graph a.table ≡ view_text g.U.Updater.answer form w run c.args.ran.collection.now.name view =
    ap (λ (h : List ℕ). form_text form h a.edges graph a.table) (c.as_slice.ensures.value ∙ c.in-Ok.ensures.head)
    ∙ ap (λ (k : ℕ). form_text form head k graph a.table) c.in-Ok.ensures.edges
    ∙ ap (λ (t : Table). form_text form head (length (live_edges w view.rule)) graph t) c.in-Ok.ensures.table in
    subst (λ (t : List ℕ). OnErr c.write_table.result (GrewByFront (g.O.Sink.written c.args.out.now) (g.O.Sink.written c.write_table.new.out) t)) text c.write_table.ensures.err
