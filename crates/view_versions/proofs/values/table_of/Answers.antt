use Rattle.std.proofs.Common.{◌∙◌, ℕ, List, Some, ap, ap₂, sym, subst}
use Rattle.graph_model.specs.declared.value.Val.{Val}
use Rattle.vertex_lang.specs.declared.lone.Outcome.{Outcome}
use Rattle.vertex_lang.specs.Rounds.{lone}
use Rattle.result_tables.specs.declared.table.Table.{Table}
use Rattle.result_tables.specs.Results.{shown}
use Rattle.round_kernel.specs.Histories.{IsHistory}
use Rattle.view_segment.specs.Tasks.{task_over, view_arcs}
use Rattle.view_versions.proofs.Showing.{its_table}
use Rattle.view_versions.proofs.values.table_of.Goals as goal

pub returns : goal.returns
returns c = λ answer m holds.
    let p = c.args.program.now in
    let graph = c.args.graph.now in
    let task = task_over answer p graph c.args.rounds m in
    let run = c.args.run.now in
    let v = run.view.0 in
    let limit = c.limit_of.result in
    let history : IsHistory answer p graph (Some (view_arcs task v)) limit run.history = subst (λ (n : ℕ). IsHistory answer p graph (Some (view_arcs task v)) n run.history) (sym c.limit_of.ensures) holds.history in
    let values = c.in_ok-values.ensures answer (view_arcs task v) history ∙ ap (λ (n : ℕ). lone answer p graph (view_arcs task v) n) c.limit_of.ensures in
    its_table task v (record { outcome = run.outcome; values = c.shown.result })
    (ap₂ (λ (o : Outcome) (vs : List Val). let t : Table = record { outcome = o; values = vs } in t) holds.outcome (c.shown.ensures ∙ ap₂ (λ (o : Outcome) (vs : List Val). shown o vs) holds.outcome values))
