use Rattle.std.proofs.Common.{◌∙◌, ℕ, Bool, List, Some, None, length, sym, ap, subst, arith}
use Rattle.std.proofs.lemmas.Bool.{true≢false}
use Rattle.std.proofs.lemmas.List.{length-replicate}
use Rattle.std.proofs.lemmas.List.Elements.{All-nil}
use Rattle.graph_model.specs.declared.value.Val.{Val}
use Rattle.vertex_lang.specs.Arcs.{IsArc}
use Rattle.vertex_lang.specs.RoundLaws.{length-lone}
use Rattle.vertex_lang.specs.Rounds.{lone}
use Rattle.lone_work.specs.Work.{work}
use Rattle.change_lists.specs.ChangeLists.{all_from}
use Rattle.round_kernel.specs.Histories.{IsHistory}
use Rattle.arc_rows.specs.declared.degrees.Degrees.{Degrees}
use Rattle.arc_rows.specs.Counts.{ArePlain}
use Rattle.arc_rows.specs.Views.{arcs_in}
use Rattle.round_kernel.proofs.Beginning.{none-history}
use Rattle.round_kernel.proofs.Ending.{outcome-is}
use Rattle.round_kernel.proofs.step.first_step.Goals as goal

pub run_rounds-requires-clause-frame : goal.run_rounds-requires-clause-frame
run_rounds-requires-clause-frame g c = record {
  checked = c.requires.plan.checked;
  rows = c.requires.plan.kernel.rows;
  few = c.nodes_are_few.ensures;
  old_size = ap (λ (bs : List Bool). length bs) (c.deref-2.ensures.value ∙ c.in_ok-none.ensures.items_if_clones_equal (λ y h. h)) ∙ length-replicate _ _ ∙ c.requires.edges;
  new_size = c.requires.edges;
  degree = λ e. c.names_outdeg-by_degree.ensures.ignores e;
  history = none-history g.U.Updater.answer c.args.plan.program.now c.args.plan.graph.now _ c.new-nothing.result c.new-nothing.ensures.changes c.new-nothing.ensures.marks c.new-nothing.ensures.starts;
  arcs = All-nil (IsArc c.args.plan.graph.now);
  turned = λ e. absurd (true≢false e);
}

pub all_changes-requires : goal.all_changes-requires
all_changes-requires g c =
    let new = arcs_in c.args.kernel.now.rows.by_head c.args.edges.now in
    omega (
      arith,
      ap (λ (vs : List Val). length vs) (c.deref-3.ensures.value ∙ c.in_ok-run.ensures.run.new_values),
      length-lone g.U.Updater.answer c.args.plan.program.now c.args.plan.graph.now new c.limit_of.result,
      c.nodes_are_few.ensures,
    )

pub returns-clause-step : goal.returns-clause-step
returns-clause-step g c =
    let answer = g.U.Updater.answer in
    let p = c.args.plan.program.now in
    let graph = c.args.plan.graph.now in
    let new = arcs_in c.args.kernel.now.rows.by_head c.args.edges.now in
    let run = c.in_ok-run.ensures.run in
    let last = c.in_ok-run.run'.last in
    record {
      history = λ yes. subst (λ (n : ℕ). IsHistory answer p graph (Some new) n c.in_ok-run.run'.history) c.limit_of.ensures (run.history yes);
      step = record {
        outcome = c.outcome.ensures
            ∙ outcome-is answer p graph new last c.limit_of.result run.last.within run.last.moved (λ less. run.last.still last (omega arith) less) c.args.plan.rounds (sym c.limit_of.ensures) (omega (arith, c.requires.plan.some, c.limit_of.ensures));
        change = c.in_ok-change.ensures ∙ ap (λ (vs : List Val). all_from 0 vs) (c.deref-3.ensures.value ∙ run.new_values) ∙ ap (λ (n : ℕ). all_from 0 (lone answer p graph new n)) c.limit_of.ensures;
        work_is = run.work_is ∙ ap (λ (n : ℕ). work answer p graph new None n) c.limit_of.ensures;
      };
    }

pub returns-clause-kernel : goal.returns-clause-kernel
returns-clause-kernel g c =
    let graph = c.args.plan.graph.now in
    let all = c.args.kernel.now.rows.by_head in
    record {
      rows = c.requires.plan.kernel.rows;
      cached = c.of-2.ensures graph all c.in_ok-run.ensures.listed (c.in_ok-counted.ensures graph all _ c.args.edges.now c.in_ok-degrees.ensures);
      spare = c.of.ensures graph (subst (λ (d : Degrees). ArePlain graph d) (sym c.degrees.ensures) c.in_ok-run.ensures.run.plain);
    }
