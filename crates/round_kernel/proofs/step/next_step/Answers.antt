use Rattle.std.proofs.Common.{◌≡◌, ◌∙◌, ℕ, Bool, Some, List, length, get_or, false, sym, ap, subst, refl, arith}
use Rattle.std.specs.Prelude.{All}
use Rattle.graph_model.specs.declared.value.Val.{Val}
use Rattle.vertex_lang.specs.declared.arc.Arc.{Arc}
use Rattle.vertex_lang.specs.Arcs.{IsArc}
use Rattle.vertex_lang.specs.RoundLaws.{length-lone}
use Rattle.vertex_lang.specs.Rounds.{lone, value_at}
use Rattle.lone_work.specs.Work.{work}
use Rattle.change_lists.specs.ChangeLists.{changes_from}
use Rattle.round_kernel.specs.Histories.{IsHistory}
use Rattle.arc_rows.specs.declared.degrees.Degrees.{Degrees}
use Rattle.arc_rows.specs.Counts.{ArePlain}
use Rattle.arc_rows.specs.Views.{arcs_in}
use Rattle.round_kernel.proofs.Beginning.{turned-told}
use Rattle.round_kernel.proofs.Ending.{outcome-is}
use Rattle.round_kernel.proofs.step.next_step.Goals as goal

pub turned-requires-clause-views : goal.turned-requires-clause-views
turned-requires-clause-views g c =
    let b = c.args.behind in
    let graph = c.args.plan.graph.now in
    let is = c.requires.behind in
    record {
      rows = c.requires.plan.kernel.rows;
      old = is.old;
      new = is.new;
      arcs = subst (λ (xs : List Arc). All (IsArc graph) xs) (sym c.as_slice.ensures) c.in_ok-arcs.ensures.within;
      all_arcs = turned-told c.args.plan.program.now.along graph c.args.kernel.now.rows b.old.now b.new.now b.turned.now c.as_slice.result.now c.requires.plan.kernel.rows.arcs is.old c.requires.along is.all_turned (c.as_slice.ensures ∙ c.in_ok-arcs.ensures.arcs);
      edges = is.turned;
      all_edges = is.all_turned;
    }

pub turned-requires-2-clause-views : goal.turned-requires-2-clause-views
turned-requires-2-clause-views g c =
    let b = c.args.behind in
    let graph = c.args.plan.graph.now in
    let is = c.requires.behind in
    record {
      rows = c.requires.plan.kernel.rows;
      old = is.old;
      new = is.new;
      arcs = subst (λ (xs : List Arc). All (IsArc graph) xs) (sym c.as_slice.ensures) c.in_ok-arcs.ensures.within;
      all_arcs = turned-told c.args.plan.program.now.along graph c.args.kernel.now.rows b.old.now b.new.now b.turned.now c.as_slice.result.now c.requires.plan.kernel.rows.arcs is.old c.requires.along is.all_turned (c.as_slice.ensures ∙ c.in_ok-arcs.ensures.arcs);
      edges = is.turned;
      all_edges = is.all_turned;
    }

pub run_rounds-requires-clause-frame : goal.run_rounds-requires-clause-frame
run_rounds-requires-clause-frame g c =
    let graph = c.args.plan.graph.now in
    let old = c.args.behind.old.now in
    record {
      checked = c.requires.plan.checked;
      rows = c.requires.plan.kernel.rows;
      few = c.nodes_are_few.ensures;
      old_size = c.requires.behind.old;
      new_size = c.requires.behind.new;
      degree = λ e. c.names_outdeg-by_degree.ensures.ignores e;
      history = subst (λ (n : ℕ). IsHistory g.U.Updater.answer c.args.plan.program.now graph (Some (arcs_in c.args.kernel.now.rows.by_head old)) n c.args.behind.history.now) (sym c.limit_of.ensures) c.requires.behind.history;
      arcs = subst (λ (xs : List Arc). All (IsArc graph) xs) (sym c.as_slice-2.ensures) c.in_ok-arcs.ensures.within;
      turned = λ one. turned-told c.args.plan.program.now.along graph c.args.kernel.now.rows old c.args.behind.new.now c.args.behind.turned.now c.as_slice-2.result.now c.requires.plan.kernel.rows.arcs c.requires.behind.old c.requires.along c.requires.behind.all_turned (c.as_slice-2.ensures ∙ c.in_ok-arcs.ensures.arcs);
    }

pub changes_between-requires-clause-touched : goal.changes_between-requires-clause-touched
changes_between-requires-clause-touched g c =
    let all = c.args.kernel.now.rows.by_head in
    ap (λ (bs : List Bool). length bs) c.deref.ensures.value ∙ c.in_ok-run.ensures.run.touched_size
    ∙ sym (ap (λ (vs : List Val). length vs) (c.deref-3.ensures.value ∙ c.in_ok-run.ensures.run.new_values) ∙ length-lone g.U.Updater.answer c.args.plan.program.now c.args.plan.graph.now (arcs_in all c.args.behind.new.now) c.limit_of.result)

pub changes_between-requires-clause-size : goal.changes_between-requires-clause-size
changes_between-requires-clause-size g c =
    let all = c.args.kernel.now.rows.by_head in
    ap (λ (vs : List Val). length vs) (c.deref-2.ensures.value ∙ c.in_ok-run.ensures.run.old_values refl)
    ∙ length-lone g.U.Updater.answer c.args.plan.program.now c.args.plan.graph.now (arcs_in all c.args.behind.old.now) c.limit_of.result
    ∙ sym (ap (λ (vs : List Val). length vs) (c.deref-3.ensures.value ∙ c.in_ok-run.ensures.run.new_values) ∙ length-lone g.U.Updater.answer c.args.plan.program.now c.args.plan.graph.now (arcs_in all c.args.behind.new.now) c.limit_of.result)

pub changes_between-requires-clause-others : goal.changes_between-requires-clause-others
changes_between-requires-clause-others g c = λ v low off.
    let count : length c.deref-3.result.now ≡ length c.args.plan.graph.now.ids =
    ap (λ (vs : List Val). length vs) (c.deref-3.ensures.value ∙ c.in_ok-run.ensures.run.new_values) ∙ length-lone g.U.Updater.answer c.args.plan.program.now c.args.plan.graph.now (arcs_in c.args.kernel.now.rows.by_head c.args.behind.new.now) c.limit_of.result in
    ap (λ (vs : List Val). value_at vs v) c.deref-2.ensures.value
    ∙ c.in_ok-run.ensures.run.untouched refl v (omega (arith, low, count)) (ap (λ (bs : List Bool). get_or bs v false) (sym c.deref.ensures.value) ∙ off)
    ∙ ap (λ (vs : List Val). value_at vs v) (sym c.deref-3.ensures.value)

pub changes_between-requires-clause-few : goal.changes_between-requires-clause-few
changes_between-requires-clause-few g c =
    omega (
      arith,
      ap (λ (vs : List Val). length vs) (c.deref-3.ensures.value ∙ c.in_ok-run.ensures.run.new_values),
      length-lone g.U.Updater.answer c.args.plan.program.now c.args.plan.graph.now (arcs_in c.args.kernel.now.rows.by_head c.args.behind.new.now) c.limit_of.result,
      c.nodes_are_few.ensures,
    )

pub returns-clause-step : goal.returns-clause-step
returns-clause-step g c =
    let answer = g.U.Updater.answer in
    let p = c.args.plan.program.now in
    let graph = c.args.plan.graph.now in
    let all = c.args.kernel.now.rows.by_head in
    let old = arcs_in all c.args.behind.old.now in
    let new = arcs_in all c.args.behind.new.now in
    let run = c.in_ok-run.ensures.run in
    let last = c.in_ok-run.run'.last in
    record {
      history = λ yes. subst (λ (n : ℕ). IsHistory answer p graph (Some new) n c.in_ok-run.run'.history) c.limit_of.ensures (run.history yes);
      step = record {
        outcome = c.outcome.ensures
            ∙ outcome-is answer p graph new last c.limit_of.result run.last.within run.last.moved (λ less. run.last.still last (omega arith) less) c.args.plan.rounds (sym c.limit_of.ensures) (omega (arith, c.requires.plan.some, c.limit_of.ensures));
        change = c.in_ok-change.ensures
            ∙ ap (λ (vs : List Val). changes_from 0 vs c.deref-3.result.now) (c.deref-2.ensures.value ∙ run.old_values refl)
            ∙ ap (λ (vs : List Val). changes_from 0 (lone answer p graph old c.limit_of.result) vs) (c.deref-3.ensures.value ∙ run.new_values)
            ∙ ap (λ (n : ℕ). changes_from 0 (lone answer p graph old n) (lone answer p graph new n)) c.limit_of.ensures;
        work_is = run.work_is ∙ ap (λ (n : ℕ). work answer p graph new (Some old) n) c.limit_of.ensures;
      };
    }

pub returns-clause-kernel : goal.returns-clause-kernel
returns-clause-kernel g c =
    let graph = c.args.plan.graph.now in
    let all = c.args.kernel.now.rows.by_head in
    record {
      rows = c.requires.plan.kernel.rows;
      cached = c.of-2.ensures graph all c.in_ok-run.ensures.listed (c.in_ok-counted.ensures graph all c.args.behind.old.now c.args.behind.new.now c.in_ok-degrees.ensures);
      spare = c.of.ensures graph (subst (λ (d : Degrees). ArePlain graph d) (sym c.degrees.ensures) c.in_ok-run.ensures.run.plain);
    }
