-- A run is planned over what is known, by a program that fits the graph, and then its name is asked about.
use Rattle.std.proofs.Common.{◌≡◌, ◌∙◌, List, ℕ, Option, sym, ap, subst}
use Rattle.gvdl_programs.specs.Judging.{Judged, Leaves}
use Rattle.gvdl_programs.specs.JudgingLaws.{goes_on}
use Rattle.gvdl_check.specs.declared.plan.RunPlan.{RunPlan}
use Rattle.gvdl_check.specs.declared.known.Known.{Known}
use Rattle.gvdl_check.specs.Plans.{run_planned, run_added, run, limits_of, keep_of, statement_added}
use Rattle.gvdl_check.specs.KnownLaws.{found_fits}
use Rattle.gvdl_check.proofs.statement.add_any.Goals as goal

pub run_planned-requires : goal.run_planned-requires
run_planned-requires c = found_fits c.args.graph.now c.args.known.now c.requires.fits _

pub returns-in_ok-plan-in-Run : goal.returns-in_ok-plan-in-Run
returns-in_ok-plan-in-Run c =
    let g = c.args.graph.now in
    let number = c.args.moment.number in
    let k = c.args.known.now in
    let it = c.in-Run in
    let limits = limits_of it.within it.number it.order it.split it.phases in
    let target = c.as_str-in-Run.result.now in
    let keep = c.keep_of-keep.result.now in
    let planned = c.in_ok-plan-in-Run.plan in
    let on : run g number k it.call target limits keep ≡ run_added number k planned keep =
    goes_on (run_planned g k.names it.call target limits keep) planned (λ (p : RunPlan). run_added number k p keep) c.in_ok-plan-in-Run.ensures in
    let same : statement_added g c.args.moment k c.args.statement.now ≡ run_added number k planned keep =
    ap (statement_added g c.args.moment k) it.is
    ∙ ap (λ (name : List ℕ). run g number k it.call name limits (keep_of it.phases it.keep)) (sym c.as_str-in-Run.ensures)
    ∙ ap (λ (kept : Option (List ℕ)). run g number k it.call target limits kept) (sym c.keep_of-keep.ensures)
    ∙ on in
    subst (λ (said : Judged Known). Leaves said c.add_run.result c.add_run.new.known) (sym same) c.add_run.ensures
