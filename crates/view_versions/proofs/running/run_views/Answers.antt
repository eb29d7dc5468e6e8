use Rattle.std.proofs.Common.{◌≡◌, ◌∙◌, ◌+◌, ◌++◌, ◌∷◌, [], List, get_or, map, sum, take, append_assoc, ap, sym, arith}
use Rattle.std.proofs.lemmas.List.{take_more}
use Rattle.graph_model.specs.declared.number.ViewNo.{ViewNo}
use Rattle.view_order.specs.Greedy.{numbers}
use Rattle.view_segment.specs.Segments.{last_of}
use Rattle.view_segment.specs.Tasks.{work_of, works_from}
use Rattle.view_versions.specs.declared.run.ViewRun.{ViewRun}
use Rattle.view_versions.specs.Runs.{task_in}
use Rattle.view_versions.proofs.Behind.{works-more}
use Rattle.view_versions.proofs.running.run_views.Goals as goal

abbrev nothing : ViewNo
nothing = record { 0 = 0 }

pub loop-view-preserved : goal.loop-view-preserved
loop-view-preserved g c =
    let task = task_in g.U.Updater.answer c.args.setting in
    let views = c.args.views.now in
    let i = c.loop-view.view-index in
    let view = get_or views i nothing in
    let earlier = map (λ (run : ViewRun). run.view) c.args.runs.now.items in
    let inv = c.loop-view.invariant in
    let next = c.in_ok-run_next.ensures in
    let more : take (i + 1) views ≡ take i views ++ view ∷ [] = take_more views i nothing c.loop-view-test.true in
    record {
      views = next.views ∙ ap (λ (vs : List ViewNo). vs ++ view ∷ []) inv.views ∙ append_assoc earlier (take i views) (view ∷ []) ∙ ap (λ (vs : List ViewNo). earlier ++ vs) (sym more);
      within = next.within;
      holds = next.holds;
      kernel = next.kernel;
      rows = c.run_next.ensures.rows ∙ inv.rows;
      calls = omega (
        arith,
        next.calls,
        inv.calls,
        works-more task earlier (take i views) view,
        ap (λ (vs : List ViewNo). sum (works_from task (last_of (numbers earlier)) (numbers vs))) more,
        ap (λ (vs : List ViewNo). work_of task (last_of (numbers vs)) view.0) inv.views,
      );
    }
