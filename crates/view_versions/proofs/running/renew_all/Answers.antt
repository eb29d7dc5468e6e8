use Rattle.std.proofs.Common.{◌≡◌, ◌≢◌, ◌∙◌, ◌<◌, List, length, get_or, map, ap, sym, subst, arith}
use Rattle.std.proofs.Math.Seq.{map-set_same}
use Rattle.std.proofs.lemmas.List.{get_or-map, get_or-set_other, length-map, length-set}
use Rattle.std.proofs.lemmas.List.Elements.{AllWithin-more_set}
use Rattle.graph_model.specs.declared.number.ViewNo.{ViewNo}
use Rattle.view_matrix.specs.Matrices.{IsView}
use Rattle.view_versions.specs.declared.run.ViewRun.{ViewRun}
use Rattle.view_versions.specs.Runs.{HoldsRun, task_before, task_in}
use Rattle.view_versions.specs.Touched.{edit_work}
use Rattle.view_versions.proofs.Behind.{edits-more}
use Rattle.view_versions.proofs.Holding.{same-count, views-kept}
use Rattle.view_versions.proofs.running.renew_all.Goals as goal

pub renew-requires-clause-view : goal.renew-requires-clause-view
renew-requires-clause-view g c =
    let m = c.args.setting.matrix.now in
    let runs = c.loop-place.runs.items in
    let run = c.index_mut.result.now in
    let low : c.loop-place.place < length runs = omega (arith, same-count runs c.args.runs.now.items c.loop-place.invariant.views, c.loop-place-test.true, c.len-place-end.ensures) in
    subst (λ (r : ViewRun). IsView m r.view) (sym c.index_mut.ensures.value) (views-kept (IsView m) c.args.runs.now.items runs c.loop-place.invariant.views c.requires.views c.loop-place.place run low)

pub loop-place-preserved : goal.loop-place-preserved
loop-place-preserved g c =
    let s = c.args.setting in
    let new = task_in g.U.Updater.answer s in
    let old = task_before g.U.Updater.answer s c.args.changes.now in
    let before = c.args.runs.now.items in
    let runs = c.loop-place.runs.items in
    let place = c.loop-place.place in
    let run = c.index_mut.result.now in
    let made = c.renew.new.run in
    let inv = c.loop-place.invariant in
    let next = c.in_ok-renew.ensures in
    let count = same-count runs before inv.views in
    let low : place < length runs = omega (arith, count, c.loop-place-test.true, c.len-place-end.ensures) in
    let views = map (λ (r : ViewRun). r.view) before in
    let at : get_or views place run.view ≡ run.view = ap (λ (vs : List ViewNo). get_or vs place run.view) (sym inv.views) ∙ get_or-map (λ (r : ViewRun). r.view) runs place run run.view low ∙ ap (λ (r : ViewRun). r.view) (sym c.index_mut.ensures.value) in
    let more = edits-more old new views place run.view (omega (arith, low, ap (λ (vs : List ViewNo). length vs) inv.views, length-map runs (λ (r : ViewRun). r.view))) in
    record {
      views = map-set_same (λ (r : ViewRun). r.view) runs place made run (next.view ∙ ap (λ (r : ViewRun). r.view) c.index_mut.ensures.value) ∙ inv.views;
      renewed = AllWithin-more_set runs place made low (HoldsRun new) inv.renewed next.holds;
      rest = λ k d from to.
          let other : k ≢ place = λ same. omega (arith, same, from) in
          subst (HoldsRun old) (sym (get_or-set_other runs place k made d other)) (inv.rest k d (omega (arith, from)) (omega (arith, to, length-set runs place made)));
      kernel = next.kernel;
      rows = c.renew.ensures.rows ∙ inv.rows;
      kept = next.kept;
      calls = omega (arith, next.calls, inv.calls, more, ap (λ (v : ViewNo). edit_work old new v.0) at);
    }
