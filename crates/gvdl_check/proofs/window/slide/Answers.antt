-- One window more.
use Rattle.std.proofs.Common.{◌∙◌, ◌-◌, ◌<◌, ◌≤◌, arith}
use Rattle.std.specs.List.{range_with_len}
use Rattle.std.proofs.lemmas.Result.{err_from_is_err_and}
use Rattle.gvdl_programs.specs.Judging.{in_turn}
use Rattle.gvdl_check.specs.Views.{window_added, window_count}
use Rattle.gvdl_programs.specs.JudgingLaws.{refused_as}
use Rattle.gvdl_programs.specs.Turns.{range_on, range_stops, range_done}
use Rattle.gvdl_check.proofs.window.slide.Goals as goal

pub returns-in_err-add_window : goal.returns-in_err-add_window
returns-in_err-add_window c =
    let w = c.args.window in
    let n = window_count w.first w.last w.step in
    let lt : c.loop-place.place < n = omega arith in
    let add = window_added c.args.base.now c.args.name.now c.args.column w.first w.width w.step in
    let e = c.in_err-add_window.field-0.0 in
    let p = err_from_is_err_and c.from_residual.result c.from_residual.ensures.1 in
    rw (p.1, p.2) (record {
      told = refused_as (in_turn add c.args.views.now (range_with_len 0 n)) (in_turn add c.loop-place.views (range_with_len c.loop-place.place (n - c.loop-place.place))) e c.loop-place.invariant
          (range_stops add c.loop-place.views c.loop-place.place n e lt c.in_err-add_window.ensures.told);
    })

pub loop-place-preserved : goal.loop-place-preserved
loop-place-preserved c =
    let w = c.args.window in
    let n = window_count w.first w.last w.step in
    let lt : c.loop-place.place < n = omega arith in
    c.loop-place.invariant ∙ range_on (window_added c.args.base.now c.args.name.now c.args.column w.first w.width w.step) c.loop-place.views c.add_window.new.views c.loop-place.place n lt c.in_ok-add_window.ensures.told

pub returns : goal.returns
returns c =
    let w = c.args.window in
    let n = window_count w.first w.last w.step in
    let le : n ≤ c.loop-place.place = omega arith in
    record { told = c.loop-place.invariant ∙ range_done (window_added c.args.base.now c.args.name.now c.args.column w.first w.width w.step) c.loop-place.views c.loop-place.place n le }
