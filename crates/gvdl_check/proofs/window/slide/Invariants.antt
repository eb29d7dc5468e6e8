use Rattle.std.proofs.Common.{◌≡◌, ◌-◌}
use Rattle.std.specs.List.{range_with_len}
use Rattle.gvdl_programs.specs.Judging.{in_turn}
use Rattle.gvdl_check.specs.Views.{window_added, window_count}
use Rattle.gvdl_check.proofs.window.slide.Given as goal

abbrev pub invariant-loop-place : goal.invariant-loop-place
invariant-loop-place l =
    let count = window_count l.window.first l.window.last l.window.step in
    let add = window_added l.base l.name l.column l.window.first l.window.width l.window.step in
    in_turn add l.fn.views (range_with_len 0 count) ≡ in_turn add l.views (range_with_len l.place (count - l.place))
