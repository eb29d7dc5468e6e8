use Rattle.std.proofs.Common.{◌≡◌, ◌<◌, ℕ, take, length, get_or}
use Rattle.vertex_lang.specs.Arcs.{outdeg}
use Rattle.arc_rows.specs.Views.{arcs_in}
use Rattle.arc_rows.proofs.degrees.count_degrees.Given as goal

abbrev pub invariant-loop-arc : goal.invariant-loop-arc
invariant-loop-arc l = record {
  size : length l.degrees.items ≡ l.count;
  degrees : (u : ℕ) → u < l.count → get_or l.degrees.items u 0 ≡ outdeg (arcs_in (take l.arc-index l.arcs) l.edges) u;
}
