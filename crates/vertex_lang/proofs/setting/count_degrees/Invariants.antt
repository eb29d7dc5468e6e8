use Rattle.std.proofs.Common.{◌≡◌, take, length}
use Rattle.vertex_lang.specs.Mail.{HasDegrees}
use Rattle.vertex_lang.proofs.setting.count_degrees.Given as goal

abbrev pub invariant-loop-arc : goal.invariant-loop-arc
invariant-loop-arc l = record {
  size : length l.degrees.items ≡ length l.graph.ids;
  degrees : HasDegrees (take l.arc-index l.arcs) l.degrees.items;
}
