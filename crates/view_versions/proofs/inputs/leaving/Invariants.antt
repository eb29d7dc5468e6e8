use Rattle.std.proofs.Common.{◌≡◌, ◌≤◌, take}
use Rattle.vertex_lang.specs.Arcs.{outdeg}
use Rattle.view_versions.proofs.inputs.leaving.Given as goal

abbrev pub invariant-loop-arc : goal.invariant-loop-arc
invariant-loop-arc l = record {
  counted : l.count ≡ outdeg (take l.arc-index l.arcs) l.node.0;
  few : l.count ≤ l.arc-index;
}
