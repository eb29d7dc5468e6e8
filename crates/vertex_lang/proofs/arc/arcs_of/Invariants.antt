use Rattle.std.proofs.Common.{◌≡◌, ◌≤◌, ◌*◌, take, length, All}
use Rattle.vertex_lang.specs.Arcs.{arcs_between, IsArc}
use Rattle.vertex_lang.proofs.arc.arcs_of.Given as goal

abbrev pub invariant-loop-edge : goal.invariant-loop-edge
invariant-loop-edge l = record {
  arcs : l.arcs ≡ arcs_between l.along l.graph (take l.edge-index l.edges);
  within : All (IsArc l.graph) l.arcs;
  count : length l.arcs ≤ 2 * l.edge-index;
}
