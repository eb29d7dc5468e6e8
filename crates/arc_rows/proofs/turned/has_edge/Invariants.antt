use Rattle.std.proofs.Common.{◌≡◌, take}
use Rattle.std.specs.Prelude.{All}
use Rattle.arc_rows.proofs.turned.has_edge.Given as goal

abbrev pub invariant-loop-arc : goal.invariant-loop-arc
invariant-loop-arc l = record {
  others : All (λ a. a.edge.0 ≡ l.edge.0 → ⊥) (take l.arc-index l.arcs);
}
