use Rattle.std.proofs.Common.{◌≡◌, take, get_or, true, false, length}
use Rattle.std.specs.Prelude.{All}
use Rattle.arc_rows.proofs.cached.heads_of.Given as goal

abbrev pub invariant-loop-arc : goal.invariant-loop-arc
invariant-loop-arc l = record {
  size : length l.nodes.items ≡ l.count;
  heads : All (λ a. get_or l.nodes.items a.head.0 false ≡ true) (take l.arc-index l.arcs);
}
