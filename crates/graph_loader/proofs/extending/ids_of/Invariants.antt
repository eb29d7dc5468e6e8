use Rattle.std.proofs.Common.{◌≡◌, take}
use Rattle.graph_loader.proofs.extending.ids_of.Given as goal

abbrev pub invariant-loop-n : goal.invariant-loop-n
invariant-loop-n l = l.ids.keys ≡ take l.n l.graph.ids
