use Rattle.std.proofs.Common.{◌≡◌, ◌++◌, length, map, take, drop}
use Rattle.graph_loader.specs.LoadSteps.{pair_ends, pairs_fault}
use Rattle.graph_loader.proofs.ends.link.Given as goal

abbrev pub invariant-loop-pair : goal.invariant-loop-pair
invariant-loop-pair l =
    (l.ends ≡ l.fn.ends ++ map (pair_ends l.nodes.ids.now.keys) (take l.pair-index l.fn.waiting))
    × (pairs_fault l.file l.nodes.ids.now.keys (length l.fn.ends) l.fn.waiting ≡ pairs_fault l.file l.nodes.ids.now.keys (length l.ends) (drop l.pair-index l.fn.waiting))
