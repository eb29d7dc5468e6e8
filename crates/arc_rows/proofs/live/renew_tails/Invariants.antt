use Rattle.std.proofs.Common.{length}
use Rattle.arc_rows.specs.Lives.{AreRenewed}
use Rattle.arc_rows.specs.Links.{tail_of}
use Rattle.arc_rows.proofs.live.renew_tails.Given as goal

abbrev pub invariant-loop-node : goal.invariant-loop-node
invariant-loop-node l = AreRenewed tail_of l.rows.by_head l.edges (length l.graph.ids) l.nodes l.node l.initial.live l.live
