use Rattle.std.proofs.Common.{length}
use Rattle.arc_rows.specs.Lives.{AreRenewed}
use Rattle.arc_rows.specs.Links.{link_of}
use Rattle.arc_rows.proofs.live.renew_links.Given as goal

abbrev pub invariant-loop-node : goal.invariant-loop-node
invariant-loop-node l = AreRenewed (link_of l.graph l.column) l.rows.by_head l.edges (length l.graph.ids) l.nodes l.node l.initial.live l.live
