use Rattle.std.proofs.Common.{length, take}
use Rattle.arc_rows.specs.Lives.{ArePut}
use Rattle.arc_rows.specs.Links.{link_of}
use Rattle.arc_rows.proofs.live.put_links.Given as goal

abbrev pub invariant-loop-arc : goal.invariant-loop-arc
invariant-loop-arc l = ArePut (link_of l.graph l.column) l.edges l.from (length l.row) (take l.arc-index l.row) l.count l.initial.links.items l.links.items
