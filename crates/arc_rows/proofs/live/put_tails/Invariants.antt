use Rattle.std.proofs.Common.{length, take}
use Rattle.arc_rows.specs.Lives.{ArePut}
use Rattle.arc_rows.specs.Links.{tail_of}
use Rattle.arc_rows.proofs.live.put_tails.Given as goal

abbrev pub invariant-loop-arc : goal.invariant-loop-arc
invariant-loop-arc l = ArePut tail_of l.edges l.from (length l.row) (take l.arc-index l.row) l.count l.initial.tails.items l.tails.items
