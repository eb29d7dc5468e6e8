use Rattle.std.proofs.Common.{◌≡◌, map, take, rc_value}
use Rattle.change_lists.proofs.chained.share_all.Given as goal

abbrev pub invariant-loop-list : goal.invariant-loop-list
invariant-loop-list g l = map rc_value l.all.items ≡ map rc_value (take l.list-index l.long)
