use Rattle.gvdl_check.proofs.SingleFacts.{height, IsWalked}
use Rattle.gvdl_check.proofs.singles.Singles.rules.Given as goal

abbrev pub invariant-loop-next : goal.invariant-loop-next
invariant-loop-next l = IsWalked l.self l.fn.place l.next l.rules.items

abbrev pub decreases-loop-next : goal.decreases-loop-next
decreases-loop-next l = height l.next
