-- Two batches are the sides of one.
use Rattle.std.proofs.Common.{refl}
use Rattle.flow_core.proofs.Rises.{IsBatch-both_sides}
use Rattle.flow_core.proofs.fork.join_sides.Goals as goal

pub from_rising-requires : goal.from_rising-requires
from_rising-requires g c = rw (c.from_vec.ensures, c.in_ok-push_each-2.ensures.entries, c.in_ok-push_each.ensures.entries, c.new-entries.ensures.items)
    (IsBatch-both_sides _ g.A.Ord.cmp g.B.Ord.cmp (λ _ _. refl) (λ _ _. refl) (λ _ _. refl) c.args.left.now c.args.right.now c.in_ok-push_each.ensures.batch c.in_ok-push_each-2.ensures.batch)
