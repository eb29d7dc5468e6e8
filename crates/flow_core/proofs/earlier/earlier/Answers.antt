-- Where both have a due time.
use Rattle.flow_core.proofs.Least.{least_both}
use Rattle.flow_core.proofs.earlier.earlier.Goals as goal

pub returns-in-Some-Some : goal.returns-in-Some-Some
returns-in-Some-Some g c = λ xs ys h k. rw c.min.ensures (least_both g.T.Ord.cmp g.met.T.Ord.total xs ys c.in-Some-Some.a c.in-Some-Some.b (rw c.in-Some-Some.is-0 at h) (rw c.in-Some-Some.is-1 at k))
