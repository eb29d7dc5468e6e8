-- The first pair has the least first part.
use Rattle.std.proofs.Common.{◌≡◌, false, subst}
use Rattle.std.specs.Ordering.{is_gt}
use Rattle.flow_core.specs.Runs.{Every, Member}
use Rattle.diff_reduce.specs.Stands.{due_times}
use Rattle.diff_reduce.proofs.PairLaws.{least_first}
use Rattle.diff_reduce.proofs.pairs.Pairs.least.Goals as goal

pub returns-in-Some : goal.returns-in-Some
returns-in-Some g c = subst (λ ps. Member c.in-Some.pair.now.0 (due_times ps) × Every (λ s. is_gt (g.A.Ord.cmp c.in-Some.pair.now.0 s) ≡ false) (due_times ps)) c.self.view_is (least_first g.A.Ord.cmp g.B.Ord.cmp g.met.A.Ord.total c.self.inside.pairs.keys c.in-Some.pair.now c.in-Some.ensures.first c.self.invariant.0)
