-- The first entry is at the least time.
use Rattle.std.proofs.Common.{Some, subst}
use Rattle.flow_core.specs.Runs.{IsNextDue}
use Rattle.diff_join.specs.Joins.{due_times}
use Rattle.diff_join.proofs.Keeping.{first_time}
use Rattle.diff_join.proofs.kept.Kept.first.Goals as goal

pub returns-in-Some : goal.returns-in-Some
returns-in-Some g c = subst (λ es. IsNextDue g.T.Ord.cmp (Some c.in-Some.product.now.0) (due_times es)) c.self.view_is (first_time g.T.Ord.cmp g.O.Ord.cmp g.met.T.Ord.total c.self.inside.products.entries (c.in-Some.product.now, c.in-Some.field-0-1.now) c.in-Some.ensures.first c.self.invariant.0.rising)
