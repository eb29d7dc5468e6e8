-- A new loop of a new body.
use Rattle.std.proofs.Common.{ap, refl}
use Rattle.loop_theory.specs.RunLaws.{laps_fresh}
use Rattle.diff_iterate.proofs.iterate.Iterate.new.Goals as goal

pub returns-clause-fresh : goal.returns-clause-fresh
returns-clause-fresh g c = record {
  is_new = (laps_fresh (g.B.Operator.stands c.args.body) c.args.rounds c.requires.body.is_new, ap (λ v. v.inner.0) c.requires.body.at_least);
  nothing_due = rw c.requires.body.nothing_due refl;
  at_least = ap (λ v. v.outer) c.requires.body.at_least;
  live = c.requires.body.live;
}
