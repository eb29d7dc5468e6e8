-- Nothing was fed yet.
use Rattle.std.proofs.Common.{◌≤◌, [], arith, sym, subst}
use Rattle.flow_core.specs.Runs.{empty_run}
use Rattle.aggregate_views.specs.Keeping.{IsRunTo}
use Rattle.aggregate_views.proofs.Stepped.{not_stepped}
use Rattle.aggregate_views.proofs.kept.Kept.new.Goals as goal

pub returns-clause-fed : goal.returns-clause-fed
returns-clause-fed g c = record {
  run = empty_run;
  is_run = c.requires.is_new;
  to = subst (λ h. IsRunTo 0 [] h empty_run) (sym c.new.ensures) not_stepped;
  nothing_due = c.requires.nothing_due;
  low = subst (λ p. p.0 ≤ 0) (sym c.requires.at_least) (omega arith);
  live = c.requires.live;
}
