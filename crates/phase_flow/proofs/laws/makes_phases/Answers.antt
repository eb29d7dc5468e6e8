-- What is made is the function of what was fed, and that is the phases.
use Rattle.std.proofs.Common.{subst}
use Rattle.weighted.specs.Alike.{Alike, Alike-trans}
use Rattle.flow_core.specs.Runs.{fed_to, made_to}
use Rattle.view_items.specs.ThroughLaws.{Alike-through}
use Rattle.phase_flow.specs.PhaseLaws.{loop-is-phases}
use Rattle.phase_flow.proofs.laws.makes_phases.Goals as goal

pub returns : goal.returns
returns g c = λ p graph rounds phases some is run stands. record {
  items = λ t over below starts size arcs view fed k low.
      let closed : Alike (made_to g.T.Time.leq run.steps t) _ = subst (λ f. Alike (made_to g.T.Time.leq run.steps t) (f (fed_to g.T.Time.leq run.steps t))) is ((g.met.O.Operator.answers c.args.flow.now run stands).closed t over below) in
      Alike-trans (Alike-through k (made_to g.T.Time.leq run.steps t) _ closed)
      (loop-is-phases _ (record { total = c.records_are_ordered.ensures.total; same = c.records_are_ordered.ensures.same }) _ (record { total = c.records_are_ordered-2.ensures.total; same = c.records_are_ordered-2.ensures.same }) _ c.items_are_ordered.ensures g.U.Updater.answer p graph starts size arcs view rounds phases k some low (fed_to g.T.Time.leq run.steps t) fed);
}
