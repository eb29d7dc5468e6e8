use Rattle.aggregate_views.proofs.laws.records_are_apart.Goals as goal

pub returns : goal.returns
returns g c = g.met.R.Record.same
