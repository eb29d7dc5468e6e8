use Rattle.aggregate_views.proofs.laws.order_is_total.Goals as goal

pub returns : goal.returns
returns g c = g.met.K.Ord.total
