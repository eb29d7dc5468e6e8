-- The views that are added come behind those that were run.
use Rattle.std.proofs.Common.{◌≡◌, ◌++◌, List, length, sym, ap, subst, arith}
use Rattle.graph_model.specs.declared.number.ViewNo.{ViewNo}
use Rattle.graph_model.specs.GraphData.{AreDistinct}
use Rattle.view_engine.specs.Engines.{segments_in}
use Rattle.surge_session.proofs.Distinct.{distinct_joined}
use Rattle.surge_session.proofs.Running.{same_done}
use Rattle.surge_session.proofs.RunOrders.{more_calls}
use Rattle.surge_session.proofs.run.more_shared.Goals as goal

pub more-requires-clause-distinct : goal.more-requires-clause-distinct
more-requires-clause-distinct g c =
    let order = c.args.engine.now.order in
    let added = c.in_ok-added.added in
    let apart : AreDistinct (order ++ added) = distinct_joined c.args.first order added c.requires.has.is.stands.distinct c.in_ok-added.ensures.distinct c.requires.below c.in_ok-added.ensures.behind in
    subst (λ (vs : List ViewNo). AreDistinct (order ++ vs)) (sym c.as_slice.ensures) apart

pub more-requires-clause-few : goal.more-requires-clause-few
more-requires-clause-few g c =
    omega (arith, c.requires.first, c.requires.count, ap (λ (vs : List ViewNo). length vs) c.as_slice.ensures, c.in_ok-added.ensures.count, c.views-all.ensures.count, c.views-all.ensures.limit)

pub returns-clause-calls : goal.returns-clause-calls
returns-clause-calls g c =
    let same : segments_in c.rest.new.self ≡ segments_in c.finish.new.engine = ap (λ ss. ss.items) c.rest.ensures.segments in
    more_calls c.args.engine.now c.more.new.self c.finish.new.engine c.rest.new.self (g.U.Counted.calls c.args.updater.now) (g.U.Counted.calls c.finish.new.updater) c.in_ok-finish.ensures.calls
    (same_done c.args.engine.now c.more.new.self c.in_ok-more.ensures.works) same
