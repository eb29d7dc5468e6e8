-- Nothing is done before the first turn.
use Rattle.std.proofs.Common.{◌≡◌, ◌∙◌, ◌≤◌, List, ap, arith}
use Rattle.graph_model.specs.declared.number.ViewNo.{ViewNo}
use Rattle.view_order.specs.Greedy.{numbers}
use Rattle.view_engine.specs.Engines.{segments_in}
use Rattle.surge_session.proofs.Running.{nothing_done}
use Rattle.surge_session.proofs.RunOrders.{first_calls}
use Rattle.surge_session.proofs.run.run_plain.Goals as goal

pub finish-requires-clause-stands : goal.finish-requires-clause-stands
finish-requires-clause-stands g c = c.in_ok-engine.ensures.stands g.U.Updater.answer

pub returns-clause-calls : goal.returns-clause-calls
returns-clause-calls g c =
    let same : segments_in c.rest.new.self ≡ segments_in c.finish.new.engine = ap (λ ss. ss.items) c.rest.ensures.segments in
    omega (
      arith,
      first_calls c.in_ok-engine.engine c.finish.new.engine c.rest.new.self (g.U.Counted.calls c.args.updater.now) (g.U.Counted.calls c.finish.new.updater) c.in_ok-finish.ensures.calls
          (nothing_done c.in_ok-engine.engine c.in_ok-engine.ensures.works) same,
    )
