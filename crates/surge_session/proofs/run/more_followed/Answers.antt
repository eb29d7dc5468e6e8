-- The views that are added cost no more than as many views alone.
use Rattle.std.proofs.Common.{arith}
use Rattle.surge_session.proofs.MoreViews.{has_more, same_most}
use Rattle.surge_session.proofs.run.more_followed.Goals as goal

pub returns-clause-has : goal.returns-clause-has
returns-clause-has g c =
    let more = c.in_ok-more.ensures in
    has_more c.args.engine.now c.more.new.self c.more.ensures.run g.U.Updater.answer c.args.run.now c.args.matrix.now c.requires.has more.engine more.fresh more.stands

pub returns-clause-calls : goal.returns-clause-calls
returns-clause-calls g c =
    let most = same_most c.args.engine.now c.more.new.self c.more.ensures.run c.as_slice.result.now c.in_ok-more.ensures.order in
    omega (arith, most, c.in_ok-more.ensures.most)
