-- What is held is the function of what was fed.
use Rattle.weighted.specs.Alike.{Alike-trans}
use Rattle.aggregate_views.proofs.Stepped.{held_is}
use Rattle.aggregate_views.proofs.kept.Kept.held.Goals as goal

pub returns-clause-alike : goal.returns-clause-alike
returns-clause-alike g c = λ fed f. Alike-trans c.in_ok-sum.ensures.alike (held_is g.O.Operator.stands g.O.Operator.due g.O.Operator.seal g.O.Operator.spent _ (g.O.Operator.apply c.args.self.now.operator) c.lawful.ensures.respects c.args.self.now.operator c.args.self.now.at c.args.self.now.held fed c.lawful.ensures.answers f)
