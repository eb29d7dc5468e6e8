-- The program fits every graph, and a new engine stands for each updater.
use Rattle.engine_rows.proofs.tests.views.played_on.Goals as goal

pub new-requires-clause-checked : goal.new-requires-clause-checked
new-requires-clause-checked g c = c.in_ok-program.ensures.checked _

pub closed-requires-clause-stands : goal.closed-requires-clause-stands
closed-requires-clause-stands g c = c.in_ok-engine.ensures.stands g.U.Updater.answer

pub whole-requires-clause-stands : goal.whole-requires-clause-stands
whole-requires-clause-stands g c = c.in_ok-engine.ensures.stands g.U.Updater.answer
