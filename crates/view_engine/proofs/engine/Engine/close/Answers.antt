-- A closed engine stands.
use Rattle.view_engine.proofs.Beginning.{closed_stands}
use Rattle.view_engine.proofs.engine.Engine.close.Goals as goal

pub returns-clause-stands : goal.returns-clause-stands
returns-clause-stands c = λ answer m stands. closed_stands answer m c.args.self.now stands
