-- All that is told of a spent engine is as it was.
use Rattle.view_engine.proofs.Refusing.{spent_engine, spent_tells}
use Rattle.view_engine.proofs.engine.Engine.turn.Goals as goal

pub returns-in-Err-clause-engine : goal.returns-in-Err-clause-engine
returns-in-Err-clause-engine g c = spent_engine c.args.self.now c.move_on.new.self c.requires.engine c.in-Err.ensures.err

pub returns-in-Err-clause-kept : goal.returns-in-Err-clause-kept
returns-in-Err-clause-kept g c = spent_tells c.args.self.now c.move_on.new.self c.in-Err.ensures.err
