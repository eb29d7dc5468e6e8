-- All that is told of a spent engine is as it was.
use Rattle.view_engine.proofs.Refusing.{as_before, spent_engine, spent_tells}
use Rattle.view_engine.proofs.engine.Engine.more.Goals as goal

pub returns-in-Err-clause-engine : goal.returns-in-Err-clause-engine
returns-in-Err-clause-engine c = spent_engine c.args.self.now c.add.new.self c.requires.engine (as_before c.args.self.now c.add.new.self c.requires.engine c.in-Err.ensures.err)

pub returns-in-Err-clause-kept : goal.returns-in-Err-clause-kept
returns-in-Err-clause-kept c = spent_tells c.args.self.now c.add.new.self (as_before c.args.self.now c.add.new.self c.requires.engine c.in-Err.ensures.err)
