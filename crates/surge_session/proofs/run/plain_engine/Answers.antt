-- A closed engine is the same in all but that.
use Rattle.std.proofs.Common.{◌∙◌, ap}
use Rattle.view_engine.specs.declared.engine.Engine.{Engine}
use Rattle.view_engine.specs.Engines.{works_in}
use Rattle.surge_session.proofs.run.plain_engine.Goals as goal

pub returns-clause-graph : goal.returns-clause-graph
returns-clause-graph c = ap (λ (x : Engine). x.graph.now) c.close.ensures.closed ∙ c.in_ok-engine.ensures.graph

pub returns-clause-program : goal.returns-clause-program
returns-clause-program c = ap (λ (x : Engine). x.program.now) c.close.ensures.closed ∙ c.in_ok-engine.ensures.program

pub returns-clause-rounds : goal.returns-clause-rounds
returns-clause-rounds c = ap (λ (x : Engine). x.rounds) c.close.ensures.closed ∙ c.in_ok-engine.ensures.rounds

pub returns-clause-split : goal.returns-clause-split
returns-clause-split c = ap (λ (x : Engine). x.split) c.close.ensures.closed ∙ c.in_ok-engine.ensures.split

pub returns-clause-order : goal.returns-clause-order
returns-clause-order c = ap (λ (x : Engine). x.order) c.close.ensures.closed ∙ c.in_ok-engine.ensures.order

pub returns-clause-fresh : goal.returns-clause-fresh
returns-clause-fresh c = ap (λ (x : Engine). x.spent) c.close.ensures.closed ∙ c.in_ok-engine.ensures.fresh

pub returns-clause-works : goal.returns-clause-works
returns-clause-works c = λ k. ap (λ (x : Engine). works_in x k) c.close.ensures.closed ∙ c.in_ok-engine.ensures.works k

pub returns-clause-stands : goal.returns-clause-stands
returns-clause-stands c = λ answer. c.close.ensures.stands answer c.args.matrix.now (c.in_ok-engine.ensures.stands answer)
