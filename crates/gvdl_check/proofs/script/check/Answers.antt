-- The plan fits the graph, holds no number -(2^63), and has one step for each statement.
use Rattle.gvdl_check.proofs.PlanAnswers.{fitting, holding_none, counted}
use Rattle.gvdl_check.proofs.script.check.Goals as goal

pub returns-clause-fits : goal.returns-clause-fits
returns-clause-fits c = fitting c.args.script.now c.args.graph.now c.args.groups.now c.judged.result c.requires.groups c.judged.ensures

pub returns-clause-numbers : goal.returns-clause-numbers
returns-clause-numbers c = holding_none c.args.script.now c.args.graph.now c.args.groups.now c.judged.result c.requires.written c.requires.groups c.judged.ensures

pub returns-clause-steps : goal.returns-clause-steps
returns-clause-steps c = counted c.args.script.now c.args.graph.now c.args.groups.now c.judged.result c.requires.groups c.judged.ensures
