-- The table that is told.
use Rattle.std.proofs.Common.{sym, ◌∙◌}
use Rattle.view_engine.specs.Engines.{task_of}
use Rattle.view_engine.proofs.Telling.{result_some, result_none, result_unstepped}
use Rattle.view_engine.proofs.engine.Engine.result.Goals as goal

pub returns-then-is_none : goal.returns-then-is_none
returns-then-is_none c = λ answer m stands. result_unstepped (task_of answer m c.args.self.now) c.args.self.now c.args.view c.work.result c.is_none.result c.work.ensures c.is_none.ensures c.if-is_none.true

pub returns-in_ok-table : goal.returns-in_ok-table
returns-in_ok-table c = λ answer m stands.
    result_some answer m c.args.self.now stands c.args.view c.work.result c.is_none.result c.work.ensures c.is_none.ensures c.if-is_none.false c.in_ok-table.field-0 c.in_ok-table.ensures.table

pub returns-else-has : goal.returns-else-has
returns-else-has c = λ answer m stands. result_none answer m c.args.self.now stands c.args.view (sym c.has.ensures ∙ c.if-has.false)
