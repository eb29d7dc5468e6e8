use Rattle.std.proofs.Common.{◌≡◌, ◌+◌, drop}
use Rattle.gvdl_check.specs.Plans.{last_edit, last_edit_from}
use Rattle.gvdl_check.proofs.statement.last_edit.Given as goal

abbrev pub invariant-loop-statement : goal.invariant-loop-statement
invariant-loop-statement l = record {
  same : last_edit l.statements ≡ last_edit_from l.found (l.statement-index + 2) (drop l.statement-index l.statements);
  number : l.number ≡ l.statement-index + 1;
}
