use Rattle.std.proofs.Common.{◌≡◌, ◌+◌, drop, length}
use Rattle.gvdl_check.specs.Plans.{last_edit, plan_loaded, plan_from}
use Rattle.gvdl_check.specs.Fits.{KnownFits, IsSmall}
use Rattle.gvdl_check.specs.LaterLaws.{AreCome}
use Rattle.gvdl_check.proofs.script.statements_judged.Given as goal

abbrev pub invariant-loop-statement : goal.invariant-loop-statement
invariant-loop-statement l = record {
  same : plan_loaded l.script l.graph l.groups ≡ plan_from l.script.form l.graph l.groups (last_edit l.script.statements) (l.statement-index + 2) l.known (drop l.statement-index l.script.statements);
  number : l.number ≡ l.statement-index + 1;
  steps : length l.known.steps ≡ l.statement-index;
  small : IsSmall l.statement-index l.known;
  fits : KnownFits l.graph l.known;
  come : AreCome l.groups l.known;
}
