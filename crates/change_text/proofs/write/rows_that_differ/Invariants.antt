use Rattle.std.proofs.Common.{◌≡◌}
use Rattle.change_text.proofs.Writing.{rows_upto}
use Rattle.change_text.proofs.write.rows_that_differ.Given as goal

abbrev pub invariant-loop-place : goal.invariant-loop-place
invariant-loop-place l = l.rows.items ≡ rows_upto l.graph l.before l.values l.place
