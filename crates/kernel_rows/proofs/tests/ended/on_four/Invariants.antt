-- The ledger of the steps is the new one.
use Rattle.kernel_rows.proofs.tests.ended.on_four.Given as goal

abbrev pub ghosts-counted : goal.ghosts-counted
ghosts-counted a = record { name = a.blank.name; parts = a.blank.parts }
