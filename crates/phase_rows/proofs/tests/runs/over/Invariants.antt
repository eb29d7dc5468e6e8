-- The ledger of the steps is the new one.
use Rattle.phase_rows.proofs.tests.runs.over.Given as goal

abbrev pub ghosts-counted : goal.ghosts-counted
ghosts-counted a = record { name = a.blank.name; parts = a.blank.parts }
