-- The ledger of the steps is the new one.
use Rattle.algorithm_rows.proofs.tests.runs.answer.Given as goal

abbrev pub ghosts-run_in : goal.ghosts-run_in
ghosts-run_in a = record { name = a.blank.name; parts = a.blank.parts }
