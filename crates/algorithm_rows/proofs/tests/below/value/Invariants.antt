-- The ledger of the steps is the new one.
use Rattle.algorithm_rows.proofs.tests.below.value.Given as goal

abbrev pub ghosts-value_in : goal.ghosts-value_in
ghosts-value_in a = record { name = a.blank.name; parts = a.blank.parts }
