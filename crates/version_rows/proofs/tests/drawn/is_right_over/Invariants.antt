-- The ledger of the steps is the new one.
use Rattle.version_rows.proofs.tests.drawn.is_right_over.Given as goal

abbrev pub ghosts-is_right_in : goal.ghosts-is_right_in
ghosts-is_right_in a = record { name = a.blank.name; parts = a.blank.parts }
