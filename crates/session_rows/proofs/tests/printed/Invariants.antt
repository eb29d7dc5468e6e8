-- The ledger of the steps is the new one.
use Rattle.session_rows.proofs.tests.printed.Given as goal

abbrev pub ghosts-printed_in : goal.ghosts-printed_in
ghosts-printed_in a = record { name = a.blank.name; parts = a.blank.parts }
