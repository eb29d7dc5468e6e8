-- The ledger of the steps is the new one.
use Rattle.room_rows.proofs.tests.phases.row_text.Given as goal

abbrev pub ghosts-run_text : goal.ghosts-run_text
ghosts-run_text a = record { name = a.blank.name; parts = a.blank.parts }
