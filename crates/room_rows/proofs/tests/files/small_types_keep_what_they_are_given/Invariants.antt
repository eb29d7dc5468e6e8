-- The ledger of the steps is the new one.
use Rattle.room_rows.proofs.tests.files.small_types_keep_what_they_are_given.Given as goal

abbrev pub ghosts-two_steps : goal.ghosts-two_steps
ghosts-two_steps g a = record { name = a.blank.name; parts = a.blank.parts }
