-- The ledger of the steps is the new one.
use Rattle.room_rows.proofs.tests.works.works.Given as goal

abbrev pub ghosts-both_works : goal.ghosts-both_works
ghosts-both_works a = record { name = a.blank.name; parts = a.blank.parts }
