-- The ledger of the steps is the new one.
use Rattle.room_rows.proofs.tests.updates.answer.Given as goal

abbrev pub ghosts-answer_in : goal.ghosts-answer_in
ghosts-answer_in a = record { name = a.blank.name; parts = a.blank.parts }
