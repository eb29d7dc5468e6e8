-- The ledger of the steps is the new one.
use Rattle.session_rows.proofs.tests.answers.Given as goal

abbrev pub ghosts-answers_in : goal.ghosts-answers_in
ghosts-answers_in a = record { name = a.blank.name; parts = a.blank.parts }
