-- The ledger of the steps is the new one.
use Rattle.phase_rows.proofs.tests.drawn.agree.Given as goal

abbrev pub ghosts-over : goal.ghosts-over
ghosts-over g a = record { name = a.blank.name; parts = a.blank.parts }
