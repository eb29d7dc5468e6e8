-- The ledger of the steps is the new one.
use Rattle.phase_rows.proofs.tests.worked.makes.Given as goal

abbrev pub ghosts-grown : goal.ghosts-grown
ghosts-grown g a = record { name = a.blank.name; parts = a.blank.parts }
