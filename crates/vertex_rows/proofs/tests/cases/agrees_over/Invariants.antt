-- The ledger of the steps is the new one.
use Rattle.vertex_rows.proofs.tests.cases.agrees_over.Given as goal

abbrev pub ghosts-agrees_in : goal.ghosts-agrees_in
ghosts-agrees_in a = record { name = a.blank.name; parts = a.blank.parts }
