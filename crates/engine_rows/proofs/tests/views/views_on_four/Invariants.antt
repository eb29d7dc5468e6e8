-- The ledger of the steps is the new one.
use Rattle.engine_rows.proofs.tests.views.views_on_four.Given as goal

abbrev pub ghosts-counted : goal.ghosts-counted
ghosts-counted a = record { name = a.blank.name; parts = a.blank.parts }
