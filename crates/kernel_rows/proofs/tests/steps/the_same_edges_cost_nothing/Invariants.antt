-- The ledger of the steps is the new one.
use Rattle.kernel_rows.proofs.tests.steps.the_same_edges_cost_nothing.Given as goal

abbrev pub ghosts-counted : goal.ghosts-counted
ghosts-counted g a = record { name = a.blank.name; parts = a.blank.parts }
