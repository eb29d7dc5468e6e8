-- The ledger of the steps is the new one.
use Rattle.kernel_rows.proofs.tests.shared.a_round_that_differs_is_not.Given as goal

abbrev pub ghosts-hop_steps : goal.ghosts-hop_steps
ghosts-hop_steps g a = record { name = a.blank.name; parts = a.blank.parts }
