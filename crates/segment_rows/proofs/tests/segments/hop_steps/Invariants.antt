-- The ledger of the steps is the new one.
use Rattle.segment_rows.proofs.tests.segments.hop_steps.Given as goal

abbrev pub ghosts-hops_in : goal.ghosts-hops_in
ghosts-hops_in a = record { name = a.blank.name; parts = a.blank.parts }
