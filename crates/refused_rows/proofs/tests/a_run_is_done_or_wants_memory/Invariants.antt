-- The counter is over the ledger that the run makes.
use Rattle.refused_rows.proofs.tests.a_run_is_done_or_wants_memory.Given as goal

abbrev pub ghosts-runs_right : goal.ghosts-runs_right
ghosts-runs_right g a = record { name = a.blank.name; parts = a.blank.parts }
