-- The counter is over the ledger that the run makes.
use Rattle.surge_rows.proofs.tests.updaters.tables_are_what_the_updater_answers.Given as goal

abbrev pub ghosts-prints_starts : goal.ghosts-prints_starts
ghosts-prints_starts g a = record { name = a.blank.name; parts = a.blank.parts }
