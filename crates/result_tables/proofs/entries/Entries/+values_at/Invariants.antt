use Rattle.result_tables.proofs.entries.Entries.+values_at.Given as goal

abbrev pub decreases-values_at : goal.decreases-values_at
decreases-values_at l = l.place
