use Rattle.room_rows.proofs.tests.works.works_over.Goals as goal

pub works_text-requires-clause-checked : goal.works_text-requires-clause-checked
works_text-requires-clause-checked c = c.counts-program.ensures _
