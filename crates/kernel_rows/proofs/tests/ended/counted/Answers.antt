use Rattle.kernel_rows.proofs.tests.ended.counted.Goals as goal

pub steps-requires-clause-checked : goal.steps-requires-clause-checked
steps-requires-clause-checked g c = c.in_ok-program.ensures.checked _
