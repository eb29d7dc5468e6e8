-- What it stands for says all three.
use Rattle.diff_reduce.proofs.reduce.Reduce.evaluations.Goals as goal

pub returns-clause-counted : goal.returns-clause-counted
returns-clause-counted g c = λ run h. h.keeps.paid

pub returns-clause-each : goal.returns-clause-each
returns-clause-each g c = λ run h. h.keeps.each

pub returns-clause-fed : goal.returns-clause-fed
returns-clause-fed g c = λ run h. h.batches
