use Rattle.view_matrix.proofs.Scans.{more_set}
use Rattle.view_matrix.proofs.word.more_bit.Goals as goal

pub returns : goal.returns
returns c = λ i. more_set c.args.word c.args.place i c.from.result c.args.bit c.requires c.from.ensures
