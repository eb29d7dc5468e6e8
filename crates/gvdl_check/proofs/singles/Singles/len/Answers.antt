-- There are as many views as are kept.
use Rattle.gvdl_check.proofs.SingleFacts.{length_chained}
use Rattle.gvdl_check.proofs.singles.Singles.len.Goals as goal

pub returns : goal.returns
returns c = cc (length_chained c.self.inside.all.items, c.self.view_is, c.len.ensures)
