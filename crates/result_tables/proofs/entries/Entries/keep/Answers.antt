-- All values of a first view.
use Rattle.result_tables.proofs.Holding.{keeps_first}
use Rattle.result_tables.proofs.entries.Entries.keep.Goals as goal

pub returns-in_ok-values_in-in-None : goal.returns-in_ok-values_in-in-None
returns-in_ok-values_in-in-None c =
    keeps_first c.args.self.now c.args.before c.args.change.now c.in_ok-values_in-in-None.field-0 c.in-None.is c.requires.change c.in_ok-values_in-in-None.ensures
