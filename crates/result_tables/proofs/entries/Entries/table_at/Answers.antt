-- The table of an entry, and its size.
use Rattle.result_tables.specs.ResultsInside.{values_at}
use Rattle.result_tables.proofs.Holding.{its_size, its_table, size_shown}
use Rattle.result_tables.proofs.entries.Entries.table_at.Goals as goal

pub returns-clause-table : goal.returns-clause-table
returns-clause-table c = its_table c.args.self.now c.args.place c.index.result.now c.in_ok-values.values c.requires.entries c.requires.place c.index.ensures c.in_ok-values.ensures

pub returns-clause-size : goal.returns-clause-size
returns-clause-size c =
    let es = c.args.self.now in
    rw c.in_ok-values.ensures
    (size_shown es.nodes c.index.result.now.outcome (values_at es.list.items c.args.place) (its_size es c.args.place c.requires.entries c.requires.place))
