-- The view has a place.
use Rattle.std.proofs.Common.{◌∙◌, sym}
use Rattle.result_tables.proofs.Holding.{is_there, table_found}
use Rattle.result_tables.proofs.entries.Entries.table.Goals as goal

pub unreachable-requires : goal.unreachable-requires
unreachable-requires c = is_there c.args.self.now c.args.view c.place_of.result c.place_of.ensures c.in-None.is c.requires.held

pub returns-clause-table : goal.returns-clause-table
returns-clause-table c = rw (table_found c.args.self.now c.args.view c.in-Some.place (sym c.place_of.ensures ∙ c.in-Some.is)) c.table_at.ensures.table
