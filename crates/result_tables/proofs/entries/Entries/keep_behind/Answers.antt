-- The view before has a place.
use Rattle.std.proofs.Common.{◌∙◌, sym, ap}
use Rattle.result_tables.specs.Results.{values_of}
use Rattle.result_tables.proofs.Holding.{found, is_there}
use Rattle.result_tables.proofs.entries.Entries.keep_behind.Goals as goal

pub unreachable-requires : goal.unreachable-requires
unreachable-requires c = is_there c.args.self.now c.args.last c.place_of.result c.place_of.ensures c.in-None.is c.requires.last

pub returns : goal.returns
returns c = rw (ap values_of (found c.args.self.now c.args.last c.in-Some.base (sym c.place_of.ensures ∙ c.in-Some.is)).1) c.keep_over.ensures
