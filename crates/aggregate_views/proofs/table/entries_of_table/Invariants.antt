use Rattle.std.proofs.Common.{◌≡◌, ◌++◌, drop}
use Rattle.aggregate_views.specs.Tables.{table_entries}
use Rattle.aggregate_views.proofs.table.entries_of_table.Given as goal

abbrev pub invariant-loop-n : goal.invariant-loop-n
invariant-loop-n l = l.entries.items ++ table_entries l.groups l.n (drop l.n l.table) ≡ table_entries l.groups 0 l.table
