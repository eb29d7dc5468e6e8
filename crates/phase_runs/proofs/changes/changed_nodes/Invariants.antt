-- The changes that are named, and those of the other nodes.
use Rattle.std.proofs.Common.{◌≡◌, ◌++◌, drop}
use Rattle.result_tables.specs.Changes.{changes_from}
use Rattle.phase_runs.proofs.changes.changed_nodes.Given as goal

abbrev pub invariant-loop-node : goal.invariant-loop-node
invariant-loop-node l = l.changes.items ++ changes_from l.node (drop l.node l.earlier) (drop l.node l.values) ≡ changes_from 0 l.earlier l.values
