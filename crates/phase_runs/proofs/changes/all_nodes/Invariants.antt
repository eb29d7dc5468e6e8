-- The nodes that are named, and the others.
use Rattle.std.proofs.Common.{◌≡◌, ◌++◌, drop}
use Rattle.result_tables.specs.Changes.{all_from}
use Rattle.phase_runs.proofs.changes.all_nodes.Given as goal

abbrev pub invariant-loop-node : goal.invariant-loop-node
invariant-loop-node l = l.changes.items ++ all_from l.node (drop l.node l.values) ≡ all_from 0 l.values
