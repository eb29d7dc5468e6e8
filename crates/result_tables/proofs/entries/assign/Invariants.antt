use Rattle.std.proofs.Common.{◌≡◌, length, take}
use Rattle.result_tables.specs.Results.{assigned}
use Rattle.result_tables.proofs.entries.assign.Given as goal

abbrev pub invariant-loop-node : goal.invariant-loop-node
invariant-loop-node l = record {
  values : l.values ≡ assigned l.initial.values (take l.node-index l.change);
  many : length l.values ≡ length l.initial.values;
}
