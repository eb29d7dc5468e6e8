use Rattle.std.proofs.Common.{◌≤◌, length}
use Rattle.aggregate_views.specs.Coding.{HasKeys}
use Rattle.aggregate_views.proofs.codes.keys_in.Given as goal

abbrev pub invariant-loop-n : goal.invariant-loop-n
invariant-loop-n l = record {
  has : HasKeys l.graph l.column l.n l.set.keys;
  few : length l.set.keys ≤ l.n;
}
