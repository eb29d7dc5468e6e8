use Rattle.std.proofs.Common.{◌≡◌, ◌++◌}
use Rattle.aggregate_views.proofs.codes.rising_keys.Given as goal

abbrev pub invariant-loop-key : goal.invariant-loop-key
invariant-loop-key g l = l.keys.items ++ l.key-iterator ≡ l.set.keys
