use Rattle.std.proofs.Common.{◌≡◌, map, take}
use Rattle.result_tables.proofs.entries.values_in.Given as goal

abbrev pub invariant-loop-value : goal.invariant-loop-value
invariant-loop-value l = l.values.items ≡ map (λ c. c.1) (take l.value-index l.change)
