use Rattle.std.proofs.Common.{◌≡◌, ◌*◌, ◌≤◌, take, pos, ◌≤ℤ◌}
use Rattle.std.specs.Prelude.{neg_ℤ}
use Rattle.result_tables.specs.TableText.{count_values, sum_values}
use Rattle.result_tables.proofs.totals.totals_of.Given as goal

abbrev pub invariant-loop-value : goal.invariant-loop-value
invariant-loop-value l = record {
  count : l.totals.count ≡ count_values (take l.value-index l.values);
  few : l.totals.count ≤ l.value-index;
  sum : l.totals.sum ≡ sum_values (take l.value-index l.values);
  low : neg_ℤ (pos (l.value-index * 9_223_372_036_854_775_808)) ≤ℤ l.totals.sum;
  high : l.totals.sum ≤ℤ pos (l.value-index * 9_223_372_036_854_775_808);
}
