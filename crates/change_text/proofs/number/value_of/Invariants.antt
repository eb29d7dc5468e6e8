use Rattle.std.proofs.Common.{◌≡◌, ◌≤◌, drop}
use Rattle.std.specs.Str.{all_ascii_digits}
use Rattle.std.specs.Str.Parse.{digits_value_after}
use Rattle.change_text.proofs.number.value_of.Given as goal

abbrev pub invariant-loop-b : goal.invariant-loop-b
invariant-loop-b l = record {
  digits : all_ascii_digits (drop l.b-index l.digits) ≡ all_ascii_digits l.digits;
  small : l.value ≤ 9_223_372_036_854_775_809;
  value : digits_value_after 10 l.value (drop l.b-index l.digits) ≡ digits_value_after 10 0 l.digits;
}
