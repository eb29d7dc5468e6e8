use Rattle.std.proofs.Common.{◌≡◌, ◌<◌, ◌^◌, drop, true}
use Rattle.std.specs.List.{list_all}
use Rattle.std.specs.Str.Parse.{digits_value_after}
use Rattle.gvdl_tokens.specs.Characters.{is_digit}
use Rattle.gvdl_tokens.proofs.number.value_of.Given as goal

abbrev pub invariant-loop-b : goal.invariant-loop-b
invariant-loop-b l = record {
  digits : list_all is_digit (drop l.b-index l.digits) ≡ true;
  limit : l.value < 2 ^ 63;
  value : digits_value_after 10 l.value (drop l.b-index l.digits) ≡ digits_value_after 10 0 l.digits;
}
