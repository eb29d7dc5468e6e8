use Rattle.std.proofs.Common.{◌≡◌, ◌+◌, ◌≤◌, drop}
use Rattle.gvdl_tokens.specs.Reading.{moved}
use Rattle.gvdl_tokens.proofs.place.after.Given as goal

abbrev pub invariant-loop-b : goal.invariant-loop-b
invariant-loop-b l = record {
  line_fits : l.line ≤ l.fn.place.line + l.b-index;
  column_fits : l.column ≤ l.fn.place.column + l.b-index;
  place_is : moved (record { line = l.line; column = l.column }) (drop l.b-index l.bytes) ≡ moved l.fn.place l.fn.bytes;
}
