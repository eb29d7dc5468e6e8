use Rattle.std.proofs.Common.{◌≡◌, ◌++◌, take}
use Rattle.gvdl_tokens.proofs.spelling.push_bytes.Given as goal

abbrev pub invariant-loop-b : goal.invariant-loop-b
invariant-loop-b l = l.text ≡ l.initial.text ++ take l.b-index l.bytes
