use Rattle.std.proofs.Common.{◌≡◌, ◌++◌, drop}
use Rattle.gvdl_tokens.specs.Spelling.{doubled}
use Rattle.gvdl_tokens.proofs.spelling.push_doubled.Given as goal

abbrev pub invariant-loop-b : goal.invariant-loop-b
invariant-loop-b l = l.text ++ doubled l.quote (drop l.b-index l.content) ≡ l.initial.text ++ doubled l.quote l.content
