use Rattle.std.proofs.Common.{length}
use Rattle.gvdl_tokens.proofs.Enclosing.{IsReadSo}
use Rattle.gvdl_tokens.proofs.enclosed.read_enclosed.Given as goal

abbrev pub invariant-characters : goal.invariant-characters
invariant-characters l = IsReadSo l.quote l.bytes l.content l.rest

abbrev pub decreases-characters : goal.decreases-characters
decreases-characters l = length l.rest
