use Rattle.graph_loader.proofs.SpellingFacts.{Read}
use Rattle.graph_loader.proofs.spelling.id_from.Given as goal

abbrev pub invariant-loop-byte : goal.invariant-loop-byte
invariant-loop-byte l = Read l.field l.byte-index l.value
