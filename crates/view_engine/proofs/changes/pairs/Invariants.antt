-- The changes before this one are pushed.
use Rattle.std.proofs.Common.{◌≡◌, map, take}
use Rattle.view_engine.proofs.Keeping.{pair_of}
use Rattle.view_engine.proofs.changes.pairs.Given as goal

abbrev pub invariant-loop-c : goal.invariant-loop-c
invariant-loop-c l = l.pairs.items ≡ map pair_of (take l.c-index l.changes)
