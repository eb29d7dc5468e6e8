use Rattle.std.proofs.Common.{◌≡◌, ◌<◌, ◌++◌, take, drop}
use Rattle.weighted.specs.Normal.{normal}
use Rattle.weighted.proofs.Condensed.{condensed}
use Rattle.weighted.proofs.consolidate.consolidate.Given as goal

abbrev pub invariant-loop-i : goal.invariant-loop-i
invariant-loop-i g l = record {
  behind : l.kept < l.i;
  sums : take l.kept l.entries ++ condensed g.R.Ord.cmp l.held (drop l.i l.entries) ≡ normal g.R.Ord.cmp l.fn.entries;
}
