use Rattle.std.proofs.Common.{◌≡◌, ◌+◌, ◌%◌, ◌^◌, drop}
use Rattle.weighted.specs.Words.{sum_at, word}
use Rattle.aggregate_views.proofs.totals.weight_of.Given as goal

abbrev pub invariant-loop-other : goal.invariant-loop-other
invariant-loop-other g l = (l.sum + sum_at g.R.Ord.cmp (drop l.other-index l.words) l.wanted) % 2 ^ 64 ≡ word g.R.Ord.cmp l.words l.wanted
