use Rattle.std.proofs.Common.{◌≡◌, drop, map}
use Rattle.std.specs.Prelude.{filter}
use Rattle.std.specs.Ordering.{is_eq, is_ne}
use Rattle.diff_reduce.proofs.pairs.take_out.Given as goal

abbrev pub invariant-loop-second : goal.invariant-loop-second
invariant-loop-second g l = record {
  left : map (λ p. p.1) (filter (λ p. is_eq (g.A.Ord.cmp p.0 l.first)) l.pairs.keys) ≡ drop l.second-index l.seconds;
  others : filter (λ p. is_ne (g.A.Ord.cmp p.0 l.first)) l.pairs.keys ≡ filter (λ p. is_ne (g.A.Ord.cmp p.0 l.first)) l.fn.pairs.keys;
}
