use Rattle.std.proofs.Common.{◌≡◌, ◌++◌, take}
use Rattle.weighted.specs.Normal.{normal}
use Rattle.trace_store.specs.Traces.{in_turn}
use Rattle.diff_join.specs.Joins.{products_after, products_at}
use Rattle.diff_join.proofs.kept.Kept.take_in_all.Given as goal

abbrev pub invariant-loop-product : goal.invariant-loop-product
invariant-loop-product g l = record {
  made : l.made.items ≡ l.fn.made.items ++ products_at g.T.Ord.cmp l.t (take l.product-index l.products);
  rest : l.self ≡ normal (in_turn g.T.Ord.cmp g.O.Ord.cmp) (l.fn.self ++ products_after g.T.Ord.cmp l.t (take l.product-index l.products));
}
