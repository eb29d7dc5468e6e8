use Rattle.std.proofs.Common.{◌≡◌, drop}
use Rattle.diff_join.specs.Joins.{products_after, products_at}
use Rattle.diff_join.proofs.kept.take_out.Given as goal

abbrev pub invariant-loop-output : goal.invariant-loop-output
invariant-loop-output g l = record {
  left : products_at g.T.Ord.cmp l.t l.products.entries ≡ drop l.output-index l.outputs;
  others : products_after g.T.Ord.cmp l.t l.products.entries ≡ products_after g.T.Ord.cmp l.t l.fn.products.entries;
}
