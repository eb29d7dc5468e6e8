use Rattle.std.proofs.Common.{◌≡◌, ◌++◌, take}
use Rattle.diff_join.specs.Joins.{AreHeld, pairs}
use Rattle.diff_join.specs.StepLaws.{products_of}
use Rattle.diff_join.proofs.products.push_all.Given as goal

abbrev pub invariant-loop-difference : goal.invariant-loop-difference
invariant-loop-difference g l = record {
  products : l.products.items ≡ l.initial.products.items ++ products_of g.T.Time.lub (pairs g.K.Ord.cmp (g.F.Pairing.gives l.pairing)) l.t (take l.difference-index l.difference-items) l.trace.items;
  held : AreHeld g.K.Ord.cmp l.trace.items l.held l.entries;
}
