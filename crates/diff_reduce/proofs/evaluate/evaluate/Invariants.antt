use Rattle.std.proofs.Common.{◌≡◌, ◌≤◌, ◌+◌, take}
use Rattle.weighted.specs.Normal.{normal}
use Rattle.reduce_theory.specs.ByKey.{over}
use Rattle.diff_reduce.specs.Stands.{IsKept}
use Rattle.diff_reduce.specs.Changes.{correction}
use Rattle.diff_reduce.specs.Later.{AreLater}
use Rattle.diff_reduce.proofs.evaluate.evaluate.Given as goal

abbrev pub invariant-loop-key : goal.invariant-loop-key
invariant-loop-key g l = record {
  made : l.work.made.items ≡ over (λ k. normal g.O.Ord.cmp (correction g.T.Time.leq g.K.Ord.cmp g.V.Ord.cmp g.O.Ord.cmp (g.G.KeyLogic.gives l.logic) l.t l.input.items l.output.items k)) (take l.key-index l.keys);
  later : AreLater g.T.Time.leq g.T.Time.lub (IsKept g.T.Ord.cmp g.K.Ord.cmp g.V.Ord.cmp l.input.items l.points) l.points l.t (take l.key-index l.keys) l.work.later.items;
  count : l.count ≡ l.fn.count + l.key-index;
  calls : g.U.Counted.calls l.fn.updater ≤ g.U.Counted.calls l.updater;
  cost : g.U.Counted.calls l.updater + l.fn.count ≤ g.U.Counted.calls l.fn.updater + l.count;
}
