-- A normal form is a batch.
use Rattle.std.proofs.Common.{◌++◌, sym, subst}
use Rattle.weighted.specs.Batches.{IsBatch, IsBatch-normal}
use Rattle.trace_store.proofs.layer.Layer.merged.Goals as goal

pub invariant_of-result : goal.invariant_of-result
invariant_of-result g c = subst (λ es. IsBatch g.R.Ord.cmp es) (sym c.merge.ensures) (IsBatch-normal g.R.Ord.cmp g.met.R.Ord.total g.met.R.Record.same (c.args.self.now ++ c.args.other.now))

pub returns-clause-batch : goal.returns-clause-batch
returns-clause-batch g c = subst (λ es. IsBatch g.R.Ord.cmp es) (sym c.merge.ensures) (IsBatch-normal g.R.Ord.cmp g.met.R.Ord.total g.met.R.Record.same (c.args.self.now ++ c.args.other.now))
