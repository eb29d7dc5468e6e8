-- What is left is the normal form, so it is a batch, and the same collection.
use Rattle.std.proofs.Common.{◌≡◌, sym, subst, arith}
use Rattle.std.proofs.lemmas.Grind.{common_steps}
use Rattle.weighted.specs.Alike.{Alike-trans, Alike-is}
use Rattle.weighted.specs.Normal.{normal, normal-Alike}
use Rattle.weighted.specs.Batches.{IsBatch, IsBatch-normal}
use Rattle.weighted.proofs.batch.Batch.from_sorted_vec.Goals as goal

pub invariant_of-result : goal.invariant_of-result
invariant_of-result g c =
    let is : c.truncate.new.self.items ≡ normal g.R.Ord.cmp c.args.entries.items = grind (arith, common_steps) in
    subst (λ es. IsBatch g.R.Ord.cmp es) (sym is) (IsBatch-normal g.R.Ord.cmp g.met.R.Ord.total g.met.R.Record.same c.args.entries.items)

pub returns-clause-alike : goal.returns-clause-alike
returns-clause-alike g c =
    let is : c.truncate.new.self.items ≡ normal g.R.Ord.cmp c.args.entries.items = grind (arith, common_steps) in
    Alike-trans (Alike-is is) (normal-Alike g.R.Ord.cmp g.met.R.Ord.total g.met.R.Record.same c.args.entries.items)

pub returns-clause-batch : goal.returns-clause-batch
returns-clause-batch g c =
    let is : c.truncate.new.self.items ≡ normal g.R.Ord.cmp c.args.entries.items = grind (arith, common_steps) in
    subst (λ es. IsBatch g.R.Ord.cmp es) (sym is) (IsBatch-normal g.R.Ord.cmp g.met.R.Ord.total g.met.R.Record.same c.args.entries.items)
