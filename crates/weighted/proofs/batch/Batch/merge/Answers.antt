-- The entries of all batches, in another order, are one collection.
use Rattle.std.proofs.Common.{◌∙◌}
use Rattle.weighted.specs.Alike.{Alike-trans}
use Rattle.weighted.specs.Batches.{joined}
use Rattle.weighted.specs.Normal.{normal-same}
use Rattle.weighted.specs.SumLaws.{Alike-permutation}
use Rattle.weighted.proofs.batch.Batch.merge.Goals as goal

pub returns-clause-value : goal.returns-clause-value
returns-clause-value g c = c.from_sorted_vec.ensures.value ∙ normal-same g.R.Ord.cmp g.met.R.Ord.total g.met.R.Record.same c.in_ok-entries.entries.items (joined c.args.batches.now) (Alike-permutation (joined c.args.batches.now) c.in_ok-entries.entries.items c.in_ok-entries.ensures.entries)

pub returns-clause-alike : goal.returns-clause-alike
returns-clause-alike g c = Alike-trans c.from_sorted_vec.ensures.alike (Alike-permutation (joined c.args.batches.now) c.in_ok-entries.entries.items c.in_ok-entries.ensures.entries)
