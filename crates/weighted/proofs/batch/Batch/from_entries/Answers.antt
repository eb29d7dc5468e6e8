-- The sort moves entries only.
use Rattle.std.proofs.Common.{◌≡◌, ◌∙◌, subst, rules}
use Rattle.std.specs.List.Sorted.{IsPermutation}
use Rattle.std.proofs.lemmas.List.Sorted.{answers_always}
use Rattle.weighted.specs.Alike.{Alike-trans}
use Rattle.weighted.specs.Normal.{normal-same}
use Rattle.weighted.specs.SumLaws.{Alike-permutation}
use Rattle.weighted.proofs.batch.Batch.from_entries.Goals as goal

pub from_sorted_vec-requires : goal.from_sorted_vec-requires
from_sorted_vec-requires g c = c.sort_unstable_by_key.ensures.sorted (λ e. e.0) (answers_always _ (λ a r. r ≡ a.0.now.0) _ (λ f a r q k. search rules))

pub returns-clause-value : goal.returns-clause-value
returns-clause-value g c =
    let moved : IsPermutation c.args.entries c.sort_unstable_by_key.new.self.items = subst (λ es. IsPermutation es c.sort_unstable_by_key.new.self.items) c.into_vec-entries.ensures c.sort_unstable_by_key.ensures.permutation in
    c.from_sorted_vec.ensures.value ∙ normal-same g.R.Ord.cmp g.met.R.Ord.total g.met.R.Record.same c.sort_unstable_by_key.new.self.items c.args.entries (Alike-permutation c.args.entries c.sort_unstable_by_key.new.self.items moved)

pub returns-clause-alike : goal.returns-clause-alike
returns-clause-alike g c =
    let moved : IsPermutation c.args.entries c.sort_unstable_by_key.new.self.items = subst (λ es. IsPermutation es c.sort_unstable_by_key.new.self.items) c.into_vec-entries.ensures c.sort_unstable_by_key.ensures.permutation in
    Alike-trans c.from_sorted_vec.ensures.alike (Alike-permutation c.args.entries c.sort_unstable_by_key.new.self.items moved)
