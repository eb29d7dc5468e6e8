-- Sorted, and each once.
use Rattle.std.proofs.Common.{◌≡◌, ◌∙◌, sym, subst}
use Rattle.std.specs.Cmp.{Equal-is}
use Rattle.std.specs.List.{Contains, dedup}
use Rattle.std.specs.List.Sorted.{IsStrictlySortedBy}
use Rattle.std.proofs.lemmas.List.Filters.{dedup_is}
use Rattle.std.proofs.lemmas.List.Kept.{Contains-dedup, Contains-from_dedup, IsStrictlySortedBy-dedup}
use Rattle.std.proofs.lemmas.List.Sorted.{Contains-permutation, IsPermutation-sym}
use Rattle.diff_reduce.proofs.sets.make_set.Goals as goal

pub returns-clause-rising : goal.returns-clause-rising
returns-clause-rising g c =
    let is : c.dedup.new.self.items ≡ dedup g.R.PartialEq.eq c.sort_unstable.new.self.items = dedup_is _ _ _ c.dedup.ensures.filtered in
    subst (λ xs. IsStrictlySortedBy g.R.Ord.cmp xs) (sym is) (IsStrictlySortedBy-dedup g.met.R.Ord.total g.met.R.Ord.matches_eq c.sort_unstable.new.self.items c.sort_unstable.ensures.sorted)

pub returns-clause-each : goal.returns-clause-each
returns-clause-each g c = λ x h.
    let is : c.dedup.new.self.items ≡ dedup g.R.PartialEq.eq c.sort_unstable.new.self.items = dedup_is _ _ _ c.dedup.ensures.filtered in
    let sorted : Contains c.sort_unstable.new.self.items x = Contains-permutation _ _ x c.sort_unstable.ensures.permutation h in
    subst (λ xs. Contains xs x) (sym is) (Contains-dedup g.met.R.Eq.laws (λ x y e. g.met.R.Record.same x y ((Equal-is (g.R.Ord.cmp x y)).0 (sym (g.met.R.Ord.matches_eq x y) ∙ e))) c.sort_unstable.new.self.items x sorted)

pub returns-clause-only : goal.returns-clause-only
returns-clause-only g c = λ x h.
    let is : c.dedup.new.self.items ≡ dedup g.R.PartialEq.eq c.sort_unstable.new.self.items = dedup_is _ _ _ c.dedup.ensures.filtered in
    Contains-permutation _ _ x (IsPermutation-sym _ _ c.sort_unstable.ensures.permutation) (Contains-from_dedup g.R.PartialEq.eq c.sort_unstable.new.self.items x (subst (λ xs. Contains xs x) is h))
