-- Sorted, and each once, the times of the key's entries.
use Rattle.std.proofs.Common.{◌≡◌, ◌∙◌, ◌++◌, map, ap, sym, subst}
use Rattle.std.specs.Cmp.{tied_itself}
use Rattle.std.specs.List.{Contains, dedup}
use Rattle.std.specs.List.Sorted.{IsStrictlySortedBy}
use Rattle.std.specs.Ordering.{is_eq}
use Rattle.std.proofs.lemmas.List.Filters.{dedup_is}
use Rattle.std.proofs.lemmas.List.Kept.{Contains-dedup, Contains-from_dedup, IsStrictlySortedBy-dedup}
use Rattle.std.proofs.lemmas.List.Sorted.{Contains-permutation, IsPermutation-sym}
use Rattle.weighted.specs.Batches.{IsBatch, IsBatch-normal, joined}
use Rattle.weighted.specs.SumLaws.{filtered}
use Rattle.trace_store.specs.Stored.{Stored}
use Rattle.trace_store.specs.Traces.{trace_cmp}
use Rattle.trace_store.specs.TraceLaws.{trace_same, trace_total}
use Rattle.trace_store.proofs.Keys.{keyed}
use Rattle.trace_store.proofs.Times.{each_time, equal, only_times, times}
use Rattle.trace_store.proofs.trace.Trace.times_of.Goals as goal

pub returns-clause-rising : goal.returns-clause-rising
returns-clause-rising g c =
    let is : c.from_vec.result ≡ dedup g.T.PartialEq.eq c.sort_unstable.new.self.items = c.from_vec.ensures ∙ dedup_is _ _ _ c.dedup.ensures.filtered in
    subst (λ ts. IsStrictlySortedBy g.T.Ord.cmp ts) (sym is) (IsStrictlySortedBy-dedup g.met.T.Ord.total g.met.T.Ord.matches_eq c.sort_unstable.new.self.items c.sort_unstable.ensures.sorted)

pub returns-clause-only : goal.returns-clause-only
returns-clause-only g c = λ s h.
    let found : c.push_times.new.times.items ≡ times g.K.Ord.cmp g.V.Ord.cmp g.T.Ord.cmp c.args.key c.args.self.now.items =
    c.in_ok-push_times.ensures
    ∙ ap (λ v. v ++ map (λ e. e.0.1) c.as_slice.result.now) c.clear.ensures.items
    ∙ ap (map (λ e. e.0.1)) (c.as_slice.ensures ∙ c.in_ok-entries_of.ensures) in
    let is : c.from_vec.result ≡ dedup g.T.PartialEq.eq c.sort_unstable.new.self.items = c.from_vec.ensures ∙ dedup_is _ _ _ c.dedup.ensures.filtered in
    let order = trace_total g.met.K.Ord.total g.met.V.Ord.total g.met.T.Ord.total in
    let same = trace_same g.met.K.Record.same g.met.V.Record.same g.met.T.Record.same in
    let batch : IsBatch (trace_cmp g.K.Ord.cmp g.V.Ord.cmp g.T.Ord.cmp) c.args.self.now.items = subst (λ (v : Stored ((g.row.K.Denot × g.row.V.Denot) × g.row.T.Denot)). IsBatch (trace_cmp g.K.Ord.cmp g.V.Ord.cmp g.T.Ord.cmp) v.items) c.self.view_is (IsBatch-normal (trace_cmp g.K.Ord.cmp g.V.Ord.cmp g.T.Ord.cmp) order same (joined c.self.inside.layers.items)) in
    let sorted : Contains c.sort_unstable.new.self.items s = Contains-from_dedup g.T.PartialEq.eq c.sort_unstable.new.self.items s (subst (λ ts. Contains ts s) is h) in
    let pushed : Contains c.push_times.new.times.items s = Contains-permutation _ _ s (IsPermutation-sym _ _ c.sort_unstable.ensures.permutation) sorted in
    only_times g.K.Ord.cmp g.V.Ord.cmp g.T.Ord.cmp c.args.key order same (ap is_eq (tied_itself g.met.K.Ord.total c.args.key)) g.met.K.Record.same c.args.self.now.items s batch.rising batch.weighty (subst (λ ts. Contains ts s) found pushed)

pub returns-clause-each : goal.returns-clause-each
returns-clause-each g c = λ s h.
    let found : c.push_times.new.times.items ≡ times g.K.Ord.cmp g.V.Ord.cmp g.T.Ord.cmp c.args.key c.args.self.now.items =
    c.in_ok-push_times.ensures
    ∙ ap (λ v. v ++ map (λ e. e.0.1) c.as_slice.result.now) c.clear.ensures.items
    ∙ ap (map (λ e. e.0.1)) (c.as_slice.ensures ∙ c.in_ok-entries_of.ensures) in
    let is : c.from_vec.result ≡ dedup g.T.PartialEq.eq c.sort_unstable.new.self.items = c.from_vec.ensures ∙ dedup_is _ _ _ c.dedup.ensures.filtered in
    let order = trace_total g.met.K.Ord.total g.met.V.Ord.total g.met.T.Ord.total in
    let same = trace_same g.met.K.Record.same g.met.V.Record.same g.met.T.Record.same in
    let here : Contains c.push_times.new.times.items s = subst (λ ts. Contains ts s) (sym found) (each_time g.K.Ord.cmp g.V.Ord.cmp g.T.Ord.cmp c.args.key order same (ap is_eq (tied_itself g.met.K.Ord.total c.args.key)) c.args.self.now.items s h) in
    let sorted : Contains c.sort_unstable.new.self.items s = Contains-permutation _ _ s c.sort_unstable.ensures.permutation here in
    subst (λ ts. Contains ts s) (sym is) (Contains-dedup g.met.T.Eq.laws (λ x y e. g.met.T.Record.same x y (equal (g.T.Ord.cmp x y) (sym (g.met.T.Ord.matches_eq x y) ∙ e))) c.sort_unstable.new.self.items s sorted)
