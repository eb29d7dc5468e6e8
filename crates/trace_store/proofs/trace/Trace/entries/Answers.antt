-- A normal form is no longer than what it was made of.
use Rattle.std.proofs.Common.{◌≡◌, ◌∙◌, ◌≤◌, length, ap, sym, subst, arith}
use Rattle.weighted.specs.Batches.{joined}
use Rattle.weighted.specs.Normal.{normal}
use Rattle.trace_store.specs.Stored.{Stored}
use Rattle.trace_store.specs.Traces.{trace_cmp}
use Rattle.trace_store.proofs.Lengths.{length-normal}
use Rattle.trace_store.proofs.trace.Trace.entries.Goals as goal

pub returns-clause-bound : goal.returns-clause-bound
returns-clause-bound g c =
    let ls = c.self.inside.layers.items in let cmp = trace_cmp g.K.Ord.cmp g.V.Ord.cmp g.T.Ord.cmp in
    let h : length (normal cmp (joined ls)) ≤ c.self.inside.entries = subst (λ k. length (normal cmp (joined ls)) ≤ k) (sym c.self.invariant.0) (length-normal cmp (joined ls)) in
    subst (λ (v : Stored ((g.row.K.Denot × g.row.V.Denot) × g.row.T.Denot)). length v.items ≤ c.self.inside.entries) c.self.view_is h
