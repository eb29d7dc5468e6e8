-- Layers that halve are few.
use Rattle.std.proofs.Common.{◌≡◌, ◌∙◌, ◌+◌, ◌≤◌, ◌^◌, length, ap, sym, subst}
use Rattle.weighted.specs.Batches.{joined}
use Rattle.trace_store.specs.Stored.{Stored}
use Rattle.trace_store.proofs.Joined.{few}
use Rattle.trace_store.proofs.trace.Trace.layers.Goals as goal

pub returns-clause-bound : goal.returns-clause-bound
returns-clause-bound g c =
    let ls = c.self.inside.layers.items in
    let h : 2 ^ length ls ≤ length (joined ls) + 1 = few ls c.self.invariant.1 in
    let n : c.args.self.now.entries ≡ length (joined ls) = sym (ap (λ (v : Stored ((g.row.K.Denot × g.row.V.Denot) × g.row.T.Denot)). v.entries) c.self.view_is) ∙ c.self.invariant.0 in
    subst (λ k. 2 ^ c.len.result ≤ k + 1) (sym n) (subst (λ k. 2 ^ k ≤ length (joined ls) + 1) (sym (c.len.ensures ∙ c.self.inside.layers.ok.0)) h)
