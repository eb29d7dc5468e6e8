-- The entries of all layers, added up, are those of the normal form.
use Rattle.std.proofs.Common.{◌≡◌, ◌∙◌, ◌<◌, ◌++◌, length, take, ap, sym, arith}
use Rattle.std.proofs.lemmas.List.{take_all}
use Rattle.weighted.specs.Batches.{joined}
use Rattle.weighted.specs.Normal.{normal}
use Rattle.weighted.specs.SumLaws.{filtered}
use Rattle.trace_store.specs.Stored.{Stored}
use Rattle.trace_store.specs.Traces.{trace_cmp}
use Rattle.trace_store.specs.TraceLaws.{trace_same, trace_total}
use Rattle.trace_store.proofs.Changes.{filtered-normal}
use Rattle.trace_store.proofs.Keys.{keyed}
use Rattle.trace_store.proofs.Values.{filtered_more}
use Rattle.trace_store.proofs.trace.Trace.entries_of.Goals as goal

pub loop-layer-preserved : goal.loop-layer-preserved
loop-layer-preserved g c =
    let low : c.loop-layer.layer-index < length c.as_slice-layer-items.result.now = omega arith in
    c.in_ok-push_entries.ensures
    ∙ ap (λ v. v ++ filtered (keyed g.K.Ord.cmp c.args.key) c.layer-item.result) c.loop-layer.invariant
    ∙ sym (filtered_more g.K.Ord.cmp c.args.key c.as_slice-layer-items.result.now c.loop-layer.layer-index c.layer-item.result low c.layer-item.is)

pub returns : goal.returns
returns g c =
    let cmp = trace_cmp g.K.Ord.cmp g.V.Ord.cmp g.T.Ord.cmp in
    let all : c.loop-layer.entries ≡ filtered (keyed g.K.Ord.cmp c.args.key) (joined c.self.inside.layers.items) = c.loop-layer.invariant ∙ ap (λ v. filtered (keyed g.K.Ord.cmp c.args.key) (joined v)) (take_all c.loop-layer.layer-index c.as_slice-layer-items.result.now (omega arith) ∙ c.as_slice-layer-items.ensures.value) in
    c.into_entries.ensures.value ∙ c.in_ok-from_entries.ensures.value ∙ ap (normal cmp) all
    ∙ filtered-normal cmp (trace_total g.met.K.Ord.total g.met.V.Ord.total g.met.T.Ord.total) (trace_same g.met.K.Record.same g.met.V.Record.same g.met.T.Record.same) (keyed g.K.Ord.cmp c.args.key) (joined c.self.inside.layers.items)
    ∙ ap (λ (v : Stored ((g.row.K.Denot × g.row.V.Denot) × g.row.T.Denot)). filtered (keyed g.K.Ord.cmp c.args.key) v.items) c.self.view_is
