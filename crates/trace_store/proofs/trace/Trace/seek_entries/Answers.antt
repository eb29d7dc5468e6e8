-- The entries of all layers, added up, are those of the normal form, with its values and times.
use Rattle.std.proofs.Common.{◌≡◌, ◌∙◌, ◌<◌, ◌++◌, length, take, map, ap, sym, subst, arith}
use Rattle.std.proofs.lemmas.List.{take_all}
use Rattle.std.specs.Cmp.{tied_itself}
use Rattle.std.specs.List.{Contains}
use Rattle.std.specs.Ordering.{is_eq}
use Rattle.weighted.specs.Batches.{IsBatch, IsBatch-normal, joined}
use Rattle.weighted.specs.Normal.{normal}
use Rattle.weighted.specs.SumLaws.{filtered}
use Rattle.trace_store.specs.Stored.{Stored}
use Rattle.trace_store.specs.Traces.{trace_cmp}
use Rattle.trace_store.specs.TraceLaws.{trace_same, trace_total}
use Rattle.trace_store.proofs.Changes.{filtered-normal}
use Rattle.trace_store.proofs.Keys.{keyed}
use Rattle.trace_store.proofs.Times.{each_time, only_times}
use Rattle.trace_store.proofs.Values.{filtered_more, values, values_are}
use Rattle.trace_store.proofs.trace.Trace.seek_entries.Goals as goal

pub loop-layer-preserved : goal.loop-layer-preserved
loop-layer-preserved g c =
    let low : c.loop-layer.layer-index < length c.as_slice-layer-items.result.now = omega arith in
    c.in_ok-push_run.ensures
    ∙ ap (λ v. c.loop-layer.entries ++ v) c.in_ok-run.ensures.run
    ∙ ap (λ v. v ++ filtered (keyed g.K.Ord.cmp c.args.key) c.layer-item.result) c.loop-layer.invariant
    ∙ sym (filtered_more g.K.Ord.cmp c.args.key c.as_slice-layer-items.result.now c.loop-layer.layer-index c.layer-item.result low c.layer-item.is)

pub returns-clause-entries : goal.returns-clause-entries
returns-clause-entries g c =
    let cmp = trace_cmp g.K.Ord.cmp g.V.Ord.cmp g.T.Ord.cmp in
    let all : c.loop-layer.entries ≡ filtered (keyed g.K.Ord.cmp c.args.key) (joined c.self.inside.layers.items) = c.loop-layer.invariant ∙ ap (λ v. filtered (keyed g.K.Ord.cmp c.args.key) (joined v)) (take_all c.loop-layer.layer-index c.as_slice-layer-items.result.now (omega arith) ∙ c.as_slice-layer-items.ensures.value) in
    c.into_entries.ensures.value ∙ c.in_ok-from_entries.ensures.value ∙ ap (normal cmp) all
    ∙ filtered-normal cmp (trace_total g.met.K.Ord.total g.met.V.Ord.total g.met.T.Ord.total) (trace_same g.met.K.Record.same g.met.V.Record.same g.met.T.Record.same) (keyed g.K.Ord.cmp c.args.key) (joined c.self.inside.layers.items)
    ∙ ap (λ (v : Stored ((g.row.K.Denot × g.row.V.Denot) × g.row.T.Denot)). filtered (keyed g.K.Ord.cmp c.args.key) v.items) c.self.view_is

pub returns-clause-values : goal.returns-clause-values
returns-clause-values g c = λ t. values_are g.K.Ord.cmp g.T.Time.leq c.args.key t c.args.self.now.items ∙ ap (values g.K.Ord.cmp g.T.Time.leq c.args.key t) (sym (returns-clause-entries g c))

pub returns-clause-only : goal.returns-clause-only
returns-clause-only g c = λ s h.
    let order = trace_total g.met.K.Ord.total g.met.V.Ord.total g.met.T.Ord.total in
    let same = trace_same g.met.K.Record.same g.met.V.Record.same g.met.T.Record.same in
    let batch : IsBatch (trace_cmp g.K.Ord.cmp g.V.Ord.cmp g.T.Ord.cmp) c.args.self.now.items = subst (λ (v : Stored ((g.row.K.Denot × g.row.V.Denot) × g.row.T.Denot)). IsBatch (trace_cmp g.K.Ord.cmp g.V.Ord.cmp g.T.Ord.cmp) v.items) c.self.view_is (IsBatch-normal (trace_cmp g.K.Ord.cmp g.V.Ord.cmp g.T.Ord.cmp) order same (joined c.self.inside.layers.items)) in
    only_times g.K.Ord.cmp g.V.Ord.cmp g.T.Ord.cmp c.args.key order same (ap is_eq (tied_itself g.met.K.Ord.total c.args.key)) g.met.K.Record.same c.args.self.now.items s batch.rising batch.weighty (subst (λ es. Contains (map (λ e. e.0.1) es) s) (returns-clause-entries g c) h)

pub returns-clause-each : goal.returns-clause-each
returns-clause-each g c = λ s h.
    let order = trace_total g.met.K.Ord.total g.met.V.Ord.total g.met.T.Ord.total in
    let same = trace_same g.met.K.Record.same g.met.V.Record.same g.met.T.Record.same in
    subst (λ es. Contains (map (λ e. e.0.1) es) s) (sym (returns-clause-entries g c)) (each_time g.K.Ord.cmp g.V.Ord.cmp g.T.Ord.cmp c.args.key order same (ap is_eq (tied_itself g.met.K.Ord.total c.args.key)) c.args.self.now.items s h)
