-- The values of all layers, added up, are those of the normal form.
use Rattle.std.proofs.Common.{◌≡◌, ◌∙◌, ◌<◌, ◌++◌, length, take, ap, sym, arith}
use Rattle.std.proofs.lemmas.List.{take_all}
use Rattle.weighted.specs.Alike.{Alike, Alike-is, Alike-trans}
use Rattle.weighted.specs.Batches.{joined}
use Rattle.weighted.specs.Normal.{normal-same}
use Rattle.trace_store.specs.Stored.{Stored}
use Rattle.trace_store.specs.Traces.{accumulated, values_of}
use Rattle.trace_store.specs.TraceLaws.{trace_same, trace_total}
use Rattle.trace_store.proofs.Values.{keyed_values, keyed_values_more, normal_values}
use Rattle.trace_store.proofs.trace.Trace.accumulate.Goals as goal

pub loop-layer-preserved : goal.loop-layer-preserved
loop-layer-preserved g c =
    let low : c.loop-layer.layer-index < length c.as_slice-layer-items.result.now = omega arith in
    c.in_ok-push_values.ensures
    ∙ ap (λ v. v ++ keyed_values g.K.Ord.cmp g.T.Time.leq c.args.key c.args.t c.layer-item.result) c.loop-layer.invariant
    ∙ sym (keyed_values_more g.K.Ord.cmp g.T.Time.leq c.args.key c.args.t c.as_slice-layer-items.result.now c.loop-layer.layer-index c.layer-item.result low c.layer-item.is)

pub returns-clause-value : goal.returns-clause-value
returns-clause-value g c =
    let all : c.loop-layer.values ≡ keyed_values g.K.Ord.cmp g.T.Time.leq c.args.key c.args.t (joined c.self.inside.layers.items) = c.loop-layer.invariant ∙ ap (λ v. keyed_values g.K.Ord.cmp g.T.Time.leq c.args.key c.args.t (joined v)) (take_all c.loop-layer.layer-index c.as_slice-layer-items.result.now (omega arith) ∙ c.as_slice-layer-items.ensures.value) in
    let alike : Alike c.loop-layer.values (values_of g.K.Ord.cmp c.args.key (accumulated g.T.Time.leq c.args.t c.args.self.now.items)) = Alike-trans (Alike-is all) (normal_values g.K.Ord.cmp g.T.Time.leq c.args.key c.args.t g.V.Ord.cmp g.T.Ord.cmp (trace_total g.met.K.Ord.total g.met.V.Ord.total g.met.T.Ord.total) (trace_same g.met.K.Record.same g.met.V.Record.same g.met.T.Record.same) (joined c.self.inside.layers.items) c.args.self.now.items (ap (λ (v : Stored ((g.row.K.Denot × g.row.V.Denot) × g.row.T.Denot)). v.items) c.self.view_is)) in
    c.into_entries.ensures.value ∙ c.in_ok-from_entries.ensures.value ∙ normal-same g.V.Ord.cmp g.met.V.Ord.total g.met.V.Record.same c.loop-layer.values _ alike

pub returns-clause-alike : goal.returns-clause-alike
returns-clause-alike g c =
    let all : c.loop-layer.values ≡ keyed_values g.K.Ord.cmp g.T.Time.leq c.args.key c.args.t (joined c.self.inside.layers.items) = c.loop-layer.invariant ∙ ap (λ v. keyed_values g.K.Ord.cmp g.T.Time.leq c.args.key c.args.t (joined v)) (take_all c.loop-layer.layer-index c.as_slice-layer-items.result.now (omega arith) ∙ c.as_slice-layer-items.ensures.value) in
    let alike : Alike c.loop-layer.values (values_of g.K.Ord.cmp c.args.key (accumulated g.T.Time.leq c.args.t c.args.self.now.items)) = Alike-trans (Alike-is all) (normal_values g.K.Ord.cmp g.T.Time.leq c.args.key c.args.t g.V.Ord.cmp g.T.Ord.cmp (trace_total g.met.K.Ord.total g.met.V.Ord.total g.met.T.Ord.total) (trace_same g.met.K.Record.same g.met.V.Record.same g.met.T.Record.same) (joined c.self.inside.layers.items) c.args.self.now.items (ap (λ (v : Stored ((g.row.K.Denot × g.row.V.Denot) × g.row.T.Denot)). v.items) c.self.view_is)) in
    Alike-trans (Alike-is c.into_entries.ensures.value) (Alike-trans c.in_ok-from_entries.ensures.alike alike)
