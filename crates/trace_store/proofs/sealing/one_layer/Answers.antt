-- All layers in one are read later as one.
use Rattle.std.proofs.Common.{◌≡◌, ◌∙◌, [], ◌++◌, ap, sym, append-nil}
use Rattle.weighted.specs.Alike.{Alike, Alike-is, Alike-mapped, Alike-trans}
use Rattle.weighted.specs.Batches.{joined}
use Rattle.weighted.specs.Normal.{normal, normal-same}
use Rattle.weighted.specs.WordLaws.{mapped}
use Rattle.trace_store.specs.Traces.{later, trace_cmp}
use Rattle.trace_store.specs.TraceLaws.{trace_same, trace_total}
use Rattle.trace_store.proofs.Outcomes.{IfOk-imply}
use Rattle.trace_store.proofs.sealing.one_layer.Goals as goal

pub returns : goal.returns
returns g c =
    let cmp = trace_cmp g.K.Ord.cmp g.V.Ord.cmp g.T.Ord.cmp in
    let ls = c.args.layers.now in
    let all : Alike c.in_ok-merged.merged (joined ls) = Alike-trans c.in_ok-merged.ensures.alike (Alike-is (ap (λ v. joined ls ++ v) c.empty.ensures ∙ append-nil (joined ls))) in
    IfOk-imply c.sealed-2.result (λ new is. is ∙ normal-same cmp (trace_total g.met.K.Ord.total g.met.V.Ord.total g.met.T.Ord.total) (trace_same g.met.K.Record.same g.met.V.Record.same g.met.T.Record.same) (mapped (later g.T.Time.lub c.args.f.now) c.in_ok-merged.merged) (mapped (later g.T.Time.lub c.args.f.now) (joined ls)) (Alike-mapped (later g.T.Time.lub c.args.f.now) c.in_ok-merged.merged (joined ls) all)) c.sealed-2.ensures.value
