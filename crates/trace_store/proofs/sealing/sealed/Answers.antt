-- One key and value after another, up to the end of the layer.
use Rattle.std.proofs.Common.{◌≡◌, ◌∙◌, ◌++◌, ◌-◌, take, drop, length, ap, sym, subst, arith}
use Rattle.std.proofs.lemmas.Map.Lookups.{exact_pairs}
use Rattle.weighted.specs.Batches.{IsBatch}
use Rattle.weighted.specs.Normal.{normal-only}
use Rattle.weighted.specs.WordLaws.{mapped}
use Rattle.trace_store.specs.Traces.{in_turn, later, trace_cmp}
use Rattle.trace_store.specs.TraceLaws.{in_turn-total, trace_same, trace_total}
use Rattle.trace_store.proofs.Groups.{Sealing, sealing_alike, sealing_batch, sealing_start, sealing_step}
use Rattle.trace_store.proofs.Places.{read_at}
use Rattle.trace_store.proofs.sealing.sealed.Goals as goal

pub loop-start-init : goal.loop-start-init
loop-start-init g c = record {
  bound = omega arith;
  room = omega (arith, c.in_ok-reserve.ensures.ok, c.len.ensures.value);
  walk = subst (λ es. Sealing (in_turn g.K.Ord.cmp g.V.Ord.cmp) g.T.Ord.cmp g.T.Time.lub c.args.f.now es c.args.layer.now 0) (sym (c.reserve.ensures.items ∙ ap (λ l. l.items) c.new-made.ensures)) (sealing_start (in_turn g.K.Ord.cmp g.V.Ord.cmp) g.T.Ord.cmp (in_turn-total g.met.K.Ord.total g.met.V.Ord.total) (exact_pairs g.K.Ord.cmp g.V.Ord.cmp g.met.K.Record.same g.met.V.Record.same) g.T.Time.lub c.args.f.now g.met.T.Ord.total g.met.T.Record.same c.args.layer.now);
}

pub loop-start-preserved : goal.loop-start-preserved
loop-start-preserved g c =
    let es = c.args.layer.now in
    let step = sealing_step (in_turn g.K.Ord.cmp g.V.Ord.cmp) g.T.Ord.cmp (in_turn-total g.met.K.Ord.total g.met.V.Ord.total) (exact_pairs g.K.Ord.cmp g.V.Ord.cmp g.met.K.Record.same g.met.V.Record.same) g.T.Time.lub c.args.f.now g.met.T.Ord.total g.met.T.Record.same c.loop-start.made.items es c.loop-start.start c.group_end-end.result c.get.result c.len.ensures.batch.rising c.get.ensures c.group_end-end.ensures.bound.0 c.group_end-end.ensures.bound.1 c.group_end-end.ensures.group c.group_end-end.ensures.end c.loop-start.invariant.walk in
    let made = c.in_ok-push_group.ensures.items c.get.result (sym (read_at es c.loop-start.start c.get.result c.get.result c.get.ensures)) in
    record {
      bound = c.group_end-end.ensures.bound.1;
      room = c.in_ok-push_group.ensures.room;
      walk = subst (λ v. Sealing (in_turn g.K.Ord.cmp g.V.Ord.cmp) g.T.Ord.cmp g.T.Time.lub c.args.f.now v es c.group_end-end.result) (sym made) step;
    }

pub from_entries-requires : goal.from_entries-requires
from_entries-requires g c = sealing_batch (in_turn g.K.Ord.cmp g.V.Ord.cmp) g.T.Ord.cmp (in_turn-total g.met.K.Ord.total g.met.V.Ord.total) (exact_pairs g.K.Ord.cmp g.V.Ord.cmp g.met.K.Record.same g.met.V.Record.same) g.T.Time.lub c.args.f.now g.met.T.Ord.total g.met.T.Record.same c.loop-start.made.items c.args.layer.now c.loop-start.start (omega arith) c.loop-start.invariant.walk

pub returns : goal.returns
returns g c =
    let cmp = trace_cmp g.K.Ord.cmp g.V.Ord.cmp g.T.Ord.cmp in
    let es = c.args.layer.now in
    let batch = sealing_batch (in_turn g.K.Ord.cmp g.V.Ord.cmp) g.T.Ord.cmp (in_turn-total g.met.K.Ord.total g.met.V.Ord.total) (exact_pairs g.K.Ord.cmp g.V.Ord.cmp g.met.K.Record.same g.met.V.Record.same) g.T.Time.lub c.args.f.now g.met.T.Ord.total g.met.T.Record.same c.loop-start.made.items es c.loop-start.start (omega arith) c.loop-start.invariant.walk in
    let alike = sealing_alike (in_turn g.K.Ord.cmp g.V.Ord.cmp) g.T.Ord.cmp (in_turn-total g.met.K.Ord.total g.met.V.Ord.total) (exact_pairs g.K.Ord.cmp g.V.Ord.cmp g.met.K.Record.same g.met.V.Record.same) g.T.Time.lub c.args.f.now g.met.T.Ord.total g.met.T.Record.same c.loop-start.made.items es c.loop-start.start (omega arith) c.loop-start.invariant.walk in
    record { value = c.from_entries.ensures ∙ normal-only cmp (trace_total g.met.K.Ord.total g.met.V.Ord.total g.met.T.Ord.total) (trace_same g.met.K.Record.same g.met.V.Record.same g.met.T.Record.same) c.loop-start.made.items (mapped (later g.T.Time.lub c.args.f.now) es) batch.rising batch.weighty alike }
