-- The entries of one change more.
use Rattle.std.proofs.Common.{◌<◌, ◌+◌, ◌++◌, ◌∙◌, ap, length, get_or, drop, Bool, false, refl}
use Rattle.graph_model.specs.declared.number.EdgeNo.{EdgeNo}
use Rattle.aggregate_views.specs.Coding.{change_entries, edge_entries, signed_entries, IsKnown}
use Rattle.aggregate_views.proofs.Walks.{front_holds, one_more, rest_holds, whole_holds}
use Rattle.aggregate_views.proofs.encoding.Encoding.listed.Goals as goal

abbrev none : EdgeNo × Bool
none = (record { 0 = 0 }, false)

pub push_edge-requires-clause-edge : goal.push_edge-requires-clause-edge
push_edge-requires-clause-edge c = front_holds c.args.changes.now c.loop-e.e-index (get_or c.args.changes.now c.loop-e.e-index none) none c.loop-e-test.true refl (λ d. d.0.0 < length c.args.self.now.graph.now.ends) c.loop-e.invariant.rest

pub loop-e-preserved : goal.loop-e-preserved
loop-e-preserved c =
    let change : EdgeNo × Bool = get_or c.args.changes.now c.loop-e.e-index none in
    record {
      sum = ap (λ v. v ++ change_entries c.args.self.now.graph.now c.args.self.now.places.items c.args.self.now.sum (drop (c.loop-e.e-index + 1) c.args.changes.now)) c.in_ok-push_edge.ensures.entries ∙ one_more c.args.changes.now c.loop-e.e-index change none c.loop-e-test.true refl (change_entries c.args.self.now.graph.now c.args.self.now.places.items c.args.self.now.sum) (signed_entries change.1 (edge_entries c.args.self.now.graph.now c.args.self.now.places.items c.args.self.now.sum change.0.0)) refl c.loop-e.entries.items _ c.loop-e.invariant.sum;
      rest = rest_holds c.args.changes.now c.loop-e.e-index change none c.loop-e-test.true refl (λ d. d.0.0 < length c.args.self.now.graph.now.ends) c.loop-e.invariant.rest;
      known = λ h. c.loop-e.invariant.known (whole_holds c.args.changes.now c.loop-e.e-index change none c.loop-e-test.true refl (λ d. IsKnown c.args.self.now.graph.now c.args.self.now.sum d.0.0) c.in_ok-push_edge.ensures.known h);
    }
