-- One change more in the table.
use Rattle.std.proofs.Common.{◌≡◌, ◌<◌, ◌+◌, ◌*◌, ◌++◌, arith, ap, sym, subst, ◌∙◌, length, get_or, replicate, Bool, false, refl}
use Rattle.std.proofs.lemmas.List.{length-set}
use Rattle.weighted.specs.Alike.{Alike}
use Rattle.graph_model.specs.declared.number.EdgeNo.{EdgeNo}
use Rattle.aggregate_views.specs.Coding.{change_entries, IsKnown}
use Rattle.aggregate_views.specs.Tables.{no_weights, table_entries}
use Rattle.aggregate_views.proofs.Tabled.{empty_table, one_change_less, place_in_table, place_is}
use Rattle.aggregate_views.proofs.Walks.{rest_holds, whole_holds}
use Rattle.aggregate_views.proofs.encoding.Encoding.tabled.Goals as goal

pub loop-e-init : goal.loop-e-init
loop-e-init c =
    let size : length c.in_ok-table.table.items ≡ c.args.self.now.groups * c.args.self.now.groups = omega (arith, c.in_ok-table.ensures.len, c.in_ok-table.table.ok) in
    let none : c.in_ok-table.table.items ≡ replicate (c.args.self.now.groups * c.args.self.now.groups) no_weights = c.in_ok-table.ensures.items_if_clones_equal (λ y h. h) ∙ ap (replicate (c.args.self.now.groups * c.args.self.now.groups)) c.new.ensures in
    record {
      size = size;
      sum = subst (λ v. Alike (table_entries c.args.self.now.groups 0 v ++ change_entries c.args.self.now.graph.now c.args.self.now.places.items c.args.self.now.sum c.args.changes.now) (change_entries c.args.self.now.graph.now c.args.self.now.places.items c.args.self.now.sum c.args.changes.now)) (sym none) (empty_table c.args.self.now.groups (c.args.self.now.groups * c.args.self.now.groups) (change_entries c.args.self.now.graph.now c.args.self.now.places.items c.args.self.now.sum c.args.changes.now));
      rest = c.requires.edges;
      known = λ h. h;
    }

pub index_mut-requires : goal.index_mut-requires
index_mut-requires c =
    let place = place_in_table c.args.self.now.graph.now c.args.self.now.places.items c.args.self.now.groups c.requires.groups _ c.pair-pair.ensures.from c.pair-pair.ensures.to c.pair-pair.result c.pair-pair.ensures.pair in
    omega (arith, place, c.loop-e.invariant.size, c.loop-e.table.ok)

abbrev none : EdgeNo × Bool
none = (record { 0 = 0 }, false)

pub loop-e-preserved : goal.loop-e-preserved
loop-e-preserved c =
    let low : c.loop-e.e-index < length c.args.changes.now = c.loop-e-test.true in
    let change : EdgeNo × Bool = get_or c.args.changes.now c.loop-e.e-index none in
    let place = place_in_table c.args.self.now.graph.now c.args.self.now.places.items c.args.self.now.groups c.requires.groups change.0.0 c.pair-pair.ensures.from c.pair-pair.ensures.to c.pair-pair.result c.pair-pair.ensures.pair in
    let is = place_is c.args.self.now.graph.now c.args.self.now.places.items c.args.self.now.groups c.requires.groups change.0.0 c.pair-pair.ensures.from c.pair-pair.ensures.to c.pair-pair.result c.pair-pair.ensures.pair in
    record {
      size = length-set c.loop-e.table.items (c.pair-pair.result.0 * c.args.self.now.groups + c.pair-pair.result.1) c.with.result ∙ c.loop-e.invariant.size;
      sum = one_change_less c.args.self.now.groups c.loop-e.e-index (c.pair-pair.result.0 * c.args.self.now.groups + c.pair-pair.result.1) c.loop-e.table.items _ c.index.result.now c.weights.result c.with.result c.args.changes.now change none c.args.self.now.graph.now c.args.self.now.places.items c.args.self.now.sum _ low refl (omega (arith, place, c.loop-e.invariant.size)) is c.index.ensures c.weights.ensures.weights c.with.ensures c.loop-e.invariant.sum;
      rest = rest_holds c.args.changes.now c.loop-e.e-index change none low refl (λ d. d.0.0 < length c.args.self.now.graph.now.ends) c.loop-e.invariant.rest;
      known = λ h. c.loop-e.invariant.known (whole_holds c.args.changes.now c.loop-e.e-index change none low refl (λ d. IsKnown c.args.self.now.graph.now c.args.self.now.sum d.0.0) (record { from = c.pair-pair.ensures.from; to = c.pair-pair.ensures.to; number = c.weights.ensures.number }) h);
    }
