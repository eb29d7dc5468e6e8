-- One node more, and all.
use Rattle.std.proofs.Common.{◌≡◌, ◌<◌, ◌∙◌, arith, sym, subst, length, map, get_or, true}
use Rattle.std.specs.List.{list_any}
use Rattle.std.specs.Ordering.{is_eq}
use Rattle.std.proofs.lemmas.List.{length-map}
use Rattle.graph_model.specs.GraphData.{Cell, node_cell_of}
use Rattle.aggregate_views.specs.Rows.{cell_order}
use Rattle.aggregate_views.specs.Coding.{key_cell}
use Rattle.aggregate_views.specs.declared.group_key.GroupKey.TheVariants.{Absent}
use Rattle.aggregate_views.proofs.Places.{cells_agree, key_there, one_longer, one_place_more, place_cell}
use Rattle.aggregate_views.proofs.codes.codes_of.Goals as goal

pub place_of-place-requires-clause-there : goal.place_of-place-requires-clause-there
place_of-place-requires-clause-there c =
    let low : c.loop-n.n < length c.args.graph.now.ids = omega (arith, c.loop-n-test.true, c.node_count-n-end.ensures.count) in
    let same : c.as_slice.result.now ≡ c.in_ok-set.set.keys = c.as_slice.ensures.value ∙ c.in_ok-keys.ensures.keys in
    key_there _ c.keys_are_ordered.ensures.total key_cell cell_order c.keys_are_ordered.ensures.cells (node_cell_of c.args.graph.now c.loop-n.n c.args.column) c.key_of-key.result c.as_slice.result.now (c.key_of-key.ensures ∙ c.node_cell.ensures.value)
    (subst (λ ks. list_any (λ k. is_eq (cell_order (node_cell_of c.args.graph.now c.loop-n.n c.args.column) (key_cell k))) ks ≡ true) (sym same) (c.in_ok-set.ensures.has c.loop-n.n low))

pub loop-n-preserved : goal.loop-n-preserved
loop-n-preserved c =
    let here = place_cell _ key_cell c.keys_are_ordered.ensures.cells c.in_ok-keys.keys.items c.as_slice.result.now c.key_of-key.result Absent (node_cell_of c.args.graph.now c.loop-n.n c.args.column) c.place_of-place.result c.as_slice.ensures.value (c.key_of-key.ensures ∙ c.node_cell.ensures.value) c.place_of-place.ensures.within c.place_of-place.ensures.place in
    record {
      count = one_longer c.loop-n.places.items c.push.new.self.items c.place_of-place.result c.loop-n.n c.in_ok-push.ensures.items c.loop-n.invariant.count;
      each = one_place_more c.loop-n.places.items c.push.new.self.items c.loop-n.n c.place_of-place.result (length c.in_ok-keys.keys.items) (map key_cell c.in_ok-keys.keys.items) (λ m. node_cell_of c.args.graph.now m c.args.column) c.in_ok-push.ensures.items c.loop-n.invariant.count here.0 here.1 c.loop-n.invariant.each;
    }

pub returns : goal.returns
returns c = record {
  order = cells_agree _ c.keys_are_ordered.ensures.total key_cell cell_order c.keys_are_ordered.ensures.cells c.in_ok-keys.keys.items c.in_ok-keys.ensures.rise Absent Cell.absent;
  count = omega (arith, c.loop-n.invariant.count, c.loop-n-test.false, c.loop-n.auto.n-end, c.node_count-n-end.ensures.count);
  each = λ n low.
      let e = c.loop-n.invariant.each n (omega (arith, low, c.loop-n-test.false, c.node_count-n-end.ensures.count)) in
      (subst (λ m. get_or c.loop-n.places.items n 0 < m) (sym (length-map c.in_ok-keys.keys.items key_cell)) e.0, e.1);
}
