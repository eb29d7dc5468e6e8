-- The texts of the views whose turn has come are there.
use Rattle.std.proofs.Common.{◌≡◌, ◌∙◌, ◌+◌, ◌-◌, ◌<◌, ℕ, List, Some, length, map, get_or, All, slice_get, refl, sym, ap, subst, arith}
use Rattle.std.specs.Prelude.{IsPermutation}
use Rattle.std.specs.List.{range_with_len}
use Rattle.std.proofs.Math.ListN.{length-set}
use Rattle.std.proofs.lemmas.List.FromFn.{length-map-range_with_len}
use Rattle.std.proofs.lemmas.List.Sorted.{All-permutation, length_permutation}
use Rattle.graph_model.specs.declared.number.ViewNo.{ViewNo}
use Rattle.gvdl_check.specs.declared.plan.ViewPlan.{ViewPlan}
use Rattle.view_matrix.specs.Matrices.{edges_in, IsView}
use Rattle.view_order.specs.Places.{view}
use Rattle.surge_session.specs.Aggregates.{aggregate_text}
use Rattle.surge_session.specs.Grouping.{AreGroupsOf}
use Rattle.surge_session.specs.Live.{LiveGraph, live_edges}
use Rattle.surge_session.specs.State.{shown_graph}
use Rattle.surge_session.proofs.Grouping.{there_next, all_turned, view_text_is}
use Rattle.surge_session.proofs.Texts.{found}
use Rattle.surge_session.proofs.groups.all_groups.Goals as goal

pub turn_groups-requires-clause-number : goal.turn_groups-requires-clause-number
turn_groups-requires-clause-number c =
    let m = c.args.matrix.now in
    let declared : All (IsView m) c.as_slice.result.now = subst (λ (vs : List ViewNo). All (IsView m) vs) (sym c.as_slice.ensures) c.in_ok-declared.ensures.within in
    let all : All (IsView m) c.as_slice-order.result.now =
    subst (λ (vs : List ViewNo). All (IsView m) vs) (sym c.as_slice-order.ensures) (All-permutation (IsView m) c.as_slice.result.now c.in_ok-greedily.greedily c.in_ok-greedily.ensures.each declared) in
    let seen : (get_or c.as_slice-order.result.now c.loop-i.i (view 0)).0 < length m.columns = all c.loop-i.i (view 0) c.loop-i-test.true in
    seen

pub turn_groups-requires-clause-few : goal.turn_groups-requires-clause-few
turn_groups-requires-clause-few c =
    let m = c.args.matrix.now in
    let declared : c.as_slice.result.now ≡ map view (range_with_len 0 (length m.columns - 0)) = c.as_slice.ensures ∙ c.in_ok-declared.ensures.views in
    omega (
      arith,
      c.loop-i.invariant.groups.applied,
      c.loop-i-test.true,
      ap (λ (vs : List ViewNo). length vs) c.as_slice-order.ensures,
      length_permutation c.as_slice.result.now c.in_ok-greedily.greedily c.in_ok-greedily.ensures.each,
      ap (λ (vs : List ViewNo). length vs) declared,
      length-map-range_with_len view 0 (length m.columns - 0),
      c.views-all.ensures.count,
      c.views-all.ensures.limit,
    )

pub bounds-views-place : goal.bounds-views-place
bounds-views-place c =
    let m = c.args.matrix.now in
    let declared : All (IsView m) c.as_slice.result.now = subst (λ (vs : List ViewNo). All (IsView m) vs) (sym c.as_slice.ensures) c.in_ok-declared.ensures.within in
    let all : All (IsView m) c.as_slice-order.result.now =
    subst (λ (vs : List ViewNo). All (IsView m) vs) (sym c.as_slice-order.ensures) (All-permutation (IsView m) c.as_slice.result.now c.in_ok-greedily.greedily c.in_ok-greedily.ensures.each declared) in
    let seen : (get_or c.as_slice-order.result.now c.loop-i.i (view 0)).0 < length m.columns = all c.loop-i.i (view 0) c.loop-i-test.true in
    omega (arith, seen, c.requires.all)

pub index_mut-requires : goal.index_mut-requires
index_mut-requires c =
    let m = c.args.matrix.now in
    let declared : All (IsView m) c.as_slice.result.now = subst (λ (vs : List ViewNo). All (IsView m) vs) (sym c.as_slice.ensures) c.in_ok-declared.ensures.within in
    let all : All (IsView m) c.as_slice-order.result.now =
    subst (λ (vs : List ViewNo). All (IsView m) vs) (sym c.as_slice-order.ensures) (All-permutation (IsView m) c.as_slice.result.now c.in_ok-greedily.greedily c.in_ok-greedily.ensures.each declared) in
    let seen : (get_or c.as_slice-order.result.now c.loop-i.i (view 0)).0 < length m.columns = all c.loop-i.i (view 0) c.loop-i-test.true in
    omega (arith, seen, c.requires.all, c.loop-i.invariant.count, c.loop-i.texts.ok.0)

pub loop-i-preserved : goal.loop-i-preserved
loop-i-preserved c =
    let m = c.args.matrix.now in
    let declared : All (IsView m) c.as_slice.result.now = subst (λ (vs : List ViewNo). All (IsView m) vs) (sym c.as_slice.ensures) c.in_ok-declared.ensures.within in
    let all : All (IsView m) c.as_slice-order.result.now =
    subst (λ (vs : List ViewNo). All (IsView m) vs) (sym c.as_slice-order.ensures) (All-permutation (IsView m) c.as_slice.result.now c.in_ok-greedily.greedily c.in_ok-greedily.ensures.each declared) in
    let seen : (get_or c.as_slice-order.result.now c.loop-i.i (view 0)).0 < length m.columns = all c.loop-i.i (view 0) c.loop-i-test.true in
    let views = c.args.views.now in
    let w : LiveGraph = shown_graph c.args.graph.now m in
    let text : ViewPlan → List ℕ = aggregate_text w c.args.grouping.by c.args.grouping.sum c.args.collection.now in
    let order : List ViewNo = c.as_slice-order.result.now in
    let v : ViewNo = get_or order c.loop-i.i (view 0) in
    let item = c.index-views-place.result in
    let at : slice_get views v.0 ≡ Some item = found views views v.0 item refl (omega (arith, seen, c.requires.all)) c.index-views-place.is in
    let shown : edges_in m v.0 ≡ live_edges w item.rule = ap (edges_in m) (let e : v.0 ≡ 0 + v.0 = omega arith in e) ∙ (c.requires.shown v.0 item at).1 in
    let is = c.loop-i.invariant.groups in
    let turn = c.in_ok-turn_groups.ensures in
    let turned : AreGroupsOf c.args.graph.now c.args.grouping.by c.args.grouping.sum m (Some v.0) (c.loop-i.i + 1) c.turn_groups.new.groups =
    record {
      graph = turn.graph ∙ is.graph;
      column = turn.column ∙ is.column;
      sum = turn.sum ∙ is.sum;
      present = turn.present;
      applied = turn.applied ∙ ap (λ (k : ℕ). k + 1) is.applied;
      fresh = turn.live;
    } in
    let named : c.as_str-name.result.now ≡ item.name = c.as_str-name.ensures ∙ ap (λ (x : ViewPlan). x.name) (sym c.index-views-place.is) in
    let written : c.in_ok-text.text ≡ text item =
    c.in_ok-text.ensures
    ∙ view_text_is c.args.graph.now m v.0 c.args.grouping.by c.args.grouping.sum (c.loop-i.i + 1) c.turn_groups.new.groups turned item shown c.args.collection.now c.as_str-name.result.now c.as_slice-in-loop-i.result.now named (c.as_slice-in-loop-i.ensures.value ∙ c.in_ok-grouped.ensures) in
    record {
      count = length-set c.loop-i.texts.items v.0 c.in_ok-text.text ∙ c.loop-i.invariant.count;
      groups = turned;
      before = seen;
      there = there_next text views c.loop-i.texts.items order c.loop-i.i (view 0) item c.in_ok-text.text c.loop-i.invariant.count c.loop-i-test.true at written c.loop-i.invariant.there;
    }

pub returns : goal.returns
returns c =
    let m = c.args.matrix.now in
    let views = c.args.views.now in
    let w : LiveGraph = shown_graph c.args.graph.now m in
    let text : ViewPlan → List ℕ = aggregate_text w c.args.grouping.by c.args.grouping.sum c.args.collection.now in
    let columns : length m.columns - 0 ≡ length views = omega (arith, c.requires.all) in
    let declared : c.as_slice.result.now ≡ map view (range_with_len 0 (length views)) = c.as_slice.ensures ∙ c.in_ok-declared.ensures.views ∙ ap (λ (k : ℕ). map view (range_with_len 0 k)) columns in
    let each : IsPermutation c.as_slice.result.now c.as_slice-order.result.now = subst (λ (vs : List ViewNo). IsPermutation c.as_slice.result.now vs) (sym c.as_slice-order.ensures) c.in_ok-greedily.ensures.each in
    all_turned text views c.loop-i.texts.items c.as_slice.result.now c.as_slice-order.result.now c.loop-i.i c.loop-i.invariant.count declared each c.loop-i-test.false c.loop-i.invariant.there
