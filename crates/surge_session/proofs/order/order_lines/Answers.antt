-- One more line.
use Rattle.std.proofs.Common.{◌≡◌, ◌∙◌, ◌+◌, ◌<◌, ◌++◌, ◌∷◌, [], ℕ, List, Option, Some, None, length, take, get_or, slice_get, refl, sym, ap, flat_map, sum_by, arith}
use Rattle.std.specs.List.{last_or}
use Rattle.graph_model.specs.declared.number.ViewNo.{ViewNo}
use Rattle.gvdl_check.specs.declared.plan.ViewPlan.{ViewPlan}
use Rattle.view_matrix.specs.Matrices.{place_of}
use Rattle.view_order.specs.Greedy.{numbers}
use Rattle.view_order.specs.Places.{view}
use Rattle.surge_session.specs.Output.{difference, with_distances, order_line}
use Rattle.surge_session.specs.Live.{LiveGraph}
use Rattle.surge_session.specs.State.{shown_graph}
use Rattle.surge_session.proofs.Ordering.{same_distance, distances-append, last-append, one_view_more, line_more, total_more}
use Rattle.surge_session.proofs.Texts.{found}
use Rattle.surge_session.proofs.order.order_lines.Goals as goal

pub loop-number-preserved : goal.loop-number-preserved
loop-number-preserved c =
    let so_far = c.loop-number.invariant in
    let m = c.args.matrix.now in
    let views = c.args.views.now in
    let order = c.args.order.now in
    let k = c.loop-number.number-index in
    let v : ViewNo = get_or order k (view 0) in
    let lt : k < length order = c.loop-number-test.true in
    let nums : List ℕ = numbers (take k order) in
    let w : LiveGraph = shown_graph c.args.graph.now m in
    let distance : Option ℕ → ℕ → ℕ = difference w views in
    let lines : List (ℕ × ℕ) = with_distances distance None nums in
    let more : numbers (take (k + 1) order) ≡ nums ++ v.0 ∷ [] = one_view_more order k (view 0) lt in
    let after : with_distances distance None (numbers (take (k + 1) order)) ≡ lines ++ (v.0, distance (last_or None nums) v.0) ∷ [] = ap (λ (ns : List ℕ). with_distances distance None ns) more ∙ distances-append distance None nums v.0 in
    let far : c.distance-distance.result ≡ distance (last_or None nums) v.0 =
    c.distance-distance.ensures.value ∙ same_distance w m views c.requires.shown c.requires.all (place_of c.loop-number.before) v.0 ∙ ap (λ (b : Option ℕ). distance b v.0) so_far.before in
    let seen : v.0 < length m.columns = c.requires.views k (view 0) lt in
    let item = c.index-views-number.result in
    let at : slice_get views v.0 ≡ Some item = found views views v.0 item refl (omega (arith, seen, c.requires.all)) c.index-views-number.is in
    record {
      text = line_more views lines v.0 c.distance-distance.result (distance (last_or None nums) v.0) c.loop-number.text.items c.push_line.new.text.items c.as_str.result.now item c.in_ok-push_line.ensures so_far.text (c.as_str.ensures ∙ ap (λ (x : ViewPlan). x.name) (sym c.index-views-number.is)) at far
          ∙ ap (flat_map (order_line views)) (sym after);
      total = total_more lines v.0 c.distance-distance.result (distance (last_or None nums) v.0) c.loop-number.total so_far.total far ∙ ap (sum_by (λ (line : ℕ × ℕ). line.1)) (sym after);
      few = omega (arith, so_far.few, c.distance-distance.ensures.limit);
      before = sym (ap (λ (ns : List ℕ). last_or None ns) more ∙ last-append None nums v.0);
      column = seen;
    }
