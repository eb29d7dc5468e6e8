-- One more line.
use Rattle.std.proofs.Common.{◌≡◌, ◌∙◌, ◌++◌, ◌<◌, ℕ, List, [], Option, None, Some, length, map, get_or, slice_get, All, refl, sym, ap, subst, arith}
use Rattle.std.specs.List.{range_with_len}
use Rattle.std.proofs.lemmas.Option.{slice_get_within}
use Rattle.graph_model.specs.declared.number.ViewNo.{ViewNo}
use Rattle.gvdl_check.specs.declared.plan.ViewPlan.{ViewPlan}
use Rattle.view_matrix.specs.Matrices.{place_of, IsView}
use Rattle.view_order.specs.Greedy.{numbers}
use Rattle.view_order.specs.Places.{view}
use Rattle.tree_order.specs.Trees.{Branch, tree_walk}
use Rattle.surge_session.specs.Output.{branch_line, difference}
use Rattle.surge_session.specs.Live.{LiveGraph}
use Rattle.surge_session.specs.State.{shown_graph}
use Rattle.surge_session.proofs.Growing.{grown}
use Rattle.surge_session.proofs.Ordering.{same_distance}
use Rattle.surge_session.proofs.Texts.{found}
use Rattle.surge_session.proofs.TreePlaces.{branch_at, tree_line}
use Rattle.surge_session.proofs.tree.tree_lines.Goals as goal

pub loop-i-preserved : goal.loop-i-preserved
loop-i-preserved c =
    let m = c.args.matrix.now in
    let views = c.args.views.now in
    let w : LiveGraph = shown_graph c.args.graph.now m in
    let distance : Option ℕ → ℕ → ℕ = difference w views in
    let walk : List Branch = tree_walk distance (range_with_len 0 (length views)) in
    let order : List ViewNo = c.as_slice-order.result.now in
    let parents : List (Option ViewNo) = c.as_slice-parents.result.now in
    let i = c.loop-i.i in
    let v : ViewNo = get_or order i (view 0) in
    let parent : Option ViewNo = get_or parents i None in
    let lt : i < length order = c.loop-i-test.true in
    let b = branch_at walk order parents i (view 0) None (ap numbers c.as_slice-order.ensures ∙ c.requires.order) (ap (λ (ps : List (Option ViewNo)). map place_of ps) c.as_slice-parents.ensures ∙ c.requires.parents) lt in
    let item = c.index-views-view.result in
    let all : All (IsView m) order = subst (λ (vs : List ViewNo). All (IsView m) vs) (sym c.as_slice-order.ensures) c.requires.views in
    let seen : v.0 < length m.columns = all i (view 0) lt in
    let at : slice_get views v.0 ≡ Some item = found views views v.0 item refl (omega (arith, seen, c.requires.all)) c.index-views-view.is in
    record {
      text = grown (branch_line distance views) walk i b.0 [] c.loop-i.text.items c.push_line.new.text.items (slice_get_within walk i b.0 b.1) b.1 c.loop-i.invariant.text
          (c.in_ok-push_line.ensures
          ∙ ap (λ (t : List ℕ). c.loop-i.text.items ++ t)
          (tree_line distance views b.0 v parent item c.as_str.result.now c.point_name.result.now c.distance-distance.result b.2 b.3 at (c.as_str.ensures ∙ ap (λ (x : ViewPlan). x.name) (sym c.index-views-view.is)) c.point_name.ensures
          (c.distance-distance.ensures.value ∙ same_distance w m views c.requires.shown c.requires.all (place_of parent) v.0)));
    }
