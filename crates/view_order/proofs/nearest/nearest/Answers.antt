-- One view more.
use Rattle.std.proofs.Common.{◌≡◌, ◌∙◌, ◌+◌, ◌-◌, ◌<◌, ◌≤◌, ℕ, Bool, true, false, List, length, take, drop, get_or, if◌then◌else◌, refl, sym, ap, arith}
use Rattle.std.proofs.lemmas.List.{length-map}
use Rattle.graph_model.specs.declared.number.ViewNo.{ViewNo}
use Rattle.view_matrix.specs.Matrices.{distance_of, place_of}
use Rattle.view_order.specs.declared.nearest.Reached.{Reached}
use Rattle.view_order.specs.Greedy.{is_nearer, nearer, nearest, numbers}
use Rattle.view_order.specs.Places.{view}
use Rattle.view_order.proofs.Tours.{is_told, nearest_more, number_at, read_at}
use Rattle.view_order.proofs.nearest.nearest.Goals as goal
use Rattle.view_order.proofs.nearest.nearest.Goals.{then-is_nearer, else-is_nearer}

pub loop-place-preserved : goal.loop-place-preserved
loop-place-preserved c =
    let views = c.args.views.now in
    let ns = numbers views in
    let d : ℕ → ℕ = distance_of c.args.matrix.now (place_of c.args.before) in
    let p : ℕ = c.loop-place.place in
    let best : ViewNo = c.loop-place.best.view in
    let other : ViewNo = get_or views p (view 0) in
    let invariant = c.loop-place.invariant in
    let lt : p < length views = c.loop-place-test.true in
    let test : is_nearer d other.0 best.0 ≡ c.is_nearer.result =
    is_told d other.0 best.0 c.distance-in-loop-place.result c.loop-place.best.distance c.is_nearer.result c.distance-in-loop-place.ensures.value invariant.distance c.is_nearer.ensures in
    let more : nearer d best.0 other.0 ≡ nearest d (get_or ns 0 0) (take (p + 1 - 1) (drop 1 ns)) = nearest_more d ns p best.0 other.0 invariant.from (omega (arith, lt, length-map views (λ (v : ViewNo). v.0))) (sym (number_at views p (view 0) lt)) invariant.nearest in
    elim c.if-is_nearer.branch [
      | then-is_nearer w ↦
          let now : c.if-is_nearer.best.view ≡ other = ap (λ (b : Reached). b.view) w.best-is in
          record {
            from = omega arith;
            within = omega (arith, w.at-is, lt);
            view = read_at views p c.if-is_nearer.at c.if-is_nearer.best.view (view 0) lt w.at-is now;
            distance = ap (λ (b : Reached). b.distance) w.best-is ∙ c.distance-in-loop-place.ensures.value ∙ ap (λ (v : ViewNo). d v.0) (sym now);
            nearest = ap (λ (v : ViewNo). v.0) now ∙ sym (ap (λ (b : Bool). if b then other.0 else best.0) (test ∙ w.if-is_nearer.true)) ∙ more;
          }
      | else-is_nearer w ↦
          let now : c.if-is_nearer.best.view ≡ best = ap (λ (b : Reached). b.view) w.best-is in
          record {
            from = omega arith;
            within = omega (arith, w.at-is, invariant.within);
            view = read_at views c.loop-place.at c.if-is_nearer.at c.if-is_nearer.best.view best invariant.within w.at-is (now ∙ invariant.view);
            distance = ap (λ (b : Reached). b.distance) w.best-is ∙ invariant.distance ∙ ap (λ (v : ViewNo). d v.0) (sym now);
            nearest = ap (λ (v : ViewNo). v.0) now ∙ sym (ap (λ (b : Bool). if b then other.0 else best.0) (test ∙ w.if-is_nearer.false)) ∙ more;
          }
    ]
