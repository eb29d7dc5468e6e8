-- The nearest view comes next, and the order of those that are left behind it.
use Rattle.std.proofs.Common.{◌≡◌, ◌∙◌, ◌++◌, ◌∷◌, ◌<◌, [], ℕ, suc, List, Option, Some, length, drop, get_or, refl, sym, ap, ap₂, subst, arith, append_assoc}
use Rattle.std.specs.Prelude.{All, IsPermutation}
use Rattle.std.specs.List.{remove}
use Rattle.std.proofs.lemmas.List.{map-append, length-map}
use Rattle.std.proofs.lemmas.List.Sorted.{IsPermutation-refl, IsPermutation-more, IsPermutation-remove, All-permutation}
use Rattle.graph_model.specs.declared.number.ViewNo.{ViewNo}
use Rattle.view_matrix.specs.Matrices.{MatrixData, distance_of, place_of, IsView}
use Rattle.view_order.specs.Greedy.{greedy, nearest, numbers}
use Rattle.view_order.proofs.Tours.{AreApart, apart_left, apart_views, number_at, numbers_left, tour_next}
use Rattle.view_order.proofs.order.greedy.Goals as goal

pub loop-last-init : goal.loop-last-init
loop-last-init c =
    let m = c.args.matrix.now in
    let views = c.args.views.now in
    let all : c.in_ok-rest.rest.items ≡ views = c.in_ok-rest.ensures.items in
    let none : c.new-order.result ≡ [] = c.new-order.ensures in
    record {
      order = ap₂ (λ (xs ys : List ViewNo). numbers xs ++ greedy (distance_of m) (place_of c.args.before) (numbers ys)) none all;
      each = subst (IsPermutation views) (sym (ap₂ (λ (xs ys : List ViewNo). xs ++ ys) none all)) (IsPermutation-refl views);
      column = c.requires.before;
      views = subst (All (IsView m)) (sym all) c.requires.views;
      distinct = subst (λ (xs : List ViewNo). AreApart (numbers xs)) (sym all) (apart_views views c.requires.distinct);
    }

behind : (m : MatrixData) (first : ViewNo) (others : List ViewNo) → All (IsView m) (first ∷ others) → All (IsView m) others
behind m first others all k d lt = all (suc k) d (omega (arith, lt))

pub loop-last-preserved : goal.loop-last-preserved
loop-last-preserved c =
    let m = c.args.matrix.now in
    let invariant = c.loop-last.invariant in
    let rest : List ViewNo = c.loop-last.rest.items in
    let i : ℕ = c.nearest.result in
    let next : ViewNo = c.remove-next.result in
    let d : Option ℕ → ℕ → ℕ = distance_of m in
    let within : i < length rest = omega (arith, c.nearest.ensures.within, ap (λ (xs : List ViewNo). length xs) c.as_slice.ensures.value) in
    let is : get_or (numbers rest) i 0 ≡ next.0 = number_at rest i next within ∙ ap (λ (v : ViewNo). v.0) (sym c.remove-next.ensures.value) in
    let counted : i < length (numbers rest) = omega (arith, within, length-map rest (λ (v : ViewNo). v.0)) in
    let nearest_is : get_or (numbers rest) i 0 ≡ nearest (d (place_of c.loop-last.last)) (get_or (numbers rest) 0 0) (drop 1 (numbers rest)) =
    subst (λ (xs : List ViewNo). get_or (numbers xs) i 0 ≡ nearest (d (place_of c.loop-last.last)) (get_or (numbers xs) 0 0) (drop 1 (numbers xs))) c.as_slice.ensures.value c.nearest.ensures.nearest in
    let left : c.remove-next.new.self.items ≡ remove rest i = c.remove-next.ensures.items in
    let left_numbers : numbers c.remove-next.new.self.items ≡ remove (numbers rest) i = ap numbers left ∙ numbers_left rest i in
    let grown : c.push.new.self ≡ c.loop-last.order ++ next ∷ [] = c.in_ok-push.ensures.ok in
    let step : greedy d (place_of c.loop-last.last) (numbers rest) ≡ next.0 ∷ greedy d (Some next.0) (numbers c.remove-next.new.self.items) =
    tour_next d (place_of c.loop-last.last) (numbers rest) i counted invariant.distinct nearest_is
    ∙ ap₂ (λ (n : ℕ) (ns : List ℕ). n ∷ greedy d (Some n) ns) is (sym left_numbers) in
    record {
      order =
          ap (λ (xs : List ViewNo). numbers xs ++ greedy d (Some next.0) (numbers c.remove-next.new.self.items)) grown
          ∙ ap (λ (ns : List ℕ). ns ++ greedy d (Some next.0) (numbers c.remove-next.new.self.items)) (map-append (λ (v : ViewNo). v.0) c.loop-last.order (next ∷ []))
          ∙ append_assoc (numbers c.loop-last.order) (next.0 ∷ []) (greedy d (Some next.0) (numbers c.remove-next.new.self.items))
          ∙ ap (λ (ns : List ℕ). numbers c.loop-last.order ++ ns) (sym step) ∙ invariant.order;
      each = subst (IsPermutation c.args.views.now) (sym (ap₂ (λ (xs ys : List ViewNo). xs ++ ys) grown left)) (IsPermutation-more c.args.views.now c.loop-last.order rest i next within c.remove-next.ensures.value invariant.each);
      column = subst (IsView m) (sym c.remove-next.ensures.value) (invariant.views i next within);
      views = subst (All (IsView m)) (sym left) (behind m next (remove rest i) (All-permutation (IsView m) rest (next ∷ remove rest i) (IsPermutation-remove rest i next within c.remove-next.ensures.value) invariant.views));
      distinct = subst AreApart (sym left_numbers) (apart_left (numbers rest) i counted invariant.distinct);
    }
