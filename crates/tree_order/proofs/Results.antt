-- What is promised of the order, from the tree.
use Rattle.std.proofs.Common.{◌≡◌, ◌∙◌, ℕ, zero, suc, ◌*◌, ◌<◌, ◌≤◌, inl, inr, List, [], ◌∷◌, ◌++◌, length, map, Option, None, All, refl, sym, ap, ap₂, subst, arith}
use Rattle.std.specs.Prelude.{IsPermutation}
use Rattle.std.proofs.lemmas.Bool.Decides.{eqb_tells}
use Rattle.std.proofs.lemmas.List.{length-map}
use Rattle.std.proofs.lemmas.List.Sorted.{IsPermutation-map, IsPermutation-trans, All-permutation, length_permutation, sum_by-IsPermutation}
use Rattle.graph_model.specs.declared.number.ViewNo.{ViewNo}
use Rattle.graph_model.specs.GraphData.{AreDistinct}
use Rattle.view_matrix.specs.Matrices.{MatrixData, distance_of, IsView}
use Rattle.view_order.specs.Greedy.{numbers}
use Rattle.view_order.specs.Places.{view}
use Rattle.tree_order.specs.declared.link.Link.{Link}
use Rattle.tree_order.specs.Links.{branches_of, numbers_of}
use Rattle.tree_order.specs.Trees.{Branch, tree, tree_walk, views_of, walk, walked, weight}
use Rattle.tree_order.proofs.Metric.{between, between_metric}
use Rattle.tree_order.proofs.Times.{AreOnce, Told, few, once_distinct, one, times}
use Rattle.tree_order.proofs.Below.{tree_below}
use Rattle.tree_order.proofs.Around.{twice}
use Rattle.tree_order.proofs.Walks.{joins_all, walk_all}

-- ---- how many views there are

none_by : (m : MatrixData) (v : ViewNo) (vs : List ViewNo) (x : ℕ) → v.0 < length m.columns → length m.columns ≤ x → times x (numbers vs) ≡ 0 → Told v.0 x → times x (numbers (v ∷ vs)) ≡ 0
none_by m v vs x is le none (inl h) = absurd (omega (arith, is, le, h.1))
none_by m v vs x is le none (inr h) = omega (arith, none, ap one h.0)

none_beyond : (m : MatrixData) (vs : List ViewNo) → All (IsView m) vs → (x : ℕ) → length m.columns ≤ x → times x (numbers vs) ≡ 0
none_beyond m [] all x le = refl
none_beyond m (v ∷ vs) all x le = none_by m v vs x (all zero v (omega arith)) le (none_beyond m vs (λ k d lt. all (suc k) d (omega (arith, lt))) x le) (eqb_tells v.0 x)

pub few_views : (m : MatrixData) (views : List ViewNo) → All (IsView m) views → AreDistinct views → length views ≤ length m.columns
few_views m views all distinct =
    omega (arith, few (length m.columns) (numbers views) (once_distinct views distinct) (none_beyond m views all), length-map views (λ (v : ViewNo). v.0))

-- ---- views and their numbers

viewed : (vs : List ViewNo) → map view (numbers vs) ≡ vs
viewed [] = refl
viewed (v ∷ vs) = ap (λ (us : List ViewNo). v ∷ us) (viewed vs)

pub numbers_branches : (links : List Link) → numbers_of links ≡ views_of (branches_of links)
numbers_branches [] = refl
numbers_branches (link ∷ links) = ap (λ (ns : List ℕ). link.view.0 ∷ ns) (numbers_branches links)

-- ---- the order

module _ (m : MatrixData) (views : List ViewNo) (distinct : AreDistinct views) where
  abbrev far : Option ℕ → ℕ → ℕ
  far = distance_of m

  -- the links that the walk gives
  pub walked_is : (shown order none slice grown : List Link) → shown ≡ order → branches_of order ≡ branches_of none ++ walk None (branches_of slice) → none ≡ [] → slice ≡ grown
      → branches_of grown ≡ tree far (numbers views) → branches_of shown ≡ tree_walk far (numbers views)
  walked_is shown order none slice grown same walks empty those are =
      ap branches_of same ∙ walks
      ∙ ap₂ (λ (xs ys : List Link). branches_of xs ++ walk None (branches_of ys)) empty those
      ∙ ap (walk None) are

  each_number : IsPermutation (numbers views) (views_of (tree_walk far (numbers views)))
  each_number =
      let once : AreOnce (numbers views) = once_distinct views distinct in
      IsPermutation-trans (numbers views) (views_of (tree far (numbers views))) (views_of (tree_walk far (numbers views)))
      (joins_all far (length (numbers views)) [] (numbers views) (omega arith) once)
      (IsPermutation-map (λ (b : Branch). b.view) (tree far (numbers views)) (tree_walk far (numbers views)) (walk_all far (numbers views) once))

  -- each view stands in it once
  pub each_view : (order : List ViewNo) → numbers order ≡ views_of (tree_walk far (numbers views)) → IsPermutation views order
  each_view order is =
      let p : IsPermutation (map view (numbers views)) (map view (numbers order)) =
      IsPermutation-map view (numbers views) (numbers order) (subst (IsPermutation (numbers views)) (sym is) each_number) in
      subst (λ (vs : List ViewNo). IsPermutation vs order) (viewed views) (subst (IsPermutation (map view (numbers views))) (viewed order) p)

  -- no order is shorter than the tree weighs
  pub no_shorter : (other : List ViewNo) → IsPermutation views other → weight far (tree far (numbers views)) ≤ walked far None (numbers other)
  no_shorter other p = tree_below (between m) (between_metric m) (numbers views) (numbers other) (once_distinct views distinct) (IsPermutation-map (λ (v : ViewNo). v.0) views other p)

  -- it is at most twice as long as that
  pub near_enough : walked far None (views_of (tree_walk far (numbers views))) ≤ 2 * weight far (tree far (numbers views))
  near_enough =
      let same : weight far (tree_walk far (numbers views)) ≡ weight far (tree far (numbers views)) =
      sum_by-IsPermutation (λ (b : Branch). far b.parent b.view) (tree far (numbers views)) (tree_walk far (numbers views)) (walk_all far (numbers views) (once_distinct views distinct)) in
      omega (arith, same, twice (between m) (between_metric m) None (tree far (numbers views)))

  -- ---- the links that are walked

  module _ (links : List Link) (are : branches_of links ≡ tree_walk far (numbers views)) where
    pub numbers_walked : numbers_of links ≡ views_of (tree_walk far (numbers views))
    numbers_walked = numbers_branches links ∙ ap views_of are

    pub length_walked : length links ≡ length views
    length_walked =
        sym (length-map links (λ (link : Link). link.view.0)) ∙ ap (λ (ns : List ℕ). length ns) numbers_walked
        ∙ length_permutation (numbers views) (views_of (tree_walk far (numbers views))) each_number ∙ length-map views (λ (v : ViewNo). v.0)

    within : (vs : List ViewNo) → All (IsView m) vs → All (λ (v : ℕ). v < length m.columns) (numbers vs)
    within [] all k d lt = absurd (omega arith)
    within (v ∷ vs) all zero d lt = all zero v (omega arith)
    within (v ∷ vs) all (suc k) d lt = within vs (λ j e le. all (suc j) e (omega (arith, le))) k d (omega (arith, lt))

    back_from : (ls : List Link) → All (λ (v : ℕ). v < length m.columns) (numbers_of ls) → All (λ (link : Link). IsView m link.view) ls
    back_from [] all k d lt = absurd (omega arith)
    back_from (l ∷ ls) all zero d lt = all zero 0 (omega arith)
    back_from (l ∷ ls) all (suc k) d lt = back_from ls (λ j e le. all (suc j) e (omega (arith, le))) k d (omega (arith, lt))

    pub views_walked : All (IsView m) views → All (λ (link : Link). IsView m link.view) links
    views_walked all =
        back_from links
        (subst (All (λ (v : ℕ). v < length m.columns)) (sym numbers_walked)
        (All-permutation (λ (v : ℕ). v < length m.columns) (numbers views) (views_of (tree_walk far (numbers views))) each_number (within views all)))
