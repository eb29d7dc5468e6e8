-- The points of a tree over some views are these views and the empty column.
use Rattle.std.proofs.Common.{◌≡◌, ◌∙◌, ◌+◌, ◌<◌, ◌==◌, ℕ, zero, suc, Bool, true, false, cond, List, [], ◌∷◌, ◌++◌, length, map, take, get_or, All, Option, Some, None, slice_get, codes, refl, sym, ap, ap₂, subst, arith}
use Rattle.std.specs.Prelude.{not, nat_lt, fold, if◌then◌else◌}
use Rattle.std.proofs.lemmas.List.Elements.{All-append, All-filter}
use Rattle.graph_model.specs.declared.number.ViewNo.{ViewNo}
use Rattle.view_matrix.specs.Matrices.{MatrixData, IsColumn, place_of}
use Rattle.view_order.specs.Greedy.{is_nearer, nearer, nearest, numbers, without}
use Rattle.std.specs.Fmt.{decimal}
use Rattle.std.proofs.lemmas.List.{length-map}
use Rattle.gvdl_check.specs.declared.plan.ViewPlan.{ViewPlan}
use Rattle.result_tables.specs.TableText.{line_end}
use Rattle.surge_session.specs.Output.{list_of, name_at, point_name, branch_line}
use Rattle.tree_order.specs.Trees.{Branch, branch, closer, closest, reach, joins, tree, is_same, walk, tree_walk, parents_of, views_of}

cons : {X : Type 0} (P : X → Type 0) (x : X) (xs : List X) → P x → All P xs → All P (x ∷ xs)
cons P x xs p all zero d lt = p
cons P x xs p all (suc i) d lt = all i d (omega (arith, lt))

rest_of : {X : Type 0} (P : X → Type 0) (x : X) (xs : List X) → All P (x ∷ xs) → All P xs
rest_of P x xs all = λ i d lt. all (suc i) d (omega (arith, lt))

module _ (n : ℕ) (distance : Option ℕ → ℕ → ℕ) where
  -- the empty column, or one of so many views
  abbrev pub IsPoint : Option ℕ → Type 0
  IsPoint None = Unit {0}
  IsPoint (Some v) = v < n

  abbrev pub IsWithin : Branch → Type 0
  IsWithin b = IsPoint b.parent × (b.view < n)

  by_nearer : (b : Bool) (x y : Option ℕ) → IsPoint x → IsPoint y → IsPoint (cond b x y)
  by_nearer true x y p q = p
  by_nearer false x y p q = q

  closest_from : (v : ℕ) (best : Option ℕ) (joined : List ℕ) → IsPoint best → All (λ w. w < n) joined → IsPoint (fold (closer distance v) best joined)
  closest_from v best [] p all = p
  closest_from v best (w ∷ ws) p all =
      closest_from v (closer distance v best w) ws (by_nearer (nat_lt (distance (Some w) v) (distance best v)) (Some w) best (all 0 w (omega arith)) p) (rest_of (λ x. x < n) w ws all)

  by_order : (b : Bool) (x y : ℕ) → x < n → y < n → cond b x y < n
  by_order true x y p q = p
  by_order false x y p q = q

  nearest_from : (f : ℕ → ℕ) (best : ℕ) (vs : List ℕ) → best < n → All (λ w. w < n) vs → nearest f best vs < n
  nearest_from f best [] p all = p
  nearest_from f best (w ∷ ws) p all = nearest_from f (nearer f best w) ws (by_order (is_nearer f w best) w best (all 0 w (omega arith)) p) (rest_of (λ x. x < n) w ws all)

  joins_within : (k : ℕ) (joined outside : List ℕ) → All (λ w. w < n) joined → All (λ w. w < n) outside → All IsWithin (joins distance k joined outside)
  joins_within zero joined outside inside all = λ i d lt. absurd (omega (arith, lt))
  joins_within (suc k) joined [] inside all = λ i d lt. absurd (omega (arith, lt))
  joins_within (suc k) joined (v ∷ vs) inside all =
      let next = nearest (reach distance joined) v vs in
      let there : next < n = nearest_from (reach distance joined) v vs (all 0 v (omega arith)) (rest_of (λ x. x < n) v vs all) in
      cons IsWithin (branch (closest distance joined next) next) (joins distance k (joined ++ next ∷ []) (without next (v ∷ vs)))
      (closest_from next None joined tt inside, there)
      (joins_within k (joined ++ next ∷ []) (without next (v ∷ vs)) (All-append (λ w. w < n) joined (next ∷ []) inside (cons (λ w. w < n) next [] there (λ i d lt. absurd (omega (arith, lt)))))
      (All-filter (λ (w : ℕ). not (w == next)) (λ w. w < n) (v ∷ vs) all))

  by_parent : (b : Bool) (xs ys : List Branch) → All IsWithin xs → All IsWithin ys → All IsWithin (cond b xs ys)
  by_parent true xs ys p q = p
  by_parent false xs ys p q = q

  walk_within : (point : Option ℕ) (bs : List Branch) → All IsWithin bs → All IsWithin (walk point bs)
  walk_within point [] all = all
  walk_within point (b ∷ later) all =
      let rest = rest_of IsWithin b later all in
      by_parent (is_same b.parent point) (b ∷ walk (Some b.view) later ++ walk point later) (walk point later)
      (cons IsWithin b (walk (Some b.view) later ++ walk point later) (all 0 b (omega arith)) (All-append IsWithin (walk (Some b.view) later) (walk point later) (walk_within (Some b.view) later rest) (walk_within point later rest)))
      (walk_within point later rest)

  pub tree_within : (views : List ℕ) → All (λ w. w < n) views → All IsWithin (tree_walk distance views)
  tree_within views all = walk_within None (tree distance views) (joins_within (length views) [] views (λ i d lt. absurd (omega (arith, lt))) all)

  parents_within : (bs : List Branch) → All IsWithin bs → All IsPoint (parents_of bs)
  parents_within [] all = λ i d lt. absurd (omega (arith, lt))
  parents_within (b ∷ bs) all = cons IsPoint b.parent (parents_of bs) (all 0 b (omega arith)).0 (parents_within bs (rest_of IsWithin b bs all))

-- points of a matrix, by their places
column_by : (m : MatrixData) (distance : Option ℕ → ℕ → ℕ) (point : Option ViewNo) → IsPoint (length m.columns) distance (place_of point) → IsColumn m point
column_by m distance None p = tt
column_by m distance (Some v) p = p

columns_by : (m : MatrixData) (distance : Option ℕ → ℕ → ℕ) (points : List (Option ViewNo)) → All (IsPoint (length m.columns) distance) (map place_of points) → All (IsColumn m) points
columns_by m distance [] all = λ i d lt. absurd (omega (arith, lt))
columns_by m distance (x ∷ xs) all =
    cons (IsColumn m) x xs (column_by m distance x (all 0 (place_of x) (omega arith))) (columns_by m distance xs (rest_of (IsPoint (length m.columns) distance) (place_of x) (map place_of xs) all))

pub points_within : (m : MatrixData) (distance : Option ℕ → ℕ → ℕ) (views : List ℕ) (points : List (Option ViewNo)) → All (λ w. w < length m.columns) views → map place_of points ≡ parents_of (tree_walk distance views) → All (IsColumn m) points
points_within m distance views points all same =
    columns_by m distance points
    (subst (λ (ps : List (Option ℕ)). All (IsPoint (length m.columns) distance) ps) (sym same) (parents_within (length m.columns) distance (tree_walk distance views) (tree_within (length m.columns) distance views all)))

-- ---- the line of a view

-- the branch at a place of the walk
pub branch_at : (walk : List Branch) (order : List ViewNo) (parents : List (Option ViewNo)) (i : ℕ) (d : ViewNo) (e : Option ViewNo) → numbers order ≡ views_of walk → map place_of parents ≡ parents_of walk → i < length order
    → (b : Branch) × (slice_get walk i ≡ Some b) × ((get_or order i d).0 ≡ b.view) × (place_of (get_or parents i e) ≡ b.parent) × (i < length parents)
branch_at [] [] parents i d e same points lt = absurd (omega (arith, lt))
branch_at [] (v ∷ vs) parents i d e same points lt = absurd (let f : suc (length (numbers vs)) ≡ 0 = ap (λ (ns : List ℕ). length ns) same in omega (arith, f))
branch_at (b ∷ bs) [] parents i d e same points lt = absurd (omega (arith, lt))
branch_at (b ∷ bs) (v ∷ vs) [] i d e same points lt = absurd cc
branch_at (b ∷ bs) (v ∷ vs) (p ∷ ps) zero d e same points lt = (b, refl, let h : v.0 ≡ b.view = cc in h, let h : place_of p ≡ b.parent = cc in h, omega arith)
branch_at (b ∷ bs) (v ∷ vs) (p ∷ ps) (suc i) d e same points lt =
    let rest = branch_at bs vs ps i d e (let h : numbers vs ≡ views_of bs = cc in h) (let h : map place_of ps ≡ parents_of bs = cc in h) (omega (arith, lt)) in
    (rest.0, rest.1, rest.2, rest.3, omega (arith, rest.4))

pub tree_line : (distance : Option ℕ → ℕ → ℕ) (views : List ViewPlan) (b : Branch) (v : ViewNo) (parent : Option ViewNo) (item : ViewPlan) (name point : List ℕ) (far : ℕ) → v.0 ≡ b.view → place_of parent ≡ b.parent
    → slice_get views v.0 ≡ Some item → name ≡ item.name → point ≡ point_name views (place_of parent) → far ≡ distance (place_of parent) v.0
    → name ++ (codes " " ++ (point ++ (codes " " ++ (decimal far ++ line_end)))) ≡ branch_line distance views b
tree_line distance views b v parent item name point far at_view at_parent at named pointed is =
    let its_name : name ≡ name_at views b.view = named ∙ ap (list_of (λ (x : ViewPlan). x.name)) (sym at) ∙ ap (name_at views) at_view in
    let its_point : point ≡ point_name views b.parent = pointed ∙ ap (point_name views) at_parent in
    let its_far : far ≡ distance b.parent b.view = is ∙ ap₂ distance at_parent at_view in
    ap₂ (λ (n p : List ℕ). n ++ (codes " " ++ (p ++ (codes " " ++ (decimal far ++ line_end))))) its_name its_point
    ∙ ap (λ (k : ℕ). name_at views b.view ++ (codes " " ++ (point_name views b.parent ++ (codes " " ++ (decimal k ++ line_end))))) its_far
