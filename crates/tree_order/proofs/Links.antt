-- The links of the views outside, one view at a time.
use Rattle.std.proofs.Common.{◌≡◌, ◌∙◌, ℕ, zero, suc, ◌+◌, ◌-◌, ◌<◌, ◌≤◌, ◌==◌, Bool, true, false, ◌&&◌, ◌||◌, if◌then◌else◌, nat_lt, List, [], ◌∷◌, ◌++◌, length, take, drop, map, get_or, Option, Some, None, All, refl, sym, ap, ap₂, subst, arith, append_assoc, length-drop, get_or-drop}
use Rattle.std.specs.List.{remove}
use Rattle.std.proofs.lemmas.List.{append-nil, get_or_default, get_or-map, length-map, map-append}
use Rattle.std.proofs.lemmas.List.Sums.{fold_more, fold_push, sum_by_push}
use Rattle.std.proofs.lemmas.List.Edits.{length-remove}
use Rattle.std.proofs.lemmas.List.Elements.{All-map, All-tail}
use Rattle.std.proofs.lemmas.List.Sorted.{All-permutation, IsPermutation-remove}
use Rattle.graph_model.specs.declared.number.ViewNo.{ViewNo}
use Rattle.view_matrix.specs.Matrices.{place_of}
use Rattle.view_order.specs.Greedy.{is_nearer, nearer, nearest, numbers, without}
use Rattle.view_order.specs.Places.{view}
use Rattle.tree_order.specs.declared.link.Link.{Link}
use Rattle.tree_order.specs.Links.{branch_of, branches_of, brought, nearer_link, nearest_link, numbers_of, point, reached}
use Rattle.tree_order.specs.Trees.{Branch, branch, closer, closest, joins, reach, tree, weight}
use Rattle.tree_order.proofs.Times.{AreOnce, once_without, removed}

pub place_of-point : (a : Option ℕ) → place_of (point a) ≡ a
place_of-point None = refl
place_of-point (Some v) = refl

-- ---- the nearest link

pub nearest_more : (links : List Link) (p : ℕ) (best other d : Link) → 1 ≤ p → p < length links → other ≡ get_or links p other → best ≡ nearest_link (get_or links 0 d) (take (p - 1) (drop 1 links))
    → nearer_link best other ≡ nearest_link (get_or links 0 d) (take (p + 1 - 1) (drop 1 links))
nearest_more links p best other d from lt is so_far =
    ap₂ nearer_link so_far (is ∙ ap (λ (k : ℕ). get_or links k other) (let e : p ≡ 1 + (p - 1) = omega (arith, from) in e) ∙ sym (get_or-drop 1 links (p - 1) other))
    ∙ sym (fold_more nearer_link (get_or links 0 d) (drop 1 links) (p - 1) other (omega (arith, from, lt, length-drop 1 links)))
    ∙ ap (λ (k : ℕ). nearest_link (get_or links 0 d) (take k (drop 1 links))) (let e : p - 1 + 1 ≡ p + 1 - 1 = omega (arith, from) in e)

abbrev link_to : ℕ → Option ViewNo → ℕ → Link
link_to v parent distance = record { view = view v; parent = parent; distance = distance }

-- a link that is read at a place
pub read_at : (links : List Link) (p a : ℕ) (x now : Link) → p < length links → a ≡ p → now ≡ x → x ≡ get_or links p x → now ≡ get_or links a now
read_at links p a x now lt here same is =
    same ∙ is ∙ get_or_default links p x now lt ∙ ap (λ (k : ℕ). get_or links k now) (sym here)

pub nearer_then : (best x now : Link) (r : Bool) → r ≡ (nat_lt x.distance best.distance || (x.distance == best.distance && nat_lt x.view.0 best.view.0)) → r ≡ true → now ≡ x → now ≡ nearer_link best x
nearer_then best x now r is test same = same ∙ ap (λ (b : Bool). if b then x else best) (sym test ∙ is)

pub nearer_else : (best x now : Link) (r : Bool) → r ≡ (nat_lt x.distance best.distance || (x.distance == best.distance && nat_lt x.view.0 best.view.0)) → r ≡ false → now ≡ best → now ≡ nearer_link best x
nearer_else best x now r is test same = same ∙ ap (λ (b : Bool). if b then x else best) (sym test ∙ is)

module _ (distance : Option ℕ → ℕ → ℕ) where
  -- the nearer link is that of the nearer view
  nearer_by : (joined : List ℕ) (v w : ℕ) (r : Bool) → (if r then reached distance joined w else reached distance joined v) ≡ reached distance joined (if r then w else v)
  nearer_by joined v w true = refl
  nearer_by joined v w false = refl

  pub nearest_reached : (joined : List ℕ) (v : ℕ) (vs : List ℕ) → nearest_link (reached distance joined v) (map (reached distance joined) vs) ≡ reached distance joined (nearest (reach distance joined) v vs)
  nearest_reached joined v [] = refl
  nearest_reached joined v (w ∷ ws) =
      ap (λ (best : Link). nearest_link best (map (reached distance joined) ws)) (nearer_by joined v w (is_nearer (reach distance joined) w v))
      ∙ nearest_reached joined (nearer (reach distance joined) v w) ws

  -- ---- links when one more view has joined

  brought_by : (joined : List ℕ) (n v : ℕ) (r : Bool)
      → (if r then link_to v (Some (view n)) (distance (Some n) v) else reached distance joined v)
      ≡ link_to v (point (if r then Some n else closest distance joined v)) (distance (if r then Some n else closest distance joined v) v)
  brought_by joined n v true = refl
  brought_by joined n v false = refl

  pub brought_reached : (joined : List ℕ) (n v : ℕ) → brought distance (view n) (reached distance joined v) ≡ reached distance (joined ++ n ∷ []) v
  brought_reached joined n v =
      brought_by joined n v (nat_lt (distance (Some n) v) (reach distance joined v))
      ∙ ap (λ (a : Option ℕ). link_to v (point a) (distance a v)) (sym (fold_push (closer distance v) None joined n))

  all_brought : (joined : List ℕ) (n : ℕ) (vs : List ℕ) → map (brought distance (view n)) (map (reached distance joined) vs) ≡ map (reached distance (joined ++ n ∷ [])) vs
  all_brought joined n [] = refl
  all_brought joined n (v ∷ vs) = ap₂ (λ (link : Link) (links : List Link). link ∷ links) (brought_reached joined n v) (all_brought joined n vs)

numbers_reached : (distance : Option ℕ → ℕ → ℕ) (joined vs : List ℕ) → numbers_of (map (reached distance joined) vs) ≡ vs
numbers_reached distance joined [] = refl
numbers_reached distance joined (v ∷ vs) = ap (λ (ns : List ℕ). v ∷ ns) (numbers_reached distance joined vs)

number_by : (one other : Link) (r : Bool) → one.view.0 ≡ other.view.0 → (if r then one else other).view.0 ≡ other.view.0
number_by one other true same = same
number_by one other false same = refl

pub numbers_brought : (distance : Option ℕ → ℕ → ℕ) (joined : ViewNo) (links : List Link) → numbers_of (map (brought distance joined) links) ≡ numbers_of links
numbers_brought distance joined [] = refl
numbers_brought distance joined (link ∷ links) =
    ap₂ (λ (n : ℕ) (ns : List ℕ). n ∷ ns)
    (number_by (record { view = link.view; parent = Some joined; distance = distance (Some joined.0) link.view.0 }) link (nat_lt (distance (Some joined.0) link.view.0) link.distance) refl)
    (numbers_brought distance joined links)

-- a link that was brought up to date is of the same view
pub brought_within : (columns : ℕ) (distance : Option ℕ → ℕ → ℕ) (joined : ViewNo) (links : List Link) (i : ℕ) (x now : Link) → now ≡ brought distance joined x → x ≡ get_or links i x → i < length links
    → All (λ (link : Link). link.view.0 < columns) links → now.view.0 < columns
brought_within columns distance joined links i x now is at lt all =
    let here : x.view.0 < columns = subst (λ (link : Link). link.view.0 < columns) (sym at) (all i x lt) in
    omega (
      arith,
      here,
      ap (λ (link : Link). link.view.0) is,
      number_by (record { view = x.view; parent = Some joined; distance = distance (Some joined.0) x.view.0 }) x (nat_lt (distance (Some joined.0) x.view.0) x.distance) refl,
    )

map_remove : (X Y : Type 0) (f : X → Y) (xs : List X) (i : ℕ) → map f (remove xs i) ≡ remove (map f xs) i
map_remove X Y f [] zero = refl
map_remove X Y f [] (suc i) = refl
map_remove X Y f (x ∷ xs) zero = refl
map_remove X Y f (x ∷ xs) (suc i) = ap (λ (ys : List Y). f x ∷ ys) (map_remove X Y f xs i)

-- ---- the tree as it grows

module _ (distance : Option ℕ → ℕ → ℕ) where
  -- what the links of the views that have joined and of those outside are, of views that grow to this tree
  pub record AreLinks (joined outside : List Link) (all : List Branch) : Type 0 where
    pub reached : outside ≡ map (reached distance (numbers_of joined)) (numbers_of outside)
    pub grows : branches_of joined ++ joins distance (length (numbers_of outside)) (numbers_of joined) (numbers_of outside) ≡ all
    pub once : AreOnce (numbers_of outside)

  made : (joined outside : List Link) (all : List Branch) (js ns : List ℕ) → numbers_of joined ≡ js → outside ≡ map (reached distance js) ns
      → branches_of joined ++ joins distance (length ns) js ns ≡ all → AreOnce ns → AreLinks joined outside all
  made joined outside all js ns those are grows once =
      let numbers : numbers_of outside ≡ ns = ap numbers_of are ∙ numbers_reached distance js ns in
      record {
        reached = are ∙ ap₂ (λ (us vs : List ℕ). map (reached distance us) vs) (sym those) (sym numbers);
        grows = ap₂ (λ (us vs : List ℕ). branches_of joined ++ joins distance (length vs) us vs) those numbers ∙ grows;
        once = subst AreOnce (sym numbers) once;
      }

  numbered : (views : List ViewNo) → map (λ (v : ViewNo). reached distance [] v.0) views ≡ map (reached distance []) (numbers views)
  numbered [] = refl
  numbered (v ∷ vs) = ap (λ (links : List Link). reached distance [] v.0 ∷ links) (numbered vs)

  pub links_at_first : (outside : List Link) (views : List ViewNo) → outside ≡ map (λ (v : ViewNo). reached distance [] v.0) views → AreOnce (numbers views) → AreLinks [] outside (tree distance (numbers views))
  links_at_first outside views are once = made [] outside (tree distance (numbers views)) [] (numbers views) refl (are ∙ numbered views) refl once

  pub links_at_last : (joined outside : List Link) (all : List Branch) → length outside ≡ 0 → AreLinks joined outside all → branches_of joined ≡ all
  links_at_last joined [] all none are = sym (append-nil (branches_of joined)) ∙ are.grows
  links_at_last joined (link ∷ links) all none are = absurd (omega (arith, none))

  -- the next one to join, by its place
  nearest_at : (js ns : List ℕ) (i : ℕ) → i < length ns → AreOnce ns
      → ((d : Link) → get_or (map (reached distance js) ns) i d ≡ nearest_link (get_or (map (reached distance js) ns) 0 d) (drop 1 (map (reached distance js) ns)))
      → joins distance (length ns) js ns ≡ branch (closest distance js (get_or ns i 0)) (get_or ns i 0) ∷ joins distance (length (remove ns i)) (js ++ get_or ns i 0 ∷ []) (remove ns i)
  nearest_at js [] i lt once is = absurd (omega arith)
  nearest_at js (v ∷ vs) i lt once is =
      let n : ℕ = get_or (v ∷ vs) i 0 in
      let d : Link = reached distance js 0 in
      let found : reached distance js n ≡ reached distance js (nearest (reach distance js) v vs) =
      sym (get_or-map (reached distance js) (v ∷ vs) i 0 d lt) ∙ is d ∙ nearest_reached distance js v vs in
      let same : nearest (reach distance js) v vs ≡ n = sym (ap (λ (link : Link). link.view.0) found) in
      let left : length vs ≡ length (remove (v ∷ vs) i) = omega (arith, length-remove (v ∷ vs) i lt) in
      ap (λ (next : ℕ). branch (closest distance js next) next ∷ joins distance (length vs) (js ++ next ∷ []) (without next (v ∷ vs))) same
      ∙ ap₂ (λ (k : ℕ) (rest : List ℕ). branch (closest distance js n) n ∷ joins distance k (js ++ n ∷ []) rest) left (removed n (v ∷ vs) i lt refl once)

  next_is : (outside : List Link) (js : List ℕ) (i : ℕ) (next : Link) → i < length outside → next ≡ get_or outside i next → outside ≡ map (reached distance js) (numbers_of outside)
      → next ≡ reached distance js (get_or (numbers_of outside) i 0)
  next_is outside js i next lt here are =
      here ∙ ap (λ (links : List Link). get_or links i next) are
      ∙ get_or-map (reached distance js) (numbers_of outside) i 0 next (omega (arith, lt, length-map outside (λ (link : Link). link.view.0)))

  -- its distance to its parent
  pub next_distance : (joined outside : List Link) (all : List Branch) (i : ℕ) (next : Link) → i < length outside → next ≡ get_or outside i next → AreLinks joined outside all
      → next.distance ≡ distance (place_of next.parent) next.view.0
  next_distance joined outside all i next lt here are =
      let js = numbers_of joined in
      let n : ℕ = get_or (numbers_of outside) i 0 in
      let is : next ≡ reached distance js n = next_is outside js i next lt here are.reached in
      ap (λ (link : Link). link.distance) is
      ∙ ap (λ (a : Option ℕ). distance a n) (sym (place_of-point (closest distance js n)))
      ∙ ap (λ (link : Link). distance (place_of link.parent) link.view.0) (sym is)

  pub links_more : (joined outside : List Link) (all : List Branch) (i : ℕ) (next : Link) → i < length outside → next ≡ get_or outside i next
      → ((d : Link) → get_or outside i d ≡ nearest_link (get_or outside 0 d) (drop 1 outside))
      → AreLinks joined outside all → AreLinks (joined ++ next ∷ []) (map (brought distance next.view) (remove outside i)) all
  links_more joined outside all i next lt here nearest are =
      let js = numbers_of joined in
      let ns = numbers_of outside in
      let n : ℕ = get_or ns i 0 in
      let within : i < length ns = omega (arith, lt, length-map outside (λ (link : Link). link.view.0)) in
      let is : next ≡ reached distance js n = next_is outside js i next lt here are.reached in
      let step = nearest_at js ns i within are.once (subst (λ (links : List Link). (d : Link) → get_or links i d ≡ nearest_link (get_or links 0 d) (drop 1 links)) are.reached nearest) in
      let those : numbers_of (joined ++ next ∷ []) ≡ js ++ n ∷ [] =
      map-append (λ (link : Link). link.view.0) joined (next ∷ []) ∙ ap (λ (link : Link). js ++ link.view.0 ∷ []) is in
      let left : remove outside i ≡ map (reached distance js) (remove ns i) =
      ap (λ (links : List Link). remove links i) are.reached ∙ sym (map_remove ℕ Link (reached distance js) ns i) in
      let brings : map (brought distance next.view) (remove outside i) ≡ map (reached distance (js ++ n ∷ [])) (remove ns i) =
      ap₂ (λ (v : ViewNo) (links : List Link). map (brought distance v) links) (ap (λ (link : Link). link.view) is) left
      ∙ all_brought distance js n (remove ns i) in
      let last : branch_of next ≡ branch (closest distance js n) n =
      ap branch_of is ∙ ap (λ (a : Option ℕ). branch a n) (place_of-point (closest distance js n)) in
      let rest : List Branch = joins distance (length (remove ns i)) (js ++ n ∷ []) (remove ns i) in
      let grown : branches_of (joined ++ next ∷ []) ++ rest ≡ all =
      ap (λ (bs : List Branch). bs ++ rest) (map-append branch_of joined (next ∷ []))
      ∙ append_assoc (branches_of joined) (branch_of next ∷ []) rest
      ∙ ap (λ (b : Branch). branches_of joined ++ (b ∷ rest)) last
      ∙ ap (λ (bs : List Branch). branches_of joined ++ bs) (sym step) ∙ are.grows in
      made (joined ++ next ∷ []) (map (brought distance next.view) (remove outside i)) all (js ++ n ∷ []) (remove ns i) those brings grown
      (subst AreOnce (removed n ns i within refl are.once) (once_without n ns are.once))

  pub weight_more : (joined : List Link) (next : Link) → next.distance ≡ distance (place_of next.parent) next.view.0
      → weight distance (branches_of joined) + next.distance ≡ weight distance (branches_of (joined ++ next ∷ []))
  weight_more joined next is =
      ap (λ (n : ℕ). weight distance (branches_of joined) + n) is
      ∙ sym (sum_by_push (λ (b : Branch). distance b.parent b.view) (branches_of joined) (branch_of next))
      ∙ ap (weight distance) (sym (map-append branch_of joined (next ∷ [])))

-- ---- views of the matrix

pub all_within : (columns : ℕ) (distance : Option ℕ → ℕ → ℕ) (joined : ViewNo) (links : List Link) → All (λ (link : Link). link.view.0 < columns) links → All (λ (link : Link). link.view.0 < columns) (map (brought distance joined) links)
all_within columns distance joined links all =
    All-map (λ (link : Link). link.view.0 < columns) (brought distance joined) links
    (λ k e lt. brought_within columns distance joined links k (get_or links k e) (brought distance joined (get_or links k e)) refl (get_or_default links k e (get_or links k e) lt) lt all)

pub all_left : (columns : ℕ) (links : List Link) (i : ℕ) (x : Link) → i < length links → x ≡ get_or links i x → All (λ (link : Link). link.view.0 < columns) links → All (λ (link : Link). link.view.0 < columns) (remove links i)
all_left columns links i x lt is all =
    All-tail (λ (link : Link). link.view.0 < columns) x (remove links i) (All-permutation (λ (link : Link). link.view.0 < columns) links (x ∷ remove links i) (IsPermutation-remove links i x lt is) all)
