-- The greedy order, one view at a time.
use Rattle.std.proofs.Common.{◌≡◌, ◌≢◌, ◌∙◌, ◌+◌, ◌-◌, ◌<◌, ◌≤◌, ◌==◌, ◌⊎◌, inl, inr, ℕ, zero, suc, Bool, true, false, not, cond, ◌&&◌, ◌||◌, if◌then◌else◌, nat_lt, List, [], ◌∷◌, ◌++◌, length, take, drop, map, filter, fold, get_or, slice_get, Option, Some, None, All, refl, sym, ap, ap₂, subst, arith, length-drop, get_or-drop}
use Rattle.std.specs.List.{remove}
use Rattle.std.proofs.lemmas.Bool.Decides.{eqb_tells}
use Rattle.std.proofs.lemmas.List.{get_or_default, length-map}
use Rattle.std.proofs.lemmas.List.Sums.{fold_more}
use Rattle.std.proofs.lemmas.List.Edits.{length-remove, get_or-remove_below, get_or-remove_above}
use Rattle.graph_model.specs.declared.number.ViewNo.{ViewNo}
use Rattle.graph_model.specs.GraphData.{AreDistinct}
use Rattle.view_order.specs.Greedy.{greedy, is_nearer, nearer, nearest, numbers, tour, without}

-- ---- numbers that are distinct

abbrev pub AreApart : List ℕ → Type 0
AreApart ns = (i j : ℕ) → i < length ns → j < length ns → get_or ns i 0 ≡ get_or ns j 0 → i ≡ j

side : (a b : ℕ) → (a < b) ⊎ (b ≤ a)
side a b = grind arith

module _ (ns : List ℕ) (i : ℕ) (within : i < length ns) (apart : AreApart ns) where
  apart_by : (j k : ℕ) → j < length (remove ns i) → k < length (remove ns i) → get_or (remove ns i) j 0 ≡ get_or (remove ns i) k 0 → (j < i) ⊎ (i ≤ j) → (k < i) ⊎ (i ≤ k) → j ≡ k
  apart_by j k lj lk e (inl a) (inl b) = apart j k (omega arith) (omega arith) (sym (get_or-remove_below ns i 0 j a within) ∙ e ∙ get_or-remove_below ns i 0 k b within)
  apart_by j k lj lk e (inl a) (inr b) = absurd (omega (arith, a, b, apart j (k + 1) (omega arith) (omega (arith, lk, length-remove ns i within)) (sym (get_or-remove_below ns i 0 j a within) ∙ e ∙ get_or-remove_above ns i 0 k b within)))
  apart_by j k lj lk e (inr a) (inl b) = absurd (omega (arith, a, b, apart (j + 1) k (omega (arith, lj, length-remove ns i within)) (omega arith) (sym (get_or-remove_above ns i 0 j a within) ∙ e ∙ get_or-remove_below ns i 0 k b within)))
  apart_by j k lj lk e (inr a) (inr b) =
      omega (arith, apart (j + 1) (k + 1) (omega (arith, lj, length-remove ns i within)) (omega (arith, lk, length-remove ns i within)) (sym (get_or-remove_above ns i 0 j a within) ∙ e ∙ get_or-remove_above ns i 0 k b within))

  pub apart_left : AreApart (remove ns i)
  apart_left j k lj lk e = apart_by j k lj lk e (side j i) (side k i)

-- ---- without one of them

differs : (w n : ℕ) → w ≢ n → ((w == n) ≡ true) × (w ≡ n) ⊎ ((w == n) ≡ false) × (w ≢ n) → not (w == n) ≡ true
differs w n ne (inl h) = absurd (ne h.1)
differs w n ne (inr h) = ap not h.0

same : (w n : ℕ) → w ≡ n → ((w == n) ≡ true) × (w ≡ n) ⊎ ((w == n) ≡ false) × (w ≢ n) → not (w == n) ≡ false
same w n e (inl h) = ap not h.0
same w n e (inr h) = absurd (h.1 e)

keep_all : (n : ℕ) (ws : List ℕ) → ((k : ℕ) → k < length ws → get_or ws k 0 ≢ n) → without n ws ≡ ws
keep_all n [] none = refl
keep_all n (w ∷ ws) none =
    ap (λ (b : Bool). cond b (w ∷ without n ws) (without n ws)) (differs w n (none zero (omega arith)) (eqb_tells w n))
    ∙ ap (λ (xs : List ℕ). w ∷ xs) (keep_all n ws (λ k lt. none (suc k) (omega arith)))

drop_one : (n : ℕ) (ws : List ℕ) (i : ℕ) → i < length ws → AreApart ws → n ≡ get_or ws i 0 → without n ws ≡ remove ws i
drop_one n [] i lt apart is = absurd (omega arith)
drop_one n (w ∷ ws) zero lt apart is =
    ap (λ (b : Bool). cond b (w ∷ without n ws) (without n ws)) (same w n (sym is) (eqb_tells w n))
    ∙ keep_all n ws (λ k within e. let h : suc k ≡ zero = apart (suc k) zero (omega arith) (omega arith) (e ∙ is) in absurd (omega (arith, h)))
drop_one n (w ∷ ws) (suc i) lt apart is =
    ap (λ (b : Bool). cond b (w ∷ without n ws) (without n ws)) (differs w n (λ e. let h : zero ≡ suc i = apart zero (suc i) (omega arith) (omega arith) (e ∙ is) in absurd (omega (arith, h))) (eqb_tells w n))
    ∙ ap (λ (xs : List ℕ). w ∷ xs) (drop_one n ws i (omega arith) (λ j k lj lk e. let h : suc j ≡ suc k = apart (suc j) (suc k) (omega arith) (omega arith) e in omega (arith, h)) is)

-- ---- one step

pub tour_next : (distance : Option ℕ → ℕ → ℕ) (before : Option ℕ) (ns : List ℕ) (i : ℕ) → i < length ns → AreApart ns → get_or ns i 0 ≡ nearest (distance before) (get_or ns 0 0) (drop 1 ns)
    → greedy distance before ns ≡ get_or ns i 0 ∷ greedy distance (Some (get_or ns i 0)) (remove ns i)
tour_next distance before [] i lt apart is = absurd (omega arith)
tour_next distance before (v ∷ vs) i lt apart is =
    let n = get_or (v ∷ vs) i 0 in
    let left : length vs ≡ length (remove (v ∷ vs) i) = omega (arith, length-remove (v ∷ vs) i lt) in
    ap (λ (next : ℕ). next ∷ tour distance (length vs) (Some next) (without next (v ∷ vs))) (sym is)
    ∙ ap₂ (λ (k : ℕ) (xs : List ℕ). n ∷ tour distance k (Some n) xs) left (drop_one n (v ∷ vs) i lt apart refl)

-- ---- the nearest one

pub is_told : (distance : ℕ → ℕ) (v best dv db : ℕ) (r : Bool) → dv ≡ distance v → db ≡ distance best → r ≡ (nat_lt dv db || (dv == db && nat_lt v best)) → is_nearer distance v best ≡ r
is_told distance v best dv db r far near is = ap₂ (λ (a b : ℕ). nat_lt a b || (a == b && nat_lt v best)) (sym far) (sym near) ∙ sym is

pub nearest_more : (distance : ℕ → ℕ) (ns : List ℕ) (p best v : ℕ) → 1 ≤ p → p < length ns → v ≡ get_or ns p 0 → best ≡ nearest distance (get_or ns 0 0) (take (p - 1) (drop 1 ns))
    → nearer distance best v ≡ nearest distance (get_or ns 0 0) (take (p + 1 - 1) (drop 1 ns))
nearest_more distance ns p best v from lt is so_far =
    ap₂ (nearer distance) so_far (is ∙ ap (λ (k : ℕ). get_or ns k 0) (let e : p ≡ 1 + (p - 1) = omega (arith, from) in e) ∙ sym (get_or-drop 1 ns (p - 1) 0))
    ∙ sym (fold_more (nearer distance) (get_or ns 0 0) (drop 1 ns) (p - 1) 0 (omega (arith, from, lt, length-drop 1 ns)))
    ∙ ap (λ (k : ℕ). nearest distance (get_or ns 0 0) (take k (drop 1 ns))) (let e : p - 1 + 1 ≡ p + 1 - 1 = omega (arith, from) in e)

-- a view that is read at a place
pub read_at : (views : List ViewNo) (p a : ℕ) (x y : ViewNo) → p < length views → a ≡ p → x ≡ get_or views p y → x ≡ get_or views a x
read_at views p a x y lt here is = is ∙ get_or_default views p y x lt ∙ ap (λ (k : ℕ). get_or views k x) (sym here)

-- ---- views by their numbers

pub number_at : (views : List ViewNo) (i : ℕ) (d : ViewNo) → i < length views → get_or (numbers views) i 0 ≡ (get_or views i d).0
number_at [] i d lt = absurd (omega arith)
number_at (v ∷ vs) zero d lt = refl
number_at (v ∷ vs) (suc i) d lt = number_at vs i d (omega arith)

pub numbers_left : (views : List ViewNo) (i : ℕ) → numbers (remove views i) ≡ remove (numbers views) i
numbers_left [] zero = refl
numbers_left [] (suc i) = refl
numbers_left (v ∷ vs) zero = refl
numbers_left (v ∷ vs) (suc i) = ap (λ (ns : List ℕ). v.0 ∷ ns) (numbers_left vs i)

got : (views : List ViewNo) (i : ℕ) (d : ViewNo) → i < length views → slice_get views i ≡ Some (get_or views i d)
got [] i d lt = absurd (omega arith)
got (v ∷ vs) zero d lt = refl
got (v ∷ vs) (suc i) d lt = got vs i d (omega arith)

abbrev numbered : ℕ → ViewNo
numbered n = record { 0 = n }

pub apart_views : (views : List ViewNo) → AreDistinct views → AreApart (numbers views)
apart_views views distinct i j li lj e =
    let here : i < length views = omega (arith, li, length-map views (λ (v : ViewNo). v.0)) in
    let there : j < length views = omega (arith, lj, length-map views (λ (v : ViewNo). v.0)) in
    let d = numbered 0 in
    let one : get_or views i d ≡ get_or views j d = ap numbered (sym (number_at views i d here) ∙ e ∙ number_at views j d there) in
    distinct i j (get_or views j d) (got views i d here ∙ ap Some one) (got views j d there)
