-- The places of keys among rising keys.
use Rattle.std.specs.Prelude.{◌≡◌, ℕ, ◌+◌, ◌<◌, ◌≤◌, ◌||◌, Bool, true, false, List, [], ◌∷◌, ◌++◌, length, map, get_or, nat_le, nat_lt, Result, Ok, Err, MatchResult, refl}
use Rattle.std.specs.List.{list_any}
use Rattle.std.specs.List.Sorted.{IsStrictlySortedBy, IsBinarySearchResult, IsPartitionPoint}
use Rattle.std.specs.BTreeSet.{insert_key}
use Rattle.std.specs.declared.cmp.Ordering.{Ordering}
use Rattle.std.specs.declared.cmp.Ordering.TheVariants.{Less, Equal, Greater}
use Rattle.std.specs.Ordering.{is_eq, nat_cmp, match_ordering, ordering_index, ordering_reverse}
use Rattle.std.specs.Cmp.{IsTotalOrder, Equal-is, tied_itself, tied_back, alike_right}
use Rattle.std.proofs.Common.{arith, ap, sym, subst, ◌∙◌, suc}
use Rattle.std.proofs.lemmas.List.{length-append, get_or-map, get_or_append_left, get_or_push, length-map}
use Rattle.std.proofs.lemmas.Map.Keys.{Less-from_sorted}
use Rattle.std.proofs.lemmas.Map.Lookups.{exact_bytes, exact_signed, exact_unsigned}
use Rattle.graph_model.specs.GraphData.{Cell}
use Rattle.aggregate_views.specs.Rows.{cell_order}
use Rattle.std.proofs.lemmas.Bool.Decides.{nat_tests}

or_right : (a b : Bool) → b ≡ true → a || b ≡ true
or_right true b h = refl
or_right false b h = h

or_more : (a b c : Bool) → a || b ≡ true → (b ≡ true → c ≡ true) → a || c ≡ true
or_more true b c h f = refl
or_more false b c h f = f h

below_is : (i j : ℕ) → i < j → nat_cmp i j ≡ Less
below_is i j h = grind (arith, nat_tests)

above_is : (i j : ℕ) → j < i → nat_cmp i j ≡ Greater
above_is i j h = grind (arith, nat_tests)

equal_is : (i j : ℕ) → i ≡ j → nat_cmp i j ≡ Equal
equal_is i j h = grind (arith, nat_tests)

index_rises : (a b j : ℕ) → a ≤ b → ordering_index (nat_cmp a j) ≤ ordering_index (nat_cmp b j)
index_rises a b j h = grind (arith, nat_tests)

found_by : {K : Type 0} (p : K → Bool) (k : K) (ks : List K) (b : Bool) → p k ≡ b → b || list_any p ks ≡ true → (list_any p ks ≡ true → (j : ℕ) × (j < length ks) × ((d : K) → p (get_or ks j d) ≡ true)) → (j : ℕ) × (j < length (k ∷ ks)) × ((d : K) → p (get_or (k ∷ ks) j d) ≡ true)
found_by p k ks true e h go = (0, omega arith, λ d. e)
found_by p k ks false e h go =
    let r = go h in
    (suc r.0, omega (arith, r.1), r.2)

-- a key that passes a test stands at a place
pub found_at : {K : Type 0} (p : K → Bool) (ks : List K) → list_any p ks ≡ true → (j : ℕ) × (j < length ks) × ((d : K) → p (get_or ks j d) ≡ true)
found_at p [] h = absurd (cc)
found_at p (k ∷ ks) h = found_by p k ks (p k) refl h (found_at p ks)

module _ {K : Type 0} (kcmp : K → K → Ordering) (total : IsTotalOrder kcmp) where
  -- ---- one key more

  stays_by : (p : K → Bool) (k x : K) (xs : List K) (r : Ordering) → p x || list_any p xs ≡ true → (list_any p xs ≡ true → list_any p (insert_key kcmp xs k) ≡ true) → list_any p (match_ordering r (k ∷ x ∷ xs) (x ∷ xs) (x ∷ insert_key kcmp xs k)) ≡ true
  stays_by p k x xs Less h go = or_right (p k) (p x || list_any p xs) h
  stays_by p k x xs Equal h go = h
  stays_by p k x xs Greater h go = or_more (p x) (list_any p xs) (list_any p (insert_key kcmp xs k)) h go

  -- what passes a test stays
  pub stays : (p : K → Bool) (k : K) (xs : List K) → list_any p xs ≡ true → list_any p (insert_key kcmp xs k) ≡ true
  stays p k [] h = absurd (cc)
  stays p k (x ∷ xs) h = stays_by p k x xs (kcmp k x) h (stays p k xs)

  comes_by : (k x : K) (xs : List K) (r : Ordering) → kcmp k x ≡ r → list_any (λ y. is_eq (kcmp k y)) (insert_key kcmp xs k) ≡ true → list_any (λ y. is_eq (kcmp k y)) (match_ordering r (k ∷ x ∷ xs) (x ∷ xs) (x ∷ insert_key kcmp xs k)) ≡ true
  comes_by k x xs Less h go = ap (λ v. is_eq v || (is_eq (kcmp k x) || list_any (λ y. is_eq (kcmp k y)) xs)) (tied_itself total k)
  comes_by k x xs Equal h go = ap (λ v. is_eq v || list_any (λ y. is_eq (kcmp k y)) xs) h
  comes_by k x xs Greater h go = or_right (is_eq (kcmp k x)) (list_any (λ y. is_eq (kcmp k y)) (insert_key kcmp xs k)) go

  -- the key is there
  pub comes : (k : K) (xs : List K) → list_any (λ y. is_eq (kcmp k y)) (insert_key kcmp xs k) ≡ true
  comes k [] = ap (λ v. is_eq v || false) (tied_itself total k)
  comes k (x ∷ xs) = comes_by k x xs (kcmp k x) refl (comes k xs)

  -- ---- keys by place

  module _ (ks : List K) (sorted : IsStrictlySortedBy kcmp ks) (d : K) where
    -- a number is below another, equal or above
    agree_by : (i j : ℕ) (r : Ordering) → nat_cmp i j ≡ r → i < length ks → j < length ks → kcmp (get_or ks i d) (get_or ks j d) ≡ r
    agree_by i j Less h p q = Less-from_sorted kcmp ks i j d sorted (grind (arith, nat_tests, h)) q
    agree_by i j Equal h p q = ap (λ n. kcmp (get_or ks i d) (get_or ks n d)) (sym (exact_unsigned i j h)) ∙ tied_itself total (get_or ks i d)
    agree_by i j Greater h p q = turned (Less-from_sorted kcmp ks j i d sorted (grind (arith, nat_tests, h)) p) where
      turned : kcmp (get_or ks j d) (get_or ks i d) ≡ Less → kcmp (get_or ks i d) (get_or ks j d) ≡ Greater
      turned e = total.antisymm (get_or ks i d) (get_or ks j d) ∙ ap ordering_reverse e

    pub places_agree : (i j : ℕ) → i < length ks → j < length ks → kcmp (get_or ks i d) (get_or ks j d) ≡ nat_cmp i j
    places_agree i j p q = agree_by i j (nat_cmp i j) refl p q

    module _ (x : K) (j : ℕ) (within : j < length ks) (is : kcmp x (get_or ks j d) ≡ Equal) where
      stands : (i : ℕ) → i < length ks → kcmp (get_or ks i d) x ≡ nat_cmp i j
      stands i low = alike_right total x (get_or ks j d) (get_or ks i d) is ∙ places_agree i j low within

      rises : (a b : ℕ) → a ≤ b → b < length ks → ordering_index (kcmp (get_or ks a d) x) ≤ ordering_index (kcmp (get_or ks b d) x)
      rises a b up under = subst (λ v. ordering_index v ≤ ordering_index (kcmp (get_or ks b d) x)) (sym (stands a (omega (arith, up, under)))) (subst (λ v. ordering_index (nat_cmp a j) ≤ ordering_index v) (sym (stands b under)) (index_rises a b j up))

      not_less : kcmp (get_or ks j d) x ≡ Less → ⊥
      not_less e = let h : Equal ≡ Less = sym (tied_back total x (get_or ks j d) is) ∙ e in absurd (cc)

      not_greater : kcmp (get_or ks j d) x ≡ Greater → ⊥
      not_greater e = let h : Equal ≡ Greater = sym (tied_back total x (get_or ks j d) is) ∙ e in absurd (cc)

  -- a search for a key that is there finds its place
  pub search_is : (ks : List K) → IsStrictlySortedBy kcmp ks → (x : K) (j : ℕ) → j < length ks → ((d : K) → kcmp x (get_or ks j d) ≡ Equal) → (r : Result ℕ ℕ) → IsBinarySearchResult (λ y. kcmp y x) ks r → MatchResult r (λ i. i < length ks) (λ i. i ≤ length ks) → MatchResult r (λ i. i ≡ j) (λ i. ⊥)
  search_is ks sorted x j within is (Ok i) h low = exact_unsigned i j (sym (stands ks sorted x x j within (is x) i low) ∙ h x)
  search_is ks sorted x j within is (Err i) h low = sides (nat_le i j) refl (h (λ a b d up under. rises ks sorted d x j within (is d) a b up under)) where
    sides : (b : Bool) → nat_le i j ≡ b → IsPartitionPoint (λ y. kcmp y x ≡ Less) (λ y. kcmp y x ≡ Greater) ks i → ⊥
    sides true e p = not_greater ks sorted x x j within (is x) (p.1 j x (grind (arith, nat_tests, e)) within)
    sides false e p = not_less ks sorted x x j within (is x) (p.0 j x (omega arith) (grind (arith, nat_tests, e)))

-- ---- keys that have cells

module _ {K C : Type 0} (kcmp : K → K → Ordering) (total : IsTotalOrder kcmp) (cell : K → C) (order : C → C → Ordering) (told : (a b : K) → kcmp a b ≡ order (cell a) (cell b)) where
  -- the cells of the first nodes are there, and the next node's
  pub one_key_more : (at : ℕ → C) (n : ℕ) (ks more : List K) (k : K) → more ≡ insert_key kcmp ks k → cell k ≡ at n → ((m : ℕ) → m < n → list_any (λ x. is_eq (order (at m) (cell x))) ks ≡ true) → (m : ℕ) → m < n + 1 → list_any (λ x. is_eq (order (at m) (cell x))) more ≡ true
  one_key_more at n ks more k is has h m low = subst (λ v. list_any (λ x. is_eq (order (at m) (cell x))) v ≡ true) (sym is) (by (nat_lt m n) refl) where
    new : list_any (λ x. is_eq (order (at n) (cell x))) (insert_key kcmp ks k) ≡ true
    new = subst (λ v. list_any (λ x. is_eq (order v (cell x))) (insert_key kcmp ks k) ≡ true) has (sym (λ i. list_any (λ x. is_eq (told k x i)) (insert_key kcmp ks k)) ∙ comes kcmp total k ks)

    by : (b : Bool) → nat_lt m n ≡ b → list_any (λ x. is_eq (order (at m) (cell x))) (insert_key kcmp ks k) ≡ true
    by true e = stays kcmp total (λ x. is_eq (order (at m) (cell x))) k ks (h m (grind (arith, nat_tests, e)))
    by false e =
        let same : n ≡ m = grind (arith, nat_tests, e, low) in
        subst (λ v. list_any (λ x. is_eq (order (at v) (cell x))) (insert_key kcmp ks k) ≡ true) same new

  -- what is there in cells is there in keys
  pub key_there : (c : C) (k : K) (ks : List K) → cell k ≡ c → list_any (λ x. is_eq (order c (cell x))) ks ≡ true → list_any (λ x. is_eq (kcmp k x)) ks ≡ true
  key_there c k ks is h = (λ i. list_any (λ x. is_eq (told k x i)) ks) ∙ subst (λ v. list_any (λ x. is_eq (order v (cell x))) ks ≡ true) (sym is) h

  -- cells stand to each other as their places do
  pub cells_agree : (ks : List K) → IsStrictlySortedBy kcmp ks → (d : K) (c : C) (i j : ℕ) → i < length (map cell ks) → j < length (map cell ks) → order (get_or (map cell ks) i c) (get_or (map cell ks) j c) ≡ nat_cmp i j
  cells_agree ks sorted d c i j p q =
      let pi : i < length ks = subst (λ n. i < n) (length-map ks cell) p in
      let qi : j < length ks = subst (λ n. j < n) (length-map ks cell) q in
      ap (λ v. order v (get_or (map cell ks) j c)) (get_or-map cell ks i d c pi) ∙ ap (λ v. order (cell (get_or ks i d)) v) (get_or-map cell ks j d c qi) ∙ sym (told (get_or ks i d) (get_or ks j d)) ∙ places_agree kcmp total ks sorted d i j pi qi

-- cells that compare as equal are one
pub cell_same : (a b : Cell) → cell_order a b ≡ Equal → a ≡ b
cell_same Cell.absent Cell.absent e = refl
cell_same (Cell.int a) (Cell.int b) e = ap (λ v. Cell.int v) (exact_signed a b e)
cell_same (Cell.bool false) (Cell.bool false) e = refl
cell_same (Cell.bool true) (Cell.bool true) e = refl
cell_same (Cell.bool false) (Cell.bool true) e = absurd (cc)
cell_same (Cell.bool true) (Cell.bool false) e = absurd (cc)
cell_same (Cell.str a) (Cell.str b) e = ap (λ v. Cell.str v) (exact_bytes a b e)
cell_same Cell.absent (Cell.int b) e = absurd (cc)
cell_same Cell.absent (Cell.bool b) e = absurd (cc)
cell_same Cell.absent (Cell.str b) e = absurd (cc)
cell_same (Cell.int a) Cell.absent e = absurd (cc)
cell_same (Cell.int a) (Cell.bool b) e = absurd (cc)
cell_same (Cell.int a) (Cell.str b) e = absurd (cc)
cell_same (Cell.bool a) Cell.absent e = absurd (cc)
cell_same (Cell.bool a) (Cell.int b) e = absurd (cc)
cell_same (Cell.bool a) (Cell.str b) e = absurd (cc)
cell_same (Cell.str a) Cell.absent e = absurd (cc)
cell_same (Cell.str a) (Cell.int b) e = absurd (cc)
cell_same (Cell.str a) (Cell.bool b) e = absurd (cc)

-- the place of one node more
pub one_place_more : (places next : List ℕ) (n p bound : ℕ) (cells : List Cell) (at : ℕ → Cell) → next ≡ places ++ p ∷ [] → length places ≡ n → p < bound → get_or cells p Cell.absent ≡ at n → ((m : ℕ) → m < n → (get_or places m 0 < bound) × (get_or cells (get_or places m 0) Cell.absent ≡ at m)) → (m : ℕ) → m < n + 1 → (get_or next m 0 < bound) × (get_or cells (get_or next m 0) Cell.absent ≡ at m)
one_place_more places next n p bound cells at is count low here before m under = subst (λ v. (get_or v m 0 < bound) × (get_or cells (get_or v m 0) Cell.absent ≡ at m)) (sym is) (by (nat_lt m n) refl) where
  by : (b : Bool) → nat_lt m n ≡ b → (get_or (places ++ p ∷ []) m 0 < bound) × (get_or cells (get_or (places ++ p ∷ []) m 0) Cell.absent ≡ at m)
  by true e =
      let old : get_or (places ++ p ∷ []) m 0 ≡ get_or places m 0 = get_or_append_left places (p ∷ []) 0 m (grind (arith, nat_tests, e, count)) in
      subst (λ v. (v < bound) × (get_or cells v Cell.absent ≡ at m)) (sym old) (before m (grind (arith, nat_tests, e)))
  by false e =
      let same : n ≡ m = grind (arith, nat_tests, e, under) in
      let new : get_or (places ++ p ∷ []) m 0 ≡ p = get_or_push places p 0 m (count ∙ same) in
      subst (λ v. (v < bound) × (get_or cells v Cell.absent ≡ at m)) (sym new) (low, here ∙ ap at same)

-- the place of a key has the key's cell
pub place_cell : {K : Type 0} (kcmp : K → K → Ordering) (cell : K → Cell) → ((a b : K) → kcmp a b ≡ cell_order (cell a) (cell b)) → (ks xs : List K) (key d : K) (c : Cell) (p : ℕ) → xs ≡ ks → cell key ≡ c → p < length xs → ((e : K) → is_eq (kcmp key (get_or xs p e)) ≡ true) → (p < length ks) × (get_or (map cell ks) p Cell.absent ≡ c)
place_cell kcmp cell told ks xs key d c p same is low at =
    let within : p < length ks = subst (λ v. p < length v) same low in
    let tie : kcmp key (get_or ks p d) ≡ Equal = subst (λ v. kcmp key (get_or v p d) ≡ Equal) same ((Equal-is (kcmp key (get_or xs p d))).0 (at d)) in
    let one : cell key ≡ cell (get_or ks p d) = cell_same (cell key) (cell (get_or ks p d)) (sym (told key (get_or ks p d)) ∙ tie) in
    (within, get_or-map cell ks p d Cell.absent within ∙ sym one ∙ is)

pub one_longer : (xs next : List ℕ) (p n : ℕ) → next ≡ xs ++ p ∷ [] → length xs ≡ n → length next ≡ n + 1
one_longer xs next p n h k = ap length h ∙ length-append xs (p ∷ []) ∙ ap (λ m. m + 1) k
