-- The rows of edges, from the totals of pairs of places.
use Rattle.std.specs.Prelude.{◌≡◌, ℕ, ◌%◌, ◌^◌, ◌<◌, ◌≤◌, ◌==◌, ◌||◌, Bool, true, false, List, [], ◌∷◌, ◌++◌, length, map, filter, if◌then◌else◌, Option, None, Some, refl}
use Rattle.std.specs.declared.cmp.Ordering.{Ordering}
use Rattle.std.specs.declared.cmp.Ordering.TheVariants.{Less, Equal, Greater}
use Rattle.std.specs.Ordering.{is_eq, nat_cmp, ordering_then}
use Rattle.std.specs.Cmp.{IsTotalOrder, tied_itself}
use Rattle.std.proofs.Common.{arith, ap, sym, subst, ◌∙◌}
use Rattle.weighted.specs.Words.{sum_at, word}
use Rattle.weighted.specs.WordLaws.{mapped}
use Rattle.weighted.specs.Alike.{Alike, Alike-is, Alike-trans, words-Alike}
use Rattle.weighted.specs.Normal.{normal, normal-Alike, unique, Below, Rising, Weighty}
use Rattle.weighted.specs.Batches.{IsBatch}
use Rattle.graph_model.specs.GraphData.{GraphData, Cell, ends_of}
use Rattle.flow_core.specs.Runs.{Every}
use Rattle.flow_core.specs.Lists.{Every-map}
use Rattle.reduce_theory.specs.Evaluated.{key_part, has_key}
use Rattle.reduce_theory.specs.ByKey.{by_keys, over, reduce_apply, reduce_part, present, absent}
use Rattle.aggregate_views.specs.declared.cell.GroupRow.{GroupRow}
use Rattle.aggregate_views.specs.declared.part.Part.{Part}
use Rattle.aggregate_views.specs.declared.part.Totals.{Totals}
use Rattle.aggregate_views.specs.declared.part.Part.TheVariants.{Count, Low, High}
use Rattle.aggregate_views.specs.Rows.{cell_order, pair_order, pair_at, placed_by, placed, rising, sum_over, edges_between, row_of, rows_of}
use Rattle.aggregate_views.specs.Coding.{code_pair, decoded, entries_of, exact, part_place, row_at, sum_in, totals_of, Above, AreCodes, HasNumber, IsKnown, IsPair, Rises}
use Rattle.aggregate_views.proofs.Ordered.{distinct_rises, has_rising, rises_rising}
use Rattle.aggregate_views.proofs.Pairs.{added, counted, exact_sum, high_of, high_within, highs, length-filtered, low_of, low_within, lows, no_parts, own_parts, parts_is, Every-filter}

-- ---- lists

map_map : {A B C : Type 0} (f : B → C) (h : A → B) (xs : List A) → map f (map h xs) ≡ map (λ x. f (h x)) xs
map_map f h [] = refl
map_map f h (x ∷ xs) = ap (λ v. f (h x) ∷ v) (map_map f h xs)

map_same : {A B : Type 0} (P : A → Type 0) (f h : A → B) (xs : List A) → Every P xs → ((x : A) → P x → f x ≡ h x) → map f xs ≡ map h xs
map_same P f h [] e same = refl
map_same P f h (x ∷ xs) e same = ap (λ v. v ∷ map f xs) (same x e.0) ∙ ap (λ v. h x ∷ v) (map_same P f h xs e.1 same)

filter_same_by : {A : Type 0} (x : A) (a b : Bool) (xs ys : List A) → a ≡ b → xs ≡ ys → (if a then x ∷ xs else xs) ≡ (if b then x ∷ ys else ys)
filter_same_by x a b xs ys h k = ap (λ c. if c then x ∷ xs else xs) h ∙ ap (λ v. if b then x ∷ v else v) k

filter_same : {A : Type 0} (P : A → Type 0) (p q : A → Bool) (xs : List A) → Every P xs → ((x : A) → P x → p x ≡ q x) → filter p xs ≡ filter q xs
filter_same P p q [] e same = refl
filter_same P p q (x ∷ xs) e same = filter_same_by x (p x) (q x) (filter p xs) (filter q xs) (same x e.0) (filter_same P p q xs e.1 same)

Every-mapped : {A B : Type 0} (P : B → Type 0) (Q : A → Type 0) (f : A → B) (xs : List A) → Every Q xs → ((x : A) → Q x → P (f x)) → Every P (map f xs)
Every-mapped P Q f [] e h = tt
Every-mapped P Q f (x ∷ xs) e h = (h x e.0, Every-mapped P Q f xs e.1 h)

Every-both : {A : Type 0} (P Q : A → Type 0) (xs : List A) → Every P xs → Every Q xs → Every (λ x. P x × Q x) xs
Every-both P Q [] h k = tt
Every-both P Q (x ∷ xs) h k = ((h.0, k.0), Every-both P Q xs h.1 k.1)

-- ---- in two orders that agree

module _ {A B : Type 0} (f : A → B) (order : A → A → Ordering) (other : B → B → Ordering) (P : A → Type 0) (agree : (x y : A) → P x → P y → other (f x) (f y) ≡ order x y) where
  map_by : (x y : A) (ys rest : List A) (r : Ordering) → map f (placed_by r x y ys rest) ≡ placed_by r (f x) (f y) (map f ys) (map f rest)
  map_by x y ys rest Less = refl
  map_by x y ys rest Equal = refl
  map_by x y ys rest Greater = refl

  map_placed : (x : A) (ys : List A) → P x → Every P ys → map f (placed order x ys) ≡ placed other (f x) (map f ys)
  map_placed x [] p h = refl
  map_placed x (y ∷ ys) p h = map_by x y ys (placed order x ys) (order x y) ∙ ap (λ r. placed_by r (f x) (f y) (map f ys) (map f (placed order x ys))) (sym (agree x y p h.0)) ∙ ap (λ v. placed_by (other (f x) (f y)) (f x) (f y) (map f ys) v) (map_placed x ys p h.1)

  every_by : (x y : A) (ys rest : List A) (r : Ordering) → P x → P y → Every P ys → Every P rest → Every P (placed_by r x y ys rest)
  every_by x y ys rest Less p q h k = (p, (q, h))
  every_by x y ys rest Equal p q h k = (q, h)
  every_by x y ys rest Greater p q h k = (q, k)

  every_placed : (x : A) (ys : List A) → P x → Every P ys → Every P (placed order x ys)
  every_placed x [] p h = (p, tt)
  every_placed x (y ∷ ys) p h = every_by x y ys (placed order x ys) (order x y) p h.0 h.1 (every_placed x ys p h.1)

  every_rising : (xs : List A) → Every P xs → Every P (rising order xs)
  every_rising [] h = tt
  every_rising (x ∷ xs) h = every_placed x (rising order xs) h.0 (every_rising xs h.1)

  map_rising : (xs : List A) → Every P xs → map f (rising order xs) ≡ rising other (map f xs)
  map_rising [] h = refl
  map_rising (x ∷ xs) h = map_placed x (rising order xs) h.0 (every_rising xs h.1) ∙ ap (placed other (f x)) (map_rising xs h.1)

-- ---- members of a list

module _ {A : Type 0} (order : A → A → Ordering) (itself : (x : A) → order x x ≡ Equal) where
  or_after : (a b : Bool) → b ≡ true → a || b ≡ true
  or_after true b h = refl
  or_after false b h = h

  has_own : (xs : List A) → Every (λ x. has_key order x xs ≡ true) xs
  has_own [] = tt
  has_own (x ∷ xs) = (ap (λ r. is_eq r || has_key order x xs) (itself x), Every-map (λ y. has_key order y xs ≡ true) (λ y. has_key order y (x ∷ xs) ≡ true) xs (λ y h. or_after (is_eq (order x y)) (has_key order y xs) h) (has_own xs))

-- ---- the totals of a pair

small : (n : ℕ) → n < 2 ^ 64 → n % 2 ^ 64 ≡ n
small n h = omega (arith, h)

nonzero : (n : ℕ) → 1 ≤ n → (n == 0) ≡ false
nonzero n h = grind (arith, h)

module _ (kcmp : ℕ × ℕ → ℕ × ℕ → Ordering) (total : IsTotalOrder kcmp) (same : (x y : ℕ × ℕ) → kcmp x y ≡ Equal → x ≡ y) (pcmp : Part → Part → Ordering) (ptotal : IsTotalOrder pcmp) (psame : (x y : Part) → pcmp x y ≡ Equal → x ≡ y) (tells : (a b : Part) → pcmp a b ≡ nat_cmp (part_place a) (part_place b)) (g : GraphData) (places : List ℕ) (es : List ℕ) (few : length es ≤ 4_000_000) where
  itself : (k : ℕ × ℕ) → kcmp k k ≡ Equal
  itself k = tied_itself total k

  abbrev fed : Option ℕ → List (((ℕ × ℕ) × Part) × ℕ)
  fed sum = entries_of g places sum es

  abbrev words : Option ℕ → ℕ × ℕ → List (Part × ℕ)
  words sum k = normal pcmp (key_part kcmp k (fed sum))

  abbrev part : Option ℕ → ℕ × ℕ → List (Totals × ℕ)
  part sum k = totals_of pcmp (words sum k)

  abbrev pairs : List (ℕ × ℕ)
  pairs = map (code_pair g places) es

  abbrev keys : List (ℕ × ℕ)
  keys = rising kcmp pairs

  abbrev found : Option ℕ → ℕ × ℕ → Totals
  found sum k = record { count = word pcmp (words sum k) Count; low = word pcmp (words sum k) Low; high = word pcmp (words sum k) High }

  -- the edges of the pair
  abbrev own : ℕ × ℕ → List ℕ
  own k = filter (λ e. is_eq (kcmp (code_pair g places e) k)) es

  word_is : (sum : Option ℕ) (k : ℕ × ℕ) (p : Part) → word pcmp (words sum k) p ≡ sum_at pcmp (own_parts kcmp same itself g places sum k es) p % 2 ^ 64
  word_is sum k p = (words-Alike pcmp (words sum k) (key_part kcmp k (fed sum)) (normal-Alike pcmp ptotal psame (key_part kcmp k (fed sum)))).words p ∙ ap (λ v. sum_at pcmp v p % 2 ^ 64) (parts_is kcmp same itself g places sum k es)

  own_few : (k : ℕ × ℕ) → length (own k) ≤ 4_000_000
  own_few k = omega (arith, few, length-filtered (λ e. is_eq (kcmp (code_pair g places e) k)) es)

  count_is : (sum : Option ℕ) (k : ℕ × ℕ) → (found sum k).count ≡ length (own k)
  count_is sum k = word_is sum k Count ∙ ap (λ n. n % 2 ^ 64) (counted pcmp tells g kcmp same itself places sum k es) ∙ small (length (own k)) (omega (arith, own_few k))

  sum_is : (sum : Option ℕ) (k : ℕ × ℕ) → Every (HasNumber g sum) (own k) → sum_in sum (found sum k) ≡ sum_over g sum (own k)
  sum_is None k h = refl
  sum_is (Some column) k h =
      let low : (found (Some column) k).low ≡ added (low_of g column) (own k) = word_is (Some column) k Low ∙ ap (λ n. n % 2 ^ 64) (lows pcmp tells g kcmp same itself places (Some column) k column refl es) ∙ small (added (low_of g column) (own k)) (omega (arith, own_few k, low_within g column (own k))) in
      let high : (found (Some column) k).high ≡ added (high_of g column) (own k) = word_is (Some column) k High ∙ ap (λ n. n % 2 ^ 64) (highs pcmp tells g kcmp same itself places (Some column) k column refl es) ∙ small (added (high_of g column) (own k)) (omega (arith, own_few k, high_within g column (own k) h)) in
      ap (λ n. exact n (found (Some column) k).low (found (Some column) k).high) (count_is (Some column) k)
      ∙ ap (λ n. exact (length (own k)) n (found (Some column) k).high) low
      ∙ ap (λ n. exact (length (own k)) (added (low_of g column) (own k)) n) high
      ∙ exact_sum g column (own k) h

  -- ---- what the reduce makes

  some_by : (e : ℕ) (xs : List ℕ) (b r : Bool) (n : ℕ) → b || r ≡ true → (r ≡ true → 1 ≤ length xs) → 1 ≤ length (if b then e ∷ xs else xs)
  some_by e xs true r n h go = omega arith
  some_by e xs false r n h go = go h

  some_in : (k : ℕ × ℕ) (fs : List ℕ) → has_key kcmp k (map (code_pair g places) fs) ≡ true → 1 ≤ length (filter (λ e. is_eq (kcmp (code_pair g places e) k)) fs)
  some_in k [] h = absurd (cc)
  some_in k (e ∷ fs) h = some_by e (filter (λ e. is_eq (kcmp (code_pair g places e) k)) fs) (is_eq (kcmp (code_pair g places e) k)) (has_key kcmp k (map (code_pair g places) fs)) 0 h (some_in k fs)

  part_is : (sum : Option ℕ) (k : ℕ × ℕ) → has_key kcmp k pairs ≡ true → part sum k ≡ (found sum k, 1) ∷ []
  part_is sum k h = ap (λ b. if b then [] else (found sum k, 1) ∷ []) (ap (λ n. n == 0) (count_is sum k) ∙ nonzero (length (own k)) (some_in k es h))

  abbrev listed : Option ℕ → List (ℕ × ℕ) → List (((ℕ × ℕ) × Totals) × ℕ)
  listed sum ks = map (λ k. ((k, found sum k), 1)) ks

  over_is : (sum : Option ℕ) (ks : List (ℕ × ℕ)) → Every (λ k. has_key kcmp k pairs ≡ true) ks → over (part sum) ks ≡ listed sum ks
  over_is sum [] h = refl
  over_is sum (k ∷ ks) h = ap (λ v. mapped (λ o. (k, o)) v ++ over (part sum) ks) (part_is sum k h.0) ∙ ap (λ v. ((k, found sum k), 1) ∷ v) (over_is sum ks h.1)

  keys_there : Every (λ k. has_key kcmp k pairs ≡ true) keys
  keys_there = Every-map (λ k. has_key kcmp k keys ≡ true) (λ k. has_key kcmp k pairs ≡ true) keys (λ k h. sym (has_rising kcmp total same k pairs) ∙ h) (has_own kcmp itself keys)

  part_none : (sum : Option ℕ) (k : ℕ × ℕ) → has_key kcmp k pairs ≡ false → part sum k ≡ []
  part_none sum k h = ap (λ v. totals_of pcmp (normal pcmp v)) (parts_is kcmp same itself g places sum k es ∙ no_parts kcmp same itself g places sum k es h)

  at_key : (sum : Option ℕ) (k : ℕ × ℕ) (b : Bool) → has_key kcmp k keys ≡ b → key_part kcmp k (over (part sum) keys) ≡ part sum k
  at_key sum k true h = present kcmp same itself (part sum) keys k (distinct_rises kcmp total same keys (rises_rising kcmp total same pairs)) h
  at_key sum k false h = absent kcmp same itself (part sum) keys k h ∙ sym (part_none sum k (sym (has_rising kcmp total same k pairs) ∙ h))

  made_is : (sum : Option ℕ) → Alike (reduce_apply kcmp pcmp (λ _. totals_of pcmp) (fed sum)) (listed sum keys)
  made_is sum = Alike-trans (by_keys kcmp same itself (reduce_apply kcmp pcmp (λ _. totals_of pcmp) (fed sum)) (over (part sum) keys) (λ k. Alike-is (reduce_part kcmp same itself pcmp (λ _. totals_of pcmp) (λ _. refl) (fed sum) k ∙ sym (at_key sum k (has_key kcmp k keys) refl)))) (Alike-is (over_is sum keys keys_there))

  module _ (rcmp : (ℕ × ℕ) × Totals → (ℕ × ℕ) × Totals → Ordering) (rtotal : IsTotalOrder rcmp) (rsame : (x y : (ℕ × ℕ) × Totals) → rcmp x y ≡ Equal → x ≡ y) (first : (x y : (ℕ × ℕ) × Totals) → kcmp x.0 y.0 ≡ Less → rcmp x y ≡ Less) where
    listed_below : (sum : Option ℕ) (k : ℕ × ℕ) (ks : List (ℕ × ℕ)) → Above kcmp k ks → Below rcmp (k, found sum k) (listed sum ks)
    listed_below sum k [] a = tt
    listed_below sum k (j ∷ ks) a = (first (k, found sum k) (j, found sum j) a.0, listed_below sum k ks a.1)

    listed_rising : (sum : Option ℕ) (ks : List (ℕ × ℕ)) → Rises kcmp ks → Rising rcmp (listed sum ks)
    listed_rising sum [] r = tt
    listed_rising sum (k ∷ ks) r = (listed_below sum k ks r.0, listed_rising sum ks r.1)

    listed_weighty : (sum : Option ℕ) (ks : List (ℕ × ℕ)) → Weighty (listed sum ks)
    listed_weighty sum [] = tt
    listed_weighty sum (k ∷ ks) = ((λ e. absurd (omega (arith, e))), omega arith, listed_weighty sum ks)

    pub held_listed : (sum : Option ℕ) (held : List (((ℕ × ℕ) × Totals) × ℕ)) → IsBatch rcmp held → Alike held (reduce_apply kcmp pcmp (λ _. totals_of pcmp) (fed sum)) → held ≡ listed sum keys
    held_listed sum held batch a = unique rcmp rtotal rsame held (listed sum keys) batch.rising batch.weighty (listed_rising sum keys (rises_rising kcmp total same pairs)) (listed_weighty sum keys) (Alike-trans a (made_is sum))

    -- ---- the rows

    module _ (lexical : (x y : ℕ × ℕ) → kcmp x y ≡ ordering_then (nat_cmp x.0 y.0) (nat_cmp x.1 y.1)) (column : ℕ) (cells : List Cell) (codes : AreCodes g column cells places) (sum : Option ℕ) (known : Every (IsKnown g sum) es) where
      agree : (x y : ℕ × ℕ) → IsPair (length cells) x → IsPair (length cells) y → pair_order (decoded cells x) (decoded cells y) ≡ kcmp x y
      agree x y p q = ap (λ r. ordering_then r (cell_order (decoded cells x).1 (decoded cells y).1)) (codes.order x.0 y.0 p.0 q.0) ∙ ap (λ r. ordering_then (nat_cmp x.0 y.0) r) (codes.order x.1 y.1 p.1 q.1) ∙ sym (lexical x y)

      pair_valid : (e : ℕ) → IsKnown g sum e → IsPair (length cells) (code_pair g places e)
      pair_valid e k = ((codes.each (ends_of g e).0.0 k.from).0, (codes.each (ends_of g e).1.0 k.to).0)

      pair_decoded : (e : ℕ) → IsKnown g sum e → pair_at g column e ≡ decoded cells (code_pair g places e)
      pair_decoded e k = sym (ap (λ v. (v, (decoded cells (code_pair g places e)).1)) (codes.each (ends_of g e).0.0 k.from).1 ∙ ap (λ v. ((pair_at g column e).0, v)) (codes.each (ends_of g e).1.0 k.to).1)

      pairs_valid : Every (IsPair (length cells)) pairs
      pairs_valid = Every-mapped (IsPair (length cells)) (IsKnown g sum) (code_pair g places) es known pair_valid

      pairs_decoded : map (pair_at g column) es ≡ map (decoded cells) pairs
      pairs_decoded = map_same (IsKnown g sum) (pair_at g column) (λ e. decoded cells (code_pair g places e)) es known pair_decoded ∙ sym (map_map (decoded cells) (code_pair g places) es)

      own_is : (k : ℕ × ℕ) → IsPair (length cells) k → own k ≡ edges_between g column (decoded cells k) es
      own_is k p = filter_same (IsKnown g sum) (λ e. is_eq (kcmp (code_pair g places e) k)) (λ e. is_eq (pair_order (pair_at g column e) (decoded cells k))) es known (λ e h. sym (ap (λ v. is_eq (pair_order v (decoded cells k))) (pair_decoded e h) ∙ ap is_eq (agree (code_pair g places e) k (pair_valid e h) p)))

      own_numbers : (k : ℕ × ℕ) → Every (HasNumber g sum) (own k)
      own_numbers k = Every-filter (HasNumber g sum) (λ e. is_eq (kcmp (code_pair g places e) k)) es (Every-map (IsKnown g sum) (HasNumber g sum) es (λ e h. h.number) known)

      row_is : (k : ℕ × ℕ) → IsPair (length cells) k → row_at cells sum (k, found sum k) ≡ row_of g column sum es (decoded cells k)
      row_is k p =
          let one : GroupRow = row_at cells sum (k, found sum k) in
          ap (λ n. record { from = one.from; to = one.to; count = n; sum = one.sum }) (count_is sum k ∙ ap length (own_is k p))
          ∙ ap (λ z. record { from = one.from; to = one.to; count = length (edges_between g column (decoded cells k) es); sum = z }) (sum_is sum k (own_numbers k) ∙ ap (sum_over g sum) (own_is k p))

      pub rows_are : (held : List (((ℕ × ℕ) × Totals) × ℕ)) → IsBatch rcmp held → Alike held (reduce_apply kcmp pcmp (λ _. totals_of pcmp) (fed sum)) → map (λ e. row_at cells sum e.0) held ≡ rows_of g column sum es
      rows_are held batch a =
          ap (map (λ e. row_at cells sum e.0)) (held_listed sum held batch a)
          ∙ map_map (λ e. row_at cells sum e.0) (λ k. ((k, found sum k), 1)) keys
          ∙ map_same (IsPair (length cells)) (λ k. row_at cells sum (k, found sum k)) (λ k. row_of g column sum es (decoded cells k)) keys (every_rising (decoded cells) kcmp pair_order (IsPair (length cells)) agree pairs pairs_valid) row_is
          ∙ sym (map_map (row_of g column sum es) (decoded cells) keys)
          ∙ ap (map (row_of g column sum es)) (map_rising (decoded cells) kcmp pair_order (IsPair (length cells)) agree pairs pairs_valid ∙ ap (rising pair_order) (sym pairs_decoded))

      -- each pair that is held is one of places
      pub held_valid : (held : List (((ℕ × ℕ) × Totals) × ℕ)) → IsBatch rcmp held → Alike held (reduce_apply kcmp pcmp (λ _. totals_of pcmp) (fed sum)) → Every (λ e. IsPair (length cells) e.0.0) held
      held_valid held batch a = subst (λ v. Every (λ e. IsPair (length cells) e.0.0) v) (sym (held_listed sum held batch a)) (Every-mapped (λ e. IsPair (length cells) e.0.0) (IsPair (length cells)) (λ k. ((k, found sum k), 1)) keys (every_rising (decoded cells) kcmp pair_order (IsPair (length cells)) agree pairs pairs_valid) (λ k h. h))
