-- What the entries of edges come to, pair by pair.
use Rattle.std.specs.Prelude.{◌≡◌, ℕ, ℤ, pos, negsuc, ◌+ℤ◌, ◌-ℤ◌, int_lt, ◌+◌, ◌-◌, ◌*◌, ◌/◌, ◌%◌, ◌^◌, ◌<◌, ◌≤◌, ◌||◌, Bool, true, false, List, [], ◌∷◌, ◌++◌, length, map, filter, if◌then◌else◌, Option, None, Some, refl}
use Rattle.std.specs.Int.{w64}
use Rattle.std.specs.Int.RustNames.{unsigned_abs, FitsSigned}
use Rattle.std.specs.declared.cmp.Ordering.{Ordering}
use Rattle.std.specs.declared.cmp.Ordering.TheVariants.{Equal}
use Rattle.std.specs.Ordering.{is_eq, nat_cmp}
use Rattle.std.proofs.Common.{arith, ap, ◌∙◌}
use Rattle.std.proofs.lemmas.Bool.Decides.{nat_tests}
use Rattle.std.proofs.lemmas.Int.{ints}
use Rattle.weighted.specs.Words.{sum_at}
use Rattle.weighted.specs.WordLaws.{mapped, sum_at-append}
use Rattle.graph_model.specs.GraphData.{GraphData, edge_cell_of}
use Rattle.flow_core.specs.Runs.{Every}
use Rattle.reduce_theory.specs.Evaluated.{key_part, has_key}
use Rattle.reduce_theory.specs.ByKey.{part-append}
use Rattle.aggregate_views.specs.Rows.{number_in, sum_over}
use Rattle.aggregate_views.specs.declared.part.Part.{Part}
use Rattle.aggregate_views.specs.declared.part.Part.TheVariants.{Count, Low, High}
use Rattle.aggregate_views.specs.Coding.{code_pair, edge_parts, edge_entries, entries_of, shifted, shifted_at, exact, part_place, HasNumber}

-- ---- the parts of the edges of a pair

module _ (kcmp : ℕ × ℕ → ℕ × ℕ → Ordering) (same : (x y : ℕ × ℕ) → kcmp x y ≡ Equal → x ≡ y) (itself : (x : ℕ × ℕ) → kcmp x x ≡ Equal) (g : GraphData) (places : List ℕ) (sum : Option ℕ) (k : ℕ × ℕ) where
  -- whether an edge is one of the pair
  abbrev pub goes : ℕ → Bool
  goes e = is_eq (kcmp (code_pair g places e) k)

  abbrev pub own_parts : List ℕ → List (Part × ℕ)
  own_parts [] = []
  own_parts (e ∷ es) = (if goes e then edge_parts g sum e else []) ++ own_parts es

  part_mapped : (j : ℕ × ℕ) (zs : List (Part × ℕ)) → key_part kcmp k (mapped (λ o. (j, o)) zs) ≡ (if is_eq (kcmp j k) then zs else [])
  part_mapped j [] = elim (is_eq (kcmp j k)) as (λ b. ◌≡◌ {A = List (Part × ℕ)} [] (if b then [] else [])) [ true ↦ refl | false ↦ refl ]
  part_mapped j (z ∷ zs) = ap (λ v. if is_eq (kcmp j k) then z ∷ v else v) (part_mapped j zs) ∙ by (is_eq (kcmp j k)) where
    by : (b : Bool) → (if b then z ∷ (if b then zs else []) else (if b then zs else [])) ≡ (if b then z ∷ zs else [])
    by true = refl
    by false = refl

  pub parts_is : (es : List ℕ) → key_part kcmp k (entries_of g places sum es) ≡ own_parts es
  parts_is [] = refl
  parts_is (e ∷ es) = part-append kcmp same itself k (edge_entries g places sum e) (entries_of g places sum es) ∙ ap (λ v. v ++ key_part kcmp k (entries_of g places sum es)) (part_mapped (code_pair g places e) (edge_parts g sum e)) ∙ ap (λ v. (if goes e then edge_parts g sum e else []) ++ v) (parts_is es)

  -- an edge of no other pair
  none_by : (e : ℕ) (es : List ℕ) (b r : Bool) → b || r ≡ false → (r ≡ false → own_parts es ≡ []) → (if b then edge_parts g sum e else []) ++ own_parts es ≡ []
  none_by e es true r h go = absurd (cc)
  none_by e es false r h go = go h

  pub no_parts : (es : List ℕ) → has_key kcmp k (map (code_pair g places) es) ≡ false → own_parts es ≡ []
  no_parts [] h = refl
  no_parts (e ∷ es) h = none_by e es (goes e) (has_key kcmp k (map (code_pair g places) es)) h (no_parts es)

-- ---- their sums

abbrev pub added : (ℕ → ℕ) → List ℕ → ℕ
added f [] = 0
added f (x ∷ xs) = f x + added f xs

added_one : (xs : List ℕ) → added (λ _. 1) xs ≡ length xs
added_one [] = refl
added_one (x ∷ xs) = omega (arith, added_one xs)

added_within : (f : ℕ → ℕ) (most : ℕ) (xs : List ℕ) → Every (λ x. f x ≤ most) xs → added f xs ≤ most * length xs
added_within f most [] h = omega arith
added_within f most (x ∷ xs) h = step (f x) (added f xs) most (length xs) (length (x ∷ xs)) (omega arith) h.0 (added_within f most xs h.1) where
  step : (a b m n k : ℕ) → k ≡ 1 + n → a ≤ m → b ≤ m * n → a + b ≤ m * k
  step a b m n k e p q = rw e (omega (arith, p, q))

filtered_by : (f : ℕ → ℕ) (x : ℕ) (b : Bool) (n : ℕ) (xs : List ℕ) → n ≡ added f xs → (if b then f x else 0) + n ≡ added f (if b then x ∷ xs else xs)
filtered_by f x true n xs h = omega (arith, h)
filtered_by f x false n xs h = omega (arith, h)

Every-filter_by : (P : ℕ → Type 0) (x : ℕ) (b : Bool) (xs : List ℕ) → P x → Every P xs → Every P (if b then x ∷ xs else xs)
Every-filter_by P x true xs p h = (p, h)
Every-filter_by P x false xs p h = h

pub Every-filter : (P : ℕ → Type 0) (test : ℕ → Bool) (xs : List ℕ) → Every P xs → Every P (filter test xs)
Every-filter P test [] h = tt
Every-filter P test (x ∷ xs) h = Every-filter_by P x (test x) (filter test xs) h.0 (Every-filter P test xs h.1)

length-filter_by : (x : ℕ) (b : Bool) (xs : List ℕ) (n : ℕ) → length xs ≤ n → length (if b then x ∷ xs else xs) ≤ 1 + n
length-filter_by x true xs n h = omega (arith, h)
length-filter_by x false xs n h = omega (arith, h)

pub length-filtered : (test : ℕ → Bool) (xs : List ℕ) → length (filter test xs) ≤ length xs
length-filtered test [] = omega arith
length-filtered test (x ∷ xs) = omega (arith, length-filter_by x (test x) (filter test xs) (length xs) (length-filtered test xs))

module _ (pcmp : Part → Part → Ordering) (tells : (a b : Part) → pcmp a b ≡ nat_cmp (part_place a) (part_place b)) (g : GraphData) where
  count_part : (sum : Option ℕ) (e : ℕ) → sum_at pcmp (edge_parts g sum e) Count ≡ 1
  count_part None e = rw (tells Count Count) refl
  count_part (Some column) e = rw (tells Count Count, tells Low Count, tells High Count) refl

  low_part : (column e : ℕ) → sum_at pcmp (edge_parts g (Some column) e) Low ≡ shifted_at g column e % 4_294_967_296
  low_part column e = rw (tells Count Low, tells Low Low, tells High Low) (omega arith)

  high_part : (column e : ℕ) → sum_at pcmp (edge_parts g (Some column) e) High ≡ shifted_at g column e / 4_294_967_296
  high_part column e = rw (tells Count High, tells Low High, tells High High) (omega arith)

  module _ (kcmp : ℕ × ℕ → ℕ × ℕ → Ordering) (same : (x y : ℕ × ℕ) → kcmp x y ≡ Equal → x ≡ y) (itself : (x : ℕ × ℕ) → kcmp x x ≡ Equal) (places : List ℕ) (sum : Option ℕ) (k : ℕ × ℕ) where
    abbrev parts : List ℕ → List (Part × ℕ)
    parts es = own_parts kcmp same itself g places sum k es

    abbrev is_own : ℕ → Bool
    is_own e = goes kcmp same itself g places sum k e

    one_by : (part : Part) (f : ℕ → ℕ) (e : ℕ) (b : Bool) → sum_at pcmp (edge_parts g sum e) part ≡ f e → sum_at pcmp (if b then edge_parts g sum e else []) part ≡ (if b then f e else 0)
    one_by part f e true h = h
    one_by part f e false h = refl

    sums : (part : Part) (f : ℕ → ℕ) → ((e : ℕ) → sum_at pcmp (edge_parts g sum e) part ≡ f e) → (es : List ℕ) → sum_at pcmp (parts es) part ≡ added f (filter is_own es)
    sums part f h [] = refl
    sums part f h (e ∷ es) =
        sum_at-append pcmp (if is_own e then edge_parts g sum e else []) (parts es) part
        ∙ ap (λ v. v + sum_at pcmp (parts es) part) (one_by part f e (is_own e) (h e))
        ∙ filtered_by f e (is_own e) (sum_at pcmp (parts es) part) (filter is_own es) (sums part f h es)

    pub counted : (es : List ℕ) → sum_at pcmp (parts es) Count ≡ length (filter is_own es)
    counted es = sums Count (λ _. 1) (count_part sum) es ∙ added_one (filter is_own es)

    pub lows : (column : ℕ) → sum ≡ Some column → (es : List ℕ) → sum_at pcmp (parts es) Low ≡ added (λ e. shifted_at g column e % 4_294_967_296) (filter is_own es)
    lows column is es = sums Low (λ e. shifted_at g column e % 4_294_967_296) (λ e. ap (λ s. sum_at pcmp (edge_parts g s e) Low) is ∙ low_part column e) es

    pub highs : (column : ℕ) → sum ≡ Some column → (es : List ℕ) → sum_at pcmp (parts es) High ≡ added (λ e. shifted_at g column e / 4_294_967_296) (filter is_own es)
    highs column is es = sums High (λ e. shifted_at g column e / 4_294_967_296) (λ e. ap (λ s. sum_at pcmp (edge_parts g s e) High) is ∙ high_part column e) es

-- ---- the exact sum

abbrev pub low_of : GraphData → ℕ → ℕ → ℕ
low_of g column e = shifted_at g column e % 4_294_967_296

abbrev pub high_of : GraphData → ℕ → ℕ → ℕ
high_of g column e = shifted_at g column e / 4_294_967_296

shifted_by : (z : ℤ) (b : Bool) → int_lt z (pos 0) ≡ b → FitsSigned w64 z → pos (if b then 9_223_372_036_854_775_808 - unsigned_abs z else 9_223_372_036_854_775_808 + unsigned_abs z) ≡ z +ℤ pos 9_223_372_036_854_775_808
shifted_by (pos n) true h fits = absurd (grind (arith, nat_tests, h))
shifted_by (pos n) false h fits = ap pos (omega arith)
shifted_by (negsuc n) true h fits = omega (arith, ints, fits)
shifted_by (negsuc n) false h fits = absurd (cc)

shifted_is : (z : ℤ) → FitsSigned w64 z → pos (shifted z) ≡ z +ℤ pos 9_223_372_036_854_775_808
shifted_is z fits = shifted_by z (int_lt z (pos 0)) refl fits

shifted_within : (z : ℤ) (n : ℕ) → FitsSigned w64 z → pos n ≡ z +ℤ pos 9_223_372_036_854_775_808 → n < 2 ^ 64
shifted_within z n fits h = omega (arith, ints, fits, h)

shifted_low : (z : ℤ) → FitsSigned w64 z → shifted z < 2 ^ 64
shifted_low z fits = shifted_within z (shifted z) fits (shifted_is z fits)

exact_step : (z s : ℤ) (w l h n k : ℕ) → k ≡ 1 + n → pos w ≡ z +ℤ pos 9_223_372_036_854_775_808 → pos (h * 4_294_967_296 + l) -ℤ pos (n * 9_223_372_036_854_775_808) ≡ s → pos ((w / 4_294_967_296 + h) * 4_294_967_296 + (w % 4_294_967_296 + l)) -ℤ pos (k * 9_223_372_036_854_775_808) ≡ z +ℤ s
exact_step z s w l h n k e p q = rw e (omega (arith, ints, p, q))

pub exact_sum : (g : GraphData) (column : ℕ) (es : List ℕ) → Every (HasNumber g (Some column)) es → exact (length es) (added (low_of g column) es) (added (high_of g column) es) ≡ sum_over g (Some column) es
exact_sum g column [] h = refl
exact_sum g column (e ∷ es) h = exact_step (number_in (edge_cell_of g e column)) (sum_over g (Some column) es) (shifted_at g column e) (added (low_of g column) es) (added (high_of g column) es) (length es) (length (e ∷ es)) (omega arith) (shifted_is (number_in (edge_cell_of g e column)) h.0) (exact_sum g column es h.1)

pub low_within : (g : GraphData) (column : ℕ) (es : List ℕ) → added (low_of g column) es ≤ 4_294_967_296 * length es
low_within g column es = added_within (low_of g column) 4_294_967_296 es (each es) where
  each : (es : List ℕ) → Every (λ e. low_of g column e ≤ 4_294_967_296) es
  each [] = tt
  each (e ∷ es) = (omega arith, each es)

pub high_within : (g : GraphData) (column : ℕ) (es : List ℕ) → Every (HasNumber g (Some column)) es → added (high_of g column) es ≤ 4_294_967_296 * length es
high_within g column es h = added_within (high_of g column) 4_294_967_296 es (each es h) where
  each : (es : List ℕ) → Every (HasNumber g (Some column)) es → Every (λ e. high_of g column e ≤ 4_294_967_296) es
  each [] h = tt
  each (e ∷ es) h = (omega (arith, shifted_low (number_in (edge_cell_of g e column)) h.0), each es h.1)
