-- The products of one time among those that wait: a range of the map, taken out one by one.
use Rattle.std.proofs.Common.{◌≡◌, ◌∙◌, ℕ, Bool, true, false, List, [], ◌∷◌, map, Ordering, refl, ap, sym}
use Rattle.std.specs.Prelude.{cond, filter, if◌then◌else◌}
use Rattle.std.specs.BTreeMap.{is_at}
use Rattle.std.specs.Cmp.{IsTotalOrder}
use Rattle.std.specs.List.{All}
use Rattle.std.specs.Map.{keys_of, remove_entry}
use Rattle.std.specs.Ordering.{is_eq, is_ne}
use Rattle.std.specs.Set.{remove_key}
use Rattle.std.specs.declared.cmp.Ordering.TheVariants.{Less, Equal}
use Rattle.weighted.specs.Batches.{IsBatch}
use Rattle.weighted.specs.Normal.{Below, Rising, Weighty}
use Rattle.weighted.specs.SumLaws.{filtered}
use Rattle.weighted.specs.WordLaws.{mapped, mapped-is_map}
use Rattle.trace_store.specs.Traces.{in_turn}
use Rattle.flow_core.specs.Runs.{Every}
use Rattle.ordered_pairs.specs.FirstParts.{none_left, one_less}
use Rattle.ordered_pairs.specs.SpanLaws.{between, range_is}
use Rattle.ordered_pairs.specs.Spans.{InSpan}
use Rattle.diff_join.specs.Joins.{products_after, products_at}
use Rattle.diff_join.proofs.Weights.{all_keys, every_key}

-- ---- the same lists in std's words

filtered_is : {R : Type 0} (p : R → Bool) (es : List (R × ℕ)) → filtered p es ≡ filter (λ (e : R × ℕ). p e.0) es
filtered_is p [] = refl
filtered_is p (e ∷ es) = ap (λ v. cond (p e.0) (e ∷ v) v) (filtered_is p es)

removed_is : {R : Type 0} (test : R → Bool) (es : List (R × ℕ)) → remove_entry test es ≡ remove_key (λ (e : R × ℕ). test e.0) es
removed_is test [] = refl
removed_is test (e ∷ es) = ap (λ v. cond (test e.0) es (e ∷ v)) (removed_is test es)

-- without keys there is no entry
pub no_entry : {R : Type 0} (es : List (R × ℕ)) → keys_of es ≡ [] → es ≡ []
no_entry [] h = refl
no_entry (e ∷ es) h = absurd (cc)

-- ---- a part of a collection in normal form is in normal form

module _ {R : Type 0} (cmp : R → R → Ordering) (p : R → Bool) where
  below_by : (x : R) (e : R × ℕ) (rest : List (R × ℕ)) (b : Bool) → cmp x e.0 ≡ Less → Below cmp x rest → Below cmp x (if b then e ∷ rest else rest)
  below_by x e rest true h k = (h, k)
  below_by x e rest false h k = k

  below_part : (x : R) (es : List (R × ℕ)) → Below cmp x es → Below cmp x (filtered p es)
  below_part x [] h = tt
  below_part x (e ∷ es) h = below_by x e (filtered p es) (p e.0) h.0 (below_part x es h.1)

  rising_by : (e : R × ℕ) (rest : List (R × ℕ)) (b : Bool) → Below cmp e.0 rest → Rising cmp rest → Rising cmp (if b then e ∷ rest else rest)
  rising_by e rest true h k = (h, k)
  rising_by e rest false h k = k

  rising_part : (es : List (R × ℕ)) → Rising cmp es → Rising cmp (filtered p es)
  rising_part [] h = tt
  rising_part (e ∷ es) h = rising_by e (filtered p es) (p e.0) (below_part e.0 es h.0) (rising_part es h.1)

  weighty_by : (e : R × ℕ) (es rest : List (R × ℕ)) (b : Bool) → Weighty (e ∷ es) → Weighty rest → Weighty (if b then e ∷ rest else rest)
  weighty_by e es rest true h k = (h.0, h.1, k)
  weighty_by e es rest false h k = k

  weighty_part : (es : List (R × ℕ)) → Weighty es → Weighty (filtered p es)
  weighty_part [] h = tt
  weighty_part (e ∷ es) h = weighty_by e es (filtered p es) (p e.0) h (weighty_part es h.2)

  pub batch_part : (es : List (R × ℕ)) → IsBatch cmp es → IsBatch cmp (filtered p es)
  batch_part es h = record { rising = rising_part es h.rising; weighty = weighty_part es h.weighty }

module _ {R : Type 0} (p : R → Bool) (P : R → Type 0) where
  every_by : (e : R × ℕ) (rest : List (R × ℕ)) (b : Bool) → P e.0 → Every (λ f. P f.0) rest → Every (λ f. P f.0) (if b then e ∷ rest else rest)
  every_by e rest true h k = (h, k)
  every_by e rest false h k = k

  every_part : (es : List (R × ℕ)) → Every (λ f. P f.0) es → Every (λ f. P f.0) (filtered p es)
  every_part [] h = tt
  every_part (e ∷ es) h = every_by e (filtered p es) (p e.0) h.0 (every_part es h.1)

  pub keys_part : (es : List (R × ℕ)) → All P (keys_of es) → All P (keys_of (filtered p es))
  keys_part es h = all_keys P (filtered p es) (every_part es (every_key P es h))

-- ---- the products of one time

module _ {T O : Type 0} (tcmp : T → T → Ordering) (ocmp : O → O → Ordering) (order : IsTotalOrder tcmp) (t : T) where
  -- a product without its weight, and without its time
  abbrev product_of : (T × O) × ℕ → T × O
  product_of e = e.0

  abbrev record_of : (T × O) × ℕ → O × ℕ
  record_of e = (e.0.1, e.1)

  at_is : (es : List ((T × O) × ℕ)) → products_at tcmp t es ≡ map record_of (filter (λ (e : (T × O) × ℕ). is_eq (tcmp e.0.0 t)) es)
  at_is es = ap (mapped (λ (r : T × O). r.1)) (filtered_is (λ (r : T × O). is_eq (tcmp r.0 t)) es) ∙ mapped-is_map (λ (r : T × O). r.1) (filter (λ (e : (T × O) × ℕ). is_eq (tcmp e.0.0 t)) es)

  after_is : (es : List ((T × O) × ℕ)) → products_after tcmp t es ≡ filter (λ (e : (T × O) × ℕ). is_ne (tcmp e.0.0 t)) es
  after_is es = filtered_is (λ (r : T × O). is_ne (tcmp r.0 t)) es

  -- they are a range
  pub range_at : (ends : O × O) (es : List ((T × O) × ℕ)) → All (λ (p : T × O). InSpan ocmp ends p.1) (keys_of es) → mapped (λ (r : T × O). r.1) (filter (λ (e : (T × O) × ℕ). between tcmp ocmp order t ends e.0) es) ≡ products_at tcmp t es
  range_at ends es h = ap (mapped (λ (r : T × O). r.1)) (range_is tcmp ocmp order t ends product_of es h ∙ sym (filtered_is (λ (r : T × O). is_eq (tcmp r.0 t)) es))

  -- without any of them the others are all
  pub none_waits : (es : List ((T × O) × ℕ)) → products_at tcmp t es ≡ [] → products_after tcmp t es ≡ es
  none_waits es h = after_is es ∙ none_left tcmp ocmp order product_of record_of t es (sym (at_is es) ∙ h)

  -- one of them less
  module _ (tsame : (x y : T) → tcmp x y ≡ Equal → x ≡ y) (oitself : (x : O) → ocmp x x ≡ Equal) (y : O × ℕ) (ys : List (O × ℕ)) where
    abbrev without : List ((T × O) × ℕ) → List ((T × O) × ℕ)
    without es = remove_entry (is_at (in_turn tcmp ocmp (t, y.0))) es

    pub one_waits_less : (es new : List ((T × O) × ℕ)) → new ≡ without es → products_at tcmp t es ≡ y ∷ ys → (products_at tcmp t new ≡ ys) × (products_after tcmp t new ≡ products_after tcmp t es)
    one_waits_less es new is h =
        let one = one_less tcmp ocmp order product_of record_of t tsame oitself (λ (r : O × ℕ). r.0) (λ x. refl) y ys es (sym (at_is es) ∙ h) in
        let out = is ∙ removed_is (is_at (in_turn tcmp ocmp (t, y.0))) es in
        (at_is new ∙ ap (λ v. map record_of (filter (λ (e : (T × O) × ℕ). is_eq (tcmp e.0.0 t)) v)) out ∙ one.0, after_is new ∙ ap (filter (λ (e : (T × O) × ℕ). is_ne (tcmp e.0.0 t))) out ∙ one.1 ∙ sym (after_is es))
