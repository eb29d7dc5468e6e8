-- A map of records with weights as a collection: one weight set, and one record taken out.
use Rattle.std.proofs.Common.{◌≡◌, ◌∙◌, ℕ, ◌+◌, ◌*◌, ◌%◌, ◌^◌, ◌<◌, Bool, true, false, List, [], ◌∷◌, ◌++◌, Ordering, Some, None, refl, ap, sym, arith}
use Rattle.std.specs.Prelude.{◌≢◌, cond}
use Rattle.std.specs.BTreeMap.{insert_entry, is_at}
use Rattle.std.specs.Cmp.{IsTotalOrder}
use Rattle.std.specs.List.{All, AllByRecursion}
use Rattle.std.specs.List.Sorted.{IsStrictlySortedBy}
use Rattle.std.specs.Map.{keys_of, lookup, remove_entry}
use Rattle.std.specs.Option.{unwrap_or}
use Rattle.std.specs.Ordering.{is_eq, match_ordering}
use Rattle.std.specs.declared.cmp.Ordering.TheVariants.{Less, Equal, Greater}
use Rattle.std.proofs.lemmas.List.{append-nil}
use Rattle.std.proofs.lemmas.List.Elements.{All-cons, All-head, All-nil, All-tail}
use Rattle.std.proofs.lemmas.Map.Keys.{sorted_head, sorted_tail}
use Rattle.weighted.specs.Alike.{Alike-is, total-append}
use Rattle.weighted.specs.Batches.{IsBatch}
use Rattle.weighted.specs.Normal.{Below, Rising, Weighty, Below-trans, normal, normal-only}
use Rattle.weighted.specs.WordLaws.{cong_mul, total}
use Rattle.flow_core.specs.Lists.{Every-append}
use Rattle.flow_core.specs.Runs.{Every}
use Rattle.diff_join.specs.ListLaws.{Every-normal}

-- ---- what holds of each key

module _ {R : Type 0} (P : R → Type 0) where
  pub every_key : (es : List (R × ℕ)) → All P (keys_of es) → Every (λ e. P e.0) es
  every_key [] h = tt
  every_key (e ∷ es) h = (All-head P e.0 (keys_of es) h, every_key es (All-tail P e.0 (keys_of es) h))

  pub all_keys : (es : List (R × ℕ)) → Every (λ e. P e.0) es → All P (keys_of es)
  all_keys [] h = All-nil P
  all_keys (e ∷ es) h = All-cons P e.0 (keys_of es) h.0 (all_keys es h.1)

  -- the keys of a collection and one more record in normal form
  pub keys_more : (cmp : R → R → Ordering) (es new : List (R × ℕ)) (x : R) (w : ℕ) → new ≡ normal cmp (es ++ (x, w) ∷ []) → P x → All P (keys_of es) → All P (keys_of new)
  keys_more cmp es new x w is p h = all_keys new (rw is (Every-normal cmp P (es ++ (x, w) ∷ []) (Every-append (λ e. P e.0) es ((x, w) ∷ []) (every_key es h) (p, tt))))

module _ {R : Type 0} (cmp : R → R → Ordering) where
  below_keys : (x : R) (es : List (R × ℕ)) → AllByRecursion (λ y. cmp x y ≡ Less) (keys_of es) → Below cmp x es
  below_keys x [] h = tt
  below_keys x (e ∷ es) h = (h.0, below_keys x es h.1)

  rising_keys : (es : List (R × ℕ)) → IsStrictlySortedBy cmp (keys_of es) → Rising cmp es
  rising_keys [] h = tt
  rising_keys (e ∷ es) h = (below_keys e.0 es (sorted_head cmp e.0 (keys_of es) h), rising_keys es (sorted_tail cmp e.0 (keys_of es) h))

  -- ---- the sum with a coefficient per record

  -- the weight of a record
  abbrev weight_at : R → List (R × ℕ) → ℕ
  weight_at x es = unwrap_or (lookup (is_at (cmp x)) es) 0

  none_below : (x : R) (es : List (R × ℕ)) → Below cmp x es → lookup (is_at (cmp x)) es ≡ None
  none_below x [] b = refl
  none_below x (e ∷ es) b = ap (λ o. cond (is_eq o) (Some e.1) (lookup (is_at (cmp x)) es)) b.0 ∙ none_below x es b.1

  module _ (order : IsTotalOrder cmp) (same : (x y : R) → cmp x y ≡ Equal → x ≡ y) (g : R → ℕ) (x : R) where
    set_by : (v : ℕ) (e : R × ℕ) (es : List (R × ℕ)) (o : Ordering) → cmp x e.0 ≡ o → Below cmp e.0 es → total g (insert_entry cmp es x v) + g x * weight_at x es ≡ total g es + g x * v → total g (match_ordering o ((x, v) ∷ e ∷ es) ((e.0, v) ∷ es) (e ∷ insert_entry cmp es x v)) + g x * unwrap_or (cond (is_eq o) (Some e.1) (lookup (is_at (cmp x)) es)) 0 ≡ (g e.0 * e.1 + total g es) + g x * v
    set_by v e es Less h b go =
        let none : weight_at x es ≡ 0 = ap (λ o. unwrap_or o 0) (none_below x es (Below-trans cmp order same x e.0 es h b)) in
        ap (λ n. (g x * v + (g e.0 * e.1 + total g es)) + g x * n) none ∙ turned (g x) (g x * v) (g e.0 * e.1 + total g es) where
          turned : (k a b : ℕ) → (a + b) + k * 0 ≡ b + a
          turned k a b = omega arith
    set_by v e es Equal h b go = ap (λ y. (g y * v + total g es) + g x * e.1) (sym (same x e.0 h)) ∙ turned (g x * v) (total g es) (g x * e.1) ∙ ap (λ y. (g y * e.1 + total g es) + g x * v) (same x e.0 h) where
      turned : (a b c : ℕ) → (a + b) + c ≡ (c + b) + a
      turned a b c = omega arith
    set_by v e es Greater h b go = omega (arith, go)

    total-set : (v : ℕ) (es : List (R × ℕ)) → Rising cmp es → total g (insert_entry cmp es x v) + g x * weight_at x es ≡ total g es + g x * v
    total-set v [] r = turned (g x) (g x * v) where
      turned : (k a : ℕ) → (a + 0) + k * 0 ≡ 0 + a
      turned k a = omega arith
    total-set v (e ∷ es) r = set_by v e es (cmp x e.0) refl r.0 (total-set v es r.1)

    equal_is : (o : Ordering) → is_eq o ≡ true → o ≡ Equal
    equal_is Less h = absurd (cc)
    equal_is Equal h = refl
    equal_is Greater h = absurd (cc)

    out_by : (e : R × ℕ) (es : List (R × ℕ)) (b : Bool) → is_eq (cmp x e.0) ≡ b → total g (remove_entry (is_at (cmp x)) es) + g x * weight_at x es ≡ total g es → total g (cond b es (e ∷ remove_entry (is_at (cmp x)) es)) + g x * unwrap_or (cond b (Some e.1) (lookup (is_at (cmp x)) es)) 0 ≡ g e.0 * e.1 + total g es
    out_by e es true h go = ap (λ y. total g es + g y * e.1) (same x e.0 (equal_is (cmp x e.0) h)) ∙ turned (total g es) (g e.0 * e.1) where
      turned : (a b : ℕ) → a + b ≡ b + a
      turned a b = omega arith
    out_by e es false h go = omega (arith, go)

    total-out : (es : List (R × ℕ)) → total g (remove_entry (is_at (cmp x)) es) + g x * weight_at x es ≡ total g es
    total-out [] = turned (g x) where
      turned : (k : ℕ) → 0 + k * 0 ≡ 0
      turned k = omega arith
    total-out (e ∷ es) = out_by e es (is_eq (cmp x e.0)) refl (total-out es)

  -- ---- no weight is zero

  weighty_set_by : (x : R) (v : ℕ) (e : R × ℕ) (es more : List (R × ℕ)) (o : Ordering) → v ≢ 0 → v < 2 ^ 64 → Weighty (e ∷ es) → Weighty more → Weighty (match_ordering o ((x, v) ∷ e ∷ es) ((e.0, v) ∷ es) (e ∷ more))
  weighty_set_by x v e es more Less n low h go = (n, low, h)
  weighty_set_by x v e es more Equal n low h go = (n, low, h.2)
  weighty_set_by x v e es more Greater n low h go = (h.0, h.1, go)

  weighty_set : (x : R) (v : ℕ) (es : List (R × ℕ)) → v ≢ 0 → v < 2 ^ 64 → Weighty es → Weighty (insert_entry cmp es x v)
  weighty_set x v [] n low h = (n, low, tt)
  weighty_set x v (e ∷ es) n low h = weighty_set_by x v e es (insert_entry cmp es x v) (cmp x e.0) n low h (weighty_set x v es n low h.2)

  weighty_out_by : (e : R × ℕ) (es more : List (R × ℕ)) (b : Bool) → Weighty (e ∷ es) → Weighty more → Weighty (cond b es (e ∷ more))
  weighty_out_by e es more true h go = h.2
  weighty_out_by e es more false h go = (h.0, h.1, go)

  weighty_out : (test : R → Bool) (es : List (R × ℕ)) → Weighty es → Weighty (remove_entry test es)
  weighty_out test [] h = tt
  weighty_out test (e ∷ es) h = weighty_out_by e es (remove_entry test es) (test e.0) h (weighty_out test es h.2)

  -- ---- in normal form

  set_mod : (k a b old w v : ℕ) → a + k * old ≡ b + k * v → (k * v) % 2 ^ 64 ≡ (k * (old + w)) % 2 ^ 64 → a % 2 ^ 64 ≡ (b + k * w) % 2 ^ 64
  set_mod k a b old w v h m = from (k * old) (k * w) (k * v) a b h (m ∙ ap (λ n. n % 2 ^ 64) (spread k old w)) where
    spread : (k old w : ℕ) → k * (old + w) ≡ k * old + k * w
    spread k old w = omega arith

    from : (p q r a b : ℕ) → a + p ≡ b + r → r % 2 ^ 64 ≡ (p + q) % 2 ^ 64 → a % 2 ^ 64 ≡ (b + q) % 2 ^ 64
    from p q r a b h m = omega arith

  more_total : (g : R → ℕ) (es : List (R × ℕ)) (x : R) (w : ℕ) → total g (es ++ (x, w) ∷ []) ≡ total g es + g x * w
  more_total g es x w = total-append g es ((x, w) ∷ []) ∙ ap (λ n. total g es + n) (plus_nothing (g x * w)) where
    plus_nothing : (n : ℕ) → n + 0 ≡ n
    plus_nothing n = omega arith

  module _ (order : IsTotalOrder cmp) (same : (x y : R) → cmp x y ≡ Equal → x ≡ y) (es new : List (R × ℕ)) (x : R) (w : ℕ) (batch : IsBatch cmp es) where
    -- with the sum of both weights at a record
    pub set_weight : (v : ℕ) → new ≡ insert_entry cmp es x v → IsStrictlySortedBy cmp (keys_of new) → v ≢ 0 → v ≡ (weight_at x es + w) % 2 ^ 64 → new ≡ normal cmp (es ++ (x, w) ∷ [])
    set_weight v is sorted has sum =
        let low : v < 2 ^ 64 = omega (arith, sum) in
        normal-only cmp order same new (es ++ (x, w) ∷ []) (rising_keys new sorted) (rw is (weighty_set x v es has low batch.weighty)) (record {
          totals = λ g.
              let coefficient : (g x * v) % 2 ^ 64 ≡ (g x * (weight_at x es + w)) % 2 ^ 64 = cong_mul (g x) v (weight_at x es + w) (ap (λ n. n % 2 ^ 64) sum ∙ once (weight_at x es + w)) in
              ap (λ n. total g n % 2 ^ 64) is ∙ set_mod (g x) (total g (insert_entry cmp es x v)) (total g es) (weight_at x es) w v (total-set order same g x v es batch.rising) coefficient ∙ ap (λ n. n % 2 ^ 64) (sym (more_total g es x w));
        }) where
          once : (n : ℕ) → n % 2 ^ 64 % 2 ^ 64 ≡ n % 2 ^ 64
          once n = omega arith

    -- without the record, where that sum is zero
    pub take_weight : new ≡ remove_entry (is_at (cmp x)) es → IsStrictlySortedBy cmp (keys_of new) → (weight_at x es + w) % 2 ^ 64 ≡ 0 → new ≡ normal cmp (es ++ (x, w) ∷ [])
    take_weight is sorted none = normal-only cmp order same new (es ++ (x, w) ∷ []) (rising_keys new sorted) (rw is (weighty_out (is_at (cmp x)) es batch.weighty)) (record {
      totals = λ g.
          let coefficient : (g x * 0) % 2 ^ 64 ≡ (g x * (weight_at x es + w)) % 2 ^ 64 = cong_mul (g x) 0 (weight_at x es + w) (sym none) in
          ap (λ n. total g n % 2 ^ 64) is ∙ set_mod (g x) (total g (remove_entry (is_at (cmp x)) es)) (total g es) (weight_at x es) w 0 (total-out order same g x es ∙ plus (g x) (total g es)) coefficient ∙ ap (λ n. n % 2 ^ 64) (sym (more_total g es x w));
    }) where
      plus : (k n : ℕ) → n ≡ n + k * 0
      plus k n = omega arith

  -- a collection in normal form is its own normal form
  pub batch_itself : IsTotalOrder cmp → ((x y : R) → cmp x y ≡ Equal → x ≡ y) → (es : List (R × ℕ)) → IsBatch cmp es → es ≡ normal cmp (es ++ [])
  batch_itself order same es batch = normal-only cmp order same es (es ++ []) batch.rising batch.weighty (Alike-is (sym (append-nil es)))
