-- Where a node is active, marked and counted, as counts of items.
use Rattle.std.specs.Prelude.{◌≡◌, ◌≢◌, ℕ, zero, suc, ◌+◌, ◌<◌, ◌≤◌, ◌==◌, ◌||◌, ◌&&◌, ◌⊎◌, not, Bool, true, false, IsTrue, List, [], ◌∷◌, ◌++◌, length, if◌then◌else◌, refl}
use Rattle.std.specs.List.{list_all}
use Rattle.std.proofs.Common.{arith, ap, sym, subst, ◌∙◌, inl, inr, eqb-true}
use Rattle.std.proofs.lemmas.Bool.Decides.{nat_tests}
use Rattle.multisets.specs.Multisets.{often, are_one, do_cancel, AreOne, DoCancel}
use Rattle.multisets.specs.CountLaws.{one-told, cancel-told, cancel-tells}
use Rattle.lone_work.specs.Items.{Item, same_item}
use Rattle.lone_work.specs.InputLaws.{items-exact}
use Rattle.lone_work.specs.Work.{previous, is_active, is_touched, is_marked}

pub true_or_false : (b : Bool) → (b ≡ true) ⊎ (b ≡ false)
true_or_false true = inl refl
true_or_false false = inr refl

not_true : (b : Bool) → not b ≡ true → b ≡ false
not_true false h = refl
not_true true h = absurd (cc)

-- ---- a list in which a test fails

pub record Fails {A : Type 0} (f : A → Bool) : Type 0 where
  pub at : A
  pub fails : f at ≡ false

fails_by : {A : Type 0} (f : A → Bool) (y : A) (rest b : Bool) → f y ≡ b → (rest ≡ false → Fails f) → b && rest ≡ false → Fails f
fails_by f y rest true e go h = go h
fails_by f y rest false e go h = record { at = y; fails = e }

all_fails : {A : Type 0} (f : A → Bool) (xs : List A) → list_all f xs ≡ false → Fails f
all_fails f [] h = absurd (cc)
all_fails f (y ∷ xs) h = fails_by f y (list_all f xs) (f y) refl (all_fails f xs) h

not_eqb : (m n : ℕ) → (m == n) ≡ false → m ≢ n
not_eqb m n h e = grind (arith, nat_tests)

count_by : (b : Bool) (n m : ℕ) → n ≤ m → (if b then 1 else 0) + n ≤ suc m
count_by true n m h = omega arith
count_by false n m h = omega arith

pub often-length : {A : Type 0} (same : A → A → Bool) (x : A) (xs : List A) → often same x xs ≤ length xs
often-length same x [] = omega arith
often-length same x (y ∷ xs) = count_by (same x y) (often same x xs) (length xs) (often-length same x xs)

module _ (new old : ℕ → List Item) where
  -- ---- active

  pub active-differs : (k : ℕ) → is_active new old k ≡ true → DoCancel same_item (new k) (old k) (previous new k) (previous old k) → ⊥
  active-differs k h c =
      let e : do_cancel same_item (new k) (old k) (previous new k) (previous old k) ≡ true = cancel-tells same_item (new k) (old k) (previous new k) (previous old k) c in
      let f : do_cancel same_item (new k) (old k) (previous new k) (previous old k) ≡ false = not_true (do_cancel same_item (new k) (old k) (previous new k) (previous old k)) h in
      let g : false ≡ true = sym f ∙ e in absurd (cc)

  pub active-or : (k : ℕ) → (is_active new old k ≡ true) ⊎ DoCancel same_item (new k) (old k) (previous new k) (previous old k)
  active-or k = elim (true_or_false (do_cancel same_item (new k) (old k) (previous new k) (previous old k))) [
    | inl e ↦ inr (cancel-told same_item items-exact (new k) (old k) (previous new k) (previous old k) e)
    | inr e ↦ inl (ap not e)
  ]

  -- ---- touched: active in some round up to this one

  pub record ActiveIn (r : ℕ) : Type 0 where
    pub round : ℕ
    pub low : round ≤ r
    pub active : is_active new old round ≡ true

  or_true : (a b : Bool) → a || b ≡ true → (a ≡ true) ⊎ (b ≡ true)
  or_true true b h = inl refl
  or_true false b h = inr h

  pub true_or : (a b : Bool) → (a ≡ true) ⊎ (b ≡ true) → a || b ≡ true
  true_or true b h = refl
  true_or false b (inl e) = absurd (cc)
  true_or false b (inr e) = e

  pub touched_out : (r : ℕ) → is_touched new old r ≡ true → ActiveIn r
  touched_out zero h = record { round = 0; low = omega arith; active = h }
  touched_out (suc r) h = elim (or_true (is_touched new old r) (is_active new old (suc r)) h) [
    | inl b ↦ (let k : ActiveIn r = touched_out r b in record { round = k.round; low = omega (arith, k.low); active = k.active })
    | inr a ↦ record { round = suc r; low = omega arith; active = a }
  ]

  pub touched_in : (r k : ℕ) → k ≤ r → is_active new old k ≡ true → is_touched new old r ≡ true
  touched_in zero k low h = let e : k ≡ 0 = omega arith in subst (λ n. is_active new old n ≡ true) e h
  touched_in (suc r) k low h = true_or (is_touched new old r) (is_active new old (suc r)) (elim (true_or_false (k == suc r)) [
    | inl e ↦ inr (subst (λ n. is_active new old n ≡ true) (eqb-true k (suc r) e) h)
    | inr e ↦ inl (touched_in r k (less k r e low) h)
  ]) where
    less : (k r : ℕ) → (k == suc r) ≡ false → k ≤ suc r → k ≤ r
    less k r e low = let n : k ≢ suc r = (λ z. grind (arith, nat_tests)) in omega arith

module _ (got : ℕ → List Item) where
  -- ---- marked

  -- an item of which the round has not as many as the round before
  pub record Changes (k : ℕ) : Type 0 where
    pub at : Item
    pub differ : often same_item at (got k) ≢ often same_item at (previous got k)

  pub marked-changes : (k : ℕ) → is_marked got k ≡ true → Changes k
  marked-changes k h =
      let f : Fails (λ x. often same_item x (got k) == often same_item x (previous got k)) = all_fails (λ x. often same_item x (got k) == often same_item x (previous got k)) (got k ++ previous got k) (not_true (are_one same_item (got k) (previous got k)) h) in
      record { at = f.at; differ = not_eqb (often same_item f.at (got k)) (often same_item f.at (previous got k)) f.fails }

  pub marked-or : (k : ℕ) → (is_marked got k ≡ true) ⊎ AreOne same_item (got k) (previous got k)
  marked-or k = elim (true_or_false (are_one same_item (got k) (previous got k))) [
    | inl e ↦ inr (one-told same_item items-exact (got k) (previous got k) e)
    | inr e ↦ inl (ap not e)
  ]
