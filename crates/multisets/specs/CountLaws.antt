-- What follows from counts: the tests tell the relations.
use Rattle.std.specs.Prelude.{◌≡◌, ◌+◌, ◌==◌, Bool, true, false, ◌&&◌, ◌⊎◌, List, [], ◌∷◌, ◌++◌, refl}
use Rattle.std.specs.Cmp.{both_ways}
use Rattle.std.specs.List.{list_all}
use Rattle.std.proofs.Common.{arith, ap, sym, ◌∙◌, inl, inr}
use Rattle.std.proofs.lemmas.Bool.{cases_Bool, eqb-true, eq-eqb}
use Rattle.multisets.specs.Multisets.{IsExact, often, AreOne, DoCancel, are_one, do_cancel}

both : (a b : Bool) → (a && b) ≡ true → (a ≡ true) × (b ≡ true)
both true b e = (refl, e)
both false b e = absurd cc

all_true : {A : Type 0} (p : A → Bool) (ws : List A) → ((x : A) → p x ≡ true) → list_all p ws ≡ true
all_true p [] h = refl
all_true p (w ∷ ws) h = rw (h w) (all_true p ws h)

module _ {A : Type 0} (same : A → A → Bool) where
  pub often-append : (x : A) (xs ys : List A) → often same x (xs ++ ys) ≡ often same x xs + often same x ys
  often-append x [] ys = omega arith
  often-append x (y ∷ xs) ys = omega (arith, often-append x xs ys)

  often-four : (x : A) (a b c d : List A) → often same x (a ++ (b ++ (c ++ d))) ≡ often same x a + (often same x b + (often same x c + often same x d))
  often-four x a b c d = omega (arith, often-append x a (b ++ (c ++ d)), often-append x b (c ++ d), often-append x c d)

  pub one-tells : (xs ys : List A) → AreOne same xs ys → are_one same xs ys ≡ true
  one-tells xs ys s = all_true (λ y. often same y xs == often same y ys) (xs ++ ys) (λ x. eq-eqb (often same x xs) (often same x ys) (s.counts x))

  pub cancel-tells : (a b c d : List A) → DoCancel same a b c d → do_cancel same a b c d ≡ true
  cancel-tells a b c d s = all_true (λ y. often same y a + often same y d == often same y b + often same y c) (a ++ (b ++ (c ++ d))) (λ x. eq-eqb (often same x a + often same x d) (often same x b + often same x c) (s.counts x))

  pub one-refl : (xs : List A) → AreOne same xs xs
  one-refl xs = record { counts = λ x. refl }

  pub one-sym : (xs ys : List A) → AreOne same xs ys → AreOne same ys xs
  one-sym xs ys s = record { counts = λ x. sym (s.counts x) }

  pub one-trans : (xs ys zs : List A) → AreOne same xs ys → AreOne same ys zs → AreOne same xs zs
  one-trans xs ys zs s t = record { counts = λ x. s.counts x ∙ t.counts x }

module _ {A : Type 0} (same : A → A → Bool) (exact : IsExact same) where
  pub here : (x : A) (xs : List A) → often same x (x ∷ xs) ≡ 1 + often same x xs
  here x xs = rw (exact.itself x) refl

  -- a test that holds of each element of a list holds of each element that stands there
  everywhere : (p : A → Bool) (ws : List A) (x : A) → list_all p ws ≡ true → (p x ≡ true) ⊎ (often same x ws ≡ 0)
  everywhere p [] x h = inr refl
  everywhere p (w ∷ ws) x h = elim (cases_Bool (same x w)) [
    | inl e ↦ inl (ap p (exact.one x w e) ∙ (both (p w) (list_all p ws) h).0)
    | inr e ↦ elim (everywhere p ws x (both (p w) (list_all p ws) h).1) [
      | inl t ↦ inl t
      | inr n ↦ inr (rw e (omega (arith, n)))
    ]
  ]

  pub one-told : (xs ys : List A) → are_one same xs ys ≡ true → AreOne same xs ys
  one-told xs ys h = record {
    counts = λ x. elim (everywhere (λ y. often same y xs == often same y ys) (xs ++ ys) x h) [
      | inl t ↦ eqb-true (often same x xs) (often same x ys) t
      | inr n ↦ omega (arith, n, often-append same x xs ys)
    ];
  }

  pub cancel-told : (a b c d : List A) → do_cancel same a b c d ≡ true → DoCancel same a b c d
  cancel-told a b c d h = record {
    counts = λ x. elim (everywhere (λ y. often same y a + often same y d == often same y b + often same y c) (a ++ (b ++ (c ++ d))) x h) [
      | inl t ↦ eqb-true (often same x a + often same x d) (often same x b + often same x c) t
      | inr n ↦ omega (arith, n, often-four same x a b c d)
    ];
  }

  pub cancel-is-one : (a b c d : List A) → do_cancel same a b c d ≡ are_one same (a ++ d) (b ++ c)
  cancel-is-one a b c d = both_ways (do_cancel same a b c d) (are_one same (a ++ d) (b ++ c))
      (λ e. one-tells same (a ++ d) (b ++ c) (record { counts = λ x. omega (arith, (cancel-told a b c d e).counts x, often-append same x a d, often-append same x b c) }))
      (λ e. cancel-tells same a b c d (record { counts = λ x. omega (arith, (one-told (a ++ d) (b ++ c) e).counts x, often-append same x a d, often-append same x b c) }))
