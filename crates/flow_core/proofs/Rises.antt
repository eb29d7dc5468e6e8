-- Parts of batches, and two batches side by side, are in normal form.
use Rattle.std.proofs.Common.{◌≡◌, ◌≢◌, ◌∙◌, ℕ, ◌^◌, ◌<◌, Bool, true, false, if◌then◌else◌, List, [], ◌∷◌, Ordering, sym}
use Rattle.std.specs.declared.cmp.Ordering.TheVariants.{Less}
use Rattle.weighted.specs.WordLaws.{mapped}
use Rattle.weighted.specs.SumLaws.{filtered}
use Rattle.weighted.specs.Batches.{IsBatch}
use Rattle.weighted.specs.Normal.{Below, Rising, Weighty}
use Rattle.flow_core.specs.declared.side.Side.{Side}
use Rattle.flow_core.specs.declared.side.Side.TheVariants.{Left, Right}
use Rattle.flow_core.specs.Sides.{lefts, rights}
use Rattle.flow_core.specs.Parts.{both_sides}

-- ---- the records that pass a test

module _ {R : Type 0} (cmp : R → R → Ordering) (keeps : R → Bool) where
  Below-kept : (x : R) (e : R × ℕ) (es : List (R × ℕ)) (b : Bool) → cmp x e.0 ≡ Less → Below cmp x es → Below cmp x (if b then e ∷ es else es)
  Below-kept x e es true p h = (p, h)
  Below-kept x e es false p h = h

  Below-filtered : (x : R) (es : List (R × ℕ)) → Below cmp x es → Below cmp x (filtered keeps es)
  Below-filtered x [] h = tt
  Below-filtered x (e ∷ es) h = Below-kept x e (filtered keeps es) (keeps e.0) h.0 (Below-filtered x es h.1)

  Rising-kept : (e : R × ℕ) (es : List (R × ℕ)) (b : Bool) → Below cmp e.0 es → Rising cmp es → Rising cmp (if b then e ∷ es else es)
  Rising-kept e es true p h = (p, h)
  Rising-kept e es false p h = h

  Rising-filtered : (es : List (R × ℕ)) → Rising cmp es → Rising cmp (filtered keeps es)
  Rising-filtered [] h = tt
  Rising-filtered (e ∷ es) h = Rising-kept e (filtered keeps es) (keeps e.0) (Below-filtered e.0 es h.0) (Rising-filtered es h.1)

  Weighty-kept : (e : R × ℕ) (es : List (R × ℕ)) (b : Bool) → e.1 ≢ 0 → e.1 < 2 ^ 64 → Weighty es → Weighty (if b then e ∷ es else es)
  Weighty-kept e es true p q h = (p, q, h)
  Weighty-kept e es false p q h = h

  Weighty-filtered : (es : List (R × ℕ)) → Weighty es → Weighty (filtered keeps es)
  Weighty-filtered [] h = tt
  Weighty-filtered (e ∷ es) h = Weighty-kept e (filtered keeps es) (keeps e.0) h.0 h.1 (Weighty-filtered es h.2)

  pub IsBatch-filtered : (es : List (R × ℕ)) → IsBatch cmp es → IsBatch cmp (filtered keeps es)
  IsBatch-filtered es h = record { rising = Rising-filtered es h.rising; weighty = Weighty-filtered es h.weighty }

-- ---- the sides of a batch, in an order in which left ones are below right ones

module _ {A B : Type 0} (cmp : Side A B → Side A B → Ordering) (first : A → A → Ordering) (second : B → B → Ordering) (left_order : (a b : A) → cmp (Left a) (Left b) ≡ first a b) (sides_order : (a : A) (b : B) → cmp (Left a) (Right b) ≡ Less) (right_order : (a b : B) → cmp (Right a) (Right b) ≡ second a b) where
  Below-lefts : (a : A) (es : List (Side A B × ℕ)) → Below cmp (Left a) es → Below first a (lefts es)
  Below-lefts a [] h = tt
  Below-lefts a ((Left b, w) ∷ es) h = (sym (left_order a b) ∙ h.0, Below-lefts a es h.1)
  Below-lefts a ((Right b, w) ∷ es) h = Below-lefts a es h.1

  Rising-lefts : (es : List (Side A B × ℕ)) → Rising cmp es → Rising first (lefts es)
  Rising-lefts [] h = tt
  Rising-lefts ((Left a, w) ∷ es) h = (Below-lefts a es h.0, Rising-lefts es h.1)
  Rising-lefts ((Right b, w) ∷ es) h = Rising-lefts es h.1

  Weighty-lefts : (es : List (Side A B × ℕ)) → Weighty es → Weighty (lefts es)
  Weighty-lefts [] h = tt
  Weighty-lefts ((Left a, w) ∷ es) h = (h.0, h.1, Weighty-lefts es h.2)
  Weighty-lefts ((Right b, w) ∷ es) h = Weighty-lefts es h.2

  pub IsBatch-lefts : (es : List (Side A B × ℕ)) → IsBatch cmp es → IsBatch first (lefts es)
  IsBatch-lefts es h = record { rising = Rising-lefts es h.rising; weighty = Weighty-lefts es h.weighty }

  Below-rights : (b : B) (es : List (Side A B × ℕ)) → Below cmp (Right b) es → Below second b (rights es)
  Below-rights b [] h = tt
  Below-rights b ((Left a, w) ∷ es) h = Below-rights b es h.1
  Below-rights b ((Right c, w) ∷ es) h = (sym (right_order b c) ∙ h.0, Below-rights b es h.1)

  Rising-rights : (es : List (Side A B × ℕ)) → Rising cmp es → Rising second (rights es)
  Rising-rights [] h = tt
  Rising-rights ((Left a, w) ∷ es) h = Rising-rights es h.1
  Rising-rights ((Right b, w) ∷ es) h = (Below-rights b es h.0, Rising-rights es h.1)

  Weighty-rights : (es : List (Side A B × ℕ)) → Weighty es → Weighty (rights es)
  Weighty-rights [] h = tt
  Weighty-rights ((Left a, w) ∷ es) h = Weighty-rights es h.2
  Weighty-rights ((Right b, w) ∷ es) h = (h.0, h.1, Weighty-rights es h.2)

  pub IsBatch-rights : (es : List (Side A B × ℕ)) → IsBatch cmp es → IsBatch second (rights es)
  IsBatch-rights es h = record { rising = Rising-rights es h.rising; weighty = Weighty-rights es h.weighty }

  -- ---- two batches as the sides of one

  Below-left : (a : A) (xs : List (A × ℕ)) (ys : List (B × ℕ)) → Below first a xs → Below cmp (Left a) (both_sides xs ys)
  Below-left a [] [] h = tt
  Below-left a [] (y ∷ ys) h = (sides_order a y.0, Below-left a [] ys h)
  Below-left a (x ∷ xs) ys h = (left_order a x.0 ∙ h.0, Below-left a xs ys h.1)

  Below-right : (b : B) (ys : List (B × ℕ)) → Below second b ys → Below cmp (Right b) (mapped Right ys)
  Below-right b [] h = tt
  Below-right b (y ∷ ys) h = (right_order b y.0 ∙ h.0, Below-right b ys h.1)

  Rising-right : (ys : List (B × ℕ)) → Rising second ys → Rising cmp (mapped Right ys)
  Rising-right [] h = tt
  Rising-right (y ∷ ys) h = (Below-right y.0 ys h.0, Rising-right ys h.1)

  Rising-both : (xs : List (A × ℕ)) (ys : List (B × ℕ)) → Rising first xs → Rising second ys → Rising cmp (both_sides xs ys)
  Rising-both [] ys h k = Rising-right ys k
  Rising-both (x ∷ xs) ys h k = (Below-left x.0 xs ys h.0, Rising-both xs ys h.1 k)

  Weighty-right : (ys : List (B × ℕ)) → Weighty ys → Weighty {R = Side A B} (mapped Right ys)
  Weighty-right [] h = tt
  Weighty-right (y ∷ ys) h = (h.0, h.1, Weighty-right ys h.2)

  Weighty-both : (xs : List (A × ℕ)) (ys : List (B × ℕ)) → Weighty xs → Weighty ys → Weighty (both_sides xs ys)
  Weighty-both [] ys h k = Weighty-right ys k
  Weighty-both (x ∷ xs) ys h k = (h.0, h.1, Weighty-both xs ys h.2 k)

  pub IsBatch-both_sides : (xs : List (A × ℕ)) (ys : List (B × ℕ)) → IsBatch first xs → IsBatch second ys → IsBatch cmp (both_sides xs ys)
  IsBatch-both_sides xs ys h k = record { rising = Rising-both xs ys h.rising k.rising; weighty = Weighty-both xs ys h.weighty k.weighty }
