-- The gathered least and greatest are members that bound all.
use Rattle.std.specs.Prelude.{◌≡◌, ◌⊎◌, ℤ, ◌≤ℤ◌, Bool, true, false, int_lt, List, [], ◌∷◌, fold, Contains, refl}
use Rattle.std.specs.Int.{int_min, int_max}
use Rattle.std.proofs.Common.{arith, ap, subst, inl, inr}
use Rattle.std.proofs.lemmas.Bool.{false≢true, cond_both}
use Rattle.std.proofs.lemmas.Int.{ints, int_min_is, int_max_is}
use Rattle.std.proofs.lemmas.List.Elements.{Contains-append_right, Contains-append_cases, Contains-push_cases}
use Rattle.graph_model.specs.declared.value.Val.{Val}
use Rattle.graph_model.specs.declared.value.Val.TheVariants.{Nil, Num}
use Rattle.vertex_lang.specs.declared.program.Gather.TheVariants as gather
use Rattle.vertex_lang.specs.Values.{lesser, greater}
use Rattle.vertex_lang.specs.Arcs.{gathered_of}
use Rattle.vertex_lang.specs.Extremes.{IsExtreme, IsLeast, IsGreatest}

-- ---- members of a list

pub contains-here : {A : Type 0} (x : A) (xs : List A) → Contains (x ∷ xs) x
contains-here x xs = (0, omega arith, refl)

pub contains-there : {A : Type 0} (y : A) (xs : List A) (x : A) → Contains xs x → Contains (y ∷ xs) x
contains-there y xs x h = Contains-append_right (y ∷ []) xs x h

pub contains-none : {A : Type 0} (x : A) → Contains [] x → ⊥
contains-none x h = let low = h.1 in omega arith

pub contains-cases : {A : Type 0} (y : A) (xs : List A) (x : A) → Contains (y ∷ xs) x → (y ≡ x) ⊎ Contains xs x
contains-cases y xs x h = elim (Contains-append_cases (y ∷ []) xs x h) [
  | inl first ↦ elim (Contains-push_cases [] y x first) [ inl never ↦ absurd (contains-none x never) | inr e ↦ inl e ]
  | inr later ↦ inr later
]

-- ---- numbers of values

abbrev pub number_or : ℤ → Val → ℤ
number_or z Nil = z
number_or z (Num a) = a

abbrev is_number : Val → Bool
is_number Nil = false
is_number (Num z) = true

pub nil-no-number : (z : ℤ) → Nil ≡ Num z → ⊥
nil-no-number z e = false≢true (ap is_number e)

-- ---- one of two values, the one that stands before the other in an order

pub record Chooses (order : ℤ → ℤ → Type 0) (choose : Val → Val → Val) : Type 0 where
  pub reached : (v w : Val) (z : ℤ) → choose v w ≡ Num z → (v ≡ Num z) ⊎ (w ≡ Num z)
  pub left : (v w : Val) (z : ℤ) → v ≡ Num z → (y : ℤ) × (choose v w ≡ Num y) × order y z
  pub right : (v w : Val) (z : ℤ) → w ≡ Num z → (y : ℤ) × (choose v w ≡ Num y) × order y z

module _ (order : ℤ → ℤ → Type 0) (choose : Val → Val → Val) (c : Chooses order choose) (itself : (z : ℤ) → order z z) (after : (x y z : ℤ) → order x y → order y z → order x z) where
  fold-first : (v : Val) (ms : List Val) (z : ℤ) → v ≡ Num z → (y : ℤ) × (fold choose v ms ≡ Num y) × order y z
  fold-first v [] z e = (z, e, itself z)
  fold-first v (m ∷ ms) z e =
      let near = c.left v m z e in
      let far = fold-first (choose v m) ms near.0 near.1 in
      (far.0, far.1, after far.0 near.0 z far.2 near.2)

  fold-bounds : (v : Val) (ms : List Val) (z : ℤ) → Contains ms (Num z) → (y : ℤ) × (fold choose v ms ≡ Num y) × order y z
  fold-bounds v [] z h = absurd (contains-none (Num z) h)
  fold-bounds v (m ∷ ms) z h = elim (contains-cases m ms (Num z) h) [
    | inl e ↦
        let near = c.right v m z e in
        let far = fold-first (choose v m) ms near.0 near.1 in
        (far.0, far.1, after far.0 near.0 z far.2 near.2)
    | inr later ↦ fold-bounds (choose v m) ms z later
  ]

  fold-reached : (v : Val) (ms : List Val) (z : ℤ) → fold choose v ms ≡ Num z → (v ≡ Num z) ⊎ Contains ms (Num z)
  fold-reached v [] z e = inl e
  fold-reached v (m ∷ ms) z e = elim (fold-reached (choose v m) ms z e) [
    | inl near ↦ elim (c.reached v m z near) [
      | inl first ↦ inl first
      | inr here ↦ inr (subst (λ w. Contains (m ∷ ms) w) here (contains-here m ms))
    ]
    | inr later ↦ inr (contains-there m ms (Num z) later)
  ]

  pub fold-extreme : (ms : List Val) → IsExtreme order ms (fold choose Nil ms)
  fold-extreme ms = record {
    member = λ z e. elim (fold-reached Nil ms z e) [ inl never ↦ absurd (nil-no-number z never) | inr h ↦ h ];
    bounds = λ z h. fold-bounds Nil ms z h;
  }

-- ---- the lesser and the greater

min-one : (a b z : ℤ) → int_min a b ≡ z → (a ≡ z) ⊎ (b ≡ z)
min-one a b z = cond_both (int_lt b a) b a (λ x. x ≡ z → (a ≡ z) ⊎ (b ≡ z)) (λ t e. inr e) (λ t e. inl e)

max-one : (a b z : ℤ) → int_max a b ≡ z → (a ≡ z) ⊎ (b ≡ z)
max-one a b z = cond_both (int_lt b a) a b (λ x. x ≡ z → (a ≡ z) ⊎ (b ≡ z)) (λ t e. inl e) (λ t e. inr e)

num-one : (a b z : ℤ) → (a ≡ z) ⊎ (b ≡ z) → (Num a ≡ Num z) ⊎ (Num b ≡ Num z)
num-one a b z (inl e) = inl (ap (λ (n : ℤ). Num n) e)
num-one a b z (inr e) = inr (ap (λ (n : ℤ). Num n) e)

same-number : (a z : ℤ) → Num a ≡ Num z → a ≡ z
same-number a z e = ap (number_or a) e

min-left : (a b : ℤ) → int_min a b ≤ℤ a
min-left a b = omega (arith, ints, int_min_is a b)

min-right : (a b : ℤ) → int_min a b ≤ℤ b
min-right a b = omega (arith, ints, int_min_is a b)

max-left : (a b : ℤ) → a ≤ℤ int_max a b
max-left a b = omega (arith, ints, int_max_is a b)

max-right : (a b : ℤ) → b ≤ℤ int_max a b
max-right a b = omega (arith, ints, int_max_is a b)

le-itself : (z : ℤ) → z ≤ℤ z
le-itself z = omega (arith, ints)

le-after : (x y z : ℤ) → x ≤ℤ y → y ≤ℤ z → x ≤ℤ z
le-after x y z h k = omega (arith, ints)

lesser-reached : (v w : Val) (z : ℤ) → lesser v w ≡ Num z → (v ≡ Num z) ⊎ (w ≡ Num z)
lesser-reached Nil w z e = inr e
lesser-reached (Num a) Nil z e = inl e
lesser-reached (Num a) (Num b) z e = num-one a b z (min-one a b z (same-number (int_min a b) z e))

lesser-left : (v w : Val) (z : ℤ) → v ≡ Num z → (y : ℤ) × (lesser v w ≡ Num y) × (y ≤ℤ z)
lesser-left Nil w z e = absurd (nil-no-number z e)
lesser-left (Num a) Nil z e = (z, e, le-itself z)
lesser-left (Num a) (Num b) z e = (int_min a b, refl, subst (λ x. int_min a b ≤ℤ x) (same-number a z e) (min-left a b))

lesser-right : (v w : Val) (z : ℤ) → w ≡ Num z → (y : ℤ) × (lesser v w ≡ Num y) × (y ≤ℤ z)
lesser-right Nil w z e = (z, e, le-itself z)
lesser-right (Num a) Nil z e = absurd (nil-no-number z e)
lesser-right (Num a) (Num b) z e = (int_min a b, refl, subst (λ x. int_min a b ≤ℤ x) (same-number b z e) (min-right a b))

greater-reached : (v w : Val) (z : ℤ) → greater v w ≡ Num z → (v ≡ Num z) ⊎ (w ≡ Num z)
greater-reached Nil w z e = inr e
greater-reached (Num a) Nil z e = inl e
greater-reached (Num a) (Num b) z e = num-one a b z (max-one a b z (same-number (int_max a b) z e))

greater-left : (v w : Val) (z : ℤ) → v ≡ Num z → (y : ℤ) × (greater v w ≡ Num y) × (z ≤ℤ y)
greater-left Nil w z e = absurd (nil-no-number z e)
greater-left (Num a) Nil z e = (z, e, le-itself z)
greater-left (Num a) (Num b) z e = (int_max a b, refl, subst (λ x. x ≤ℤ int_max a b) (same-number a z e) (max-left a b))

greater-right : (v w : Val) (z : ℤ) → w ≡ Num z → (y : ℤ) × (greater v w ≡ Num y) × (z ≤ℤ y)
greater-right Nil w z e = (z, e, le-itself z)
greater-right (Num a) Nil z e = absurd (nil-no-number z e)
greater-right (Num a) (Num b) z e = (int_max a b, refl, subst (λ x. x ≤ℤ int_max a b) (same-number b z e) (max-right a b))

pub least-gathered : (ms : List Val) → IsLeast ms (gathered_of gather.Min ms)
least-gathered ms = fold-extreme (λ y z. y ≤ℤ z) lesser (record { reached = lesser-reached; left = lesser-left; right = lesser-right }) le-itself le-after ms

pub greatest-gathered : (ms : List Val) → IsGreatest ms (gathered_of gather.Max ms)
greatest-gathered ms = fold-extreme (λ y z. z ≤ℤ y) greater (record { reached = greater-reached; left = greater-left; right = greater-right }) le-itself (λ x y z h k. le-after z y x k h) ms
