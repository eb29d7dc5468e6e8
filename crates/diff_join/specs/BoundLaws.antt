-- Products at least upper bounds: those at or below a time are the products of what is at or below it.
use Rattle.std.specs.Prelude.{◌≡◌, ℕ, ◌+◌, ◌*◌, ◌%◌, ◌^◌, Bool, true, false, List, [], ◌∷◌, ◌++◌, if◌then◌else◌, Option, Some, None, refl}
use Rattle.std.specs.declared.cmp.Ordering.{Ordering}
use Rattle.std.specs.Ordering.{is_eq, is_ne}
use Rattle.std.specs.declared.cmp.Ordering.TheVariants.{Less, Equal, Greater}
use Rattle.std.specs.Cmp.{both_ways}
use Rattle.std.proofs.Common.{arith, ap, sym, ◌∙◌}
use Rattle.lattice_time.specs.Lattice.{IsLattice}
use Rattle.weighted.specs.WordLaws.{total}
use Rattle.weighted.specs.Alike.{Alike, total-append, total-mapped}
use Rattle.weighted.specs.SumLaws.{filtered, product, total-filtered, total-product, total-cong}
use Rattle.trace_store.specs.Traces.{accumulated}
use Rattle.diff_join.specs.Joins.{given, timed, at_bound, products_to, products_at, products_after}
use Rattle.diff_join.specs.GivenLaws.{worth, total-given}

-- ---- the total of what is at or below a time

pub total-accumulated : {R T : Type 0} (leq : T → T → Bool) (u : T) (g : R → ℕ) (es : List ((R × T) × ℕ)) → total g (accumulated leq u es) ≡ total (λ r. if leq r.1 u then g r.0 else 0) es
total-accumulated {R} {T} leq u g es = total-mapped g (λ (r : R × T). r.0) (filtered (λ (r : R × T). leq r.1 u) es) ∙ total-filtered (λ (r : R × T). g r.0) (λ (r : R × T). leq r.1 u) es

pub total-products_to : {T O : Type 0} (leq : T → T → Bool) (u : T) (g : O → ℕ) (es : List ((T × O) × ℕ)) → total g (products_to leq u es) ≡ total (λ r. if leq r.0 u then g r.1 else 0) es
total-products_to {T} {O} leq u g es = total-mapped g (λ (r : T × O). r.1) (filtered (λ (r : T × O). leq r.0 u) es) ∙ total-filtered (λ (r : T × O). g r.1) (λ (r : T × O). leq r.0 u) es

total-nothing : {R : Type 0} (es : List (R × ℕ)) → total (λ _. 0) es ≡ 0
total-nothing [] = refl
total-nothing (e ∷ es) = omega (arith, total-nothing es)

module _ {T : Type 0} {leq : T → T → Bool} {lub : T → T → T} (lattice : IsLattice leq lub) where
  pub bound_below : (s t u : T) → leq t u ≡ true → leq (lub s t) u ≡ leq s u
  bound_below s t u h = both_ways (leq (lub s t) u) (leq s u) (λ k. lattice.transitive s (lub s t) u (lattice.left s t) k) (λ k. lattice.least s t u k h)

  not_below_by : (s t u : T) (b : Bool) → leq (lub s t) u ≡ b → leq t u ≡ false → b ≡ false
  not_below_by s t u true q h = let k : leq t u ≡ true = lattice.transitive t (lub s t) u (lattice.right s t) q in absurd (cc)
  not_below_by s t u false q h = refl

  pub bound_not_below : (s t u : T) → leq t u ≡ false → leq (lub s t) u ≡ false
  bound_not_below s t u h = not_below_by s t u (leq (lub s t) u) refl h

  module _ {X Y O : Type 0} (f : X × Y → Option O) (t u : T) (g : O → ℕ) where
    -- the coefficient of a product at a time
    abbrev timely : T × O → ℕ
    timely r = if leq r.0 u then g r.1 else 0

    worth_by : (o : Option O) (s : T) (b : Bool) → leq s u ≡ b → worth timely (timed s o) ≡ (if b then worth g o else 0)
    worth_by None s true q = refl
    worth_by None s false q = refl
    worth_by (Some o) s b q = ap (λ c. if c then g o else 0) q

    total_bound : (xs : List (X × ℕ)) (es : List ((Y × T) × ℕ)) → total g (products_to leq u (given (at_bound lub f t) (product xs es))) ≡ total (λ x. total (λ r. worth timely (at_bound lub f t (x, r))) es) xs
    total_bound xs es = total-products_to leq u g (given (at_bound lub f t) (product xs es)) ∙ total-given timely (at_bound lub f t) (product xs es) ∙ total-product (λ r. worth timely (at_bound lub f t r)) xs es

    total_met : (xs : List (X × ℕ)) (es : List ((Y × T) × ℕ)) → total g (given f (product xs (accumulated leq u es))) % 2 ^ 64 ≡ total (λ x. total (λ r. if leq r.1 u then worth g (f (x, r.0)) else 0) es) xs % 2 ^ 64
    total_met xs es = ap (λ v. v % 2 ^ 64) (total-given g f (product xs (accumulated leq u es)) ∙ total-product (λ r. worth g (f r)) xs (accumulated leq u es)) ∙ total-cong _ _ xs (λ x. ap (λ v. v % 2 ^ 64) (total-accumulated leq u (λ y. worth g (f (x, y))) es))

    at_or_above : leq t u ≡ true → (xs : List (X × ℕ)) (es : List ((Y × T) × ℕ)) → total g (products_to leq u (given (at_bound lub f t) (product xs es))) % 2 ^ 64 ≡ total g (given f (product xs (accumulated leq u es))) % 2 ^ 64
    at_or_above h xs es = ap (λ v. v % 2 ^ 64) (total_bound xs es) ∙ total-cong _ _ xs (λ x. total-cong _ _ es (λ r. ap (λ v. v % 2 ^ 64) (worth_by (f (x, r.0)) (lub r.1 t) (leq r.1 u) (bound_below r.1 t u h)))) ∙ sym (total_met xs es)

    elsewhere : leq t u ≡ false → (xs : List (X × ℕ)) (es : List ((Y × T) × ℕ)) → total g (products_to leq u (given (at_bound lub f t) (product xs es))) % 2 ^ 64 ≡ 0
    elsewhere h xs es = ap (λ v. v % 2 ^ 64) (total_bound xs es) ∙ total-cong _ (λ _. 0) xs (λ x. total-cong _ (λ _. 0) es (λ r. ap (λ v. v % 2 ^ 64) (worth_by (f (x, r.0)) (lub r.1 t) false (bound_not_below r.1 t u h))) ∙ ap (λ v. v % 2 ^ 64) (total-nothing es)) ∙ ap (λ v. v % 2 ^ 64) (total-nothing xs)

  bound_by : {X Y O : Type 0} (f : X × Y → Option O) (t u : T) (xs : List (X × ℕ)) (es : List ((Y × T) × ℕ)) (b : Bool) → leq t u ≡ b → Alike (products_to leq u (given (at_bound lub f t) (product xs es))) (if b then given f (product xs (accumulated leq u es)) else [])
  bound_by f t u xs es true h = record { totals = λ g. at_or_above f t u g h xs es }
  bound_by f t u xs es false h = record { totals = λ g. elsewhere f t u g h xs es }

  -- what differences at t give with all others, each at the bound of both times
  pub Alike-at_bound : {X Y O : Type 0} (f : X × Y → Option O) (t u : T) (xs : List (X × ℕ)) (es : List ((Y × T) × ℕ)) → Alike (products_to leq u (given (at_bound lub f t) (product xs es))) (if leq t u then given f (product xs (accumulated leq u es)) else [])
  Alike-at_bound f t u xs es = bound_by f t u xs es (leq t u) refl

-- ---- products at one time and at others

pub Alike-products_to : {T O : Type 0} (leq : T → T → Bool) (u : T) (xs ys : List ((T × O) × ℕ)) → Alike xs ys → Alike (products_to leq u xs) (products_to leq u ys)
Alike-products_to {T} {O} leq u xs ys s = record { totals = λ g. rw (total-products_to leq u g xs, total-products_to leq u g ys) (s.totals (λ (r : T × O). if leq r.0 u then g r.1 else 0)) }

pub products_to-append : {T O : Type 0} (leq : T → T → Bool) (u : T) (xs ys : List ((T × O) × ℕ)) → Alike (products_to leq u (xs ++ ys)) (products_to leq u xs ++ products_to leq u ys)
products_to-append {T} {O} leq u xs ys = record { totals = λ g. ap (λ v. v % 2 ^ 64) (total-products_to leq u g (xs ++ ys) ∙ total-append (λ (r : T × O). if leq r.0 u then g r.1 else 0) xs ys ∙ sym (total-append g (products_to leq u xs) (products_to leq u ys) ∙ ap (λ v. v + total g (products_to leq u ys)) (total-products_to leq u g xs) ∙ ap (λ v. total (λ (r : T × O). if leq r.0 u then g r.1 else 0) xs + v) (total-products_to leq u g ys))) }

ne_is_not : (o : Ordering) (b : Bool) → is_eq o ≡ b → is_ne o ≡ (if b then false else true)
ne_is_not Less true h = absurd (cc)
ne_is_not Less false h = refl
ne_is_not Equal true h = refl
ne_is_not Equal false h = absurd (cc)
ne_is_not Greater true h = absurd (cc)
ne_is_not Greater false h = refl

equal_is : (o : Ordering) → is_eq o ≡ true → o ≡ Equal
equal_is Less h = absurd (cc)
equal_is Equal h = refl
equal_is Greater h = absurd (cc)

module _ {T O : Type 0} (leq : T → T → Bool) (tcmp : T → T → Ordering) (same : (x y : T) → tcmp x y ≡ Equal → x ≡ y) (t u : T) where
  parted_by : (g : O → ℕ) (e : (T × O) × ℕ) (b c : Bool) → is_eq (tcmp e.0.0 t) ≡ b → leq t u ≡ c → (if leq e.0.0 u then g e.0.1 else 0) * e.1 ≡ (if c then (if b then g e.0.1 else 0) else 0) * e.1 + (if is_ne (tcmp e.0.0 t) then (if leq e.0.0 u then g e.0.1 else 0) else 0) * e.1
  parted_by g e true c p q =
      let is : e.0.0 ≡ t = same e.0.0 t (equal_is (tcmp e.0.0 t) p) in
      let l : leq e.0.0 u ≡ c = ap (λ s. leq s u) is ∙ q in
      let n : is_ne (tcmp e.0.0 t) ≡ false = ne_is_not (tcmp e.0.0 t) true p in
      rw (l, n) (plus_zero ((if c then g e.0.1 else 0) * e.1) e.1) where
        plus_zero : (n w : ℕ) → n ≡ n + 0 * w
        plus_zero n w = omega arith
  parted_by g e false true p q =
      let n : is_ne (tcmp e.0.0 t) ≡ true = ne_is_not (tcmp e.0.0 t) false p in
      rw n (zero_plus ((if leq e.0.0 u then g e.0.1 else 0) * e.1) e.1) where
        zero_plus : (n w : ℕ) → n ≡ 0 * w + n
        zero_plus n w = omega arith
  parted_by g e false false p q =
      let n : is_ne (tcmp e.0.0 t) ≡ true = ne_is_not (tcmp e.0.0 t) false p in
      rw n (zero_plus ((if leq e.0.0 u then g e.0.1 else 0) * e.1) e.1) where
        zero_plus : (n w : ℕ) → n ≡ 0 * w + n
        zero_plus n w = omega arith

  -- the coefficients of the products at t, and of the others
  abbrev here : (O → ℕ) → T × O → ℕ
  here g r = if leq t u then (if is_eq (tcmp r.0 t) then g r.1 else 0) else 0

  abbrev after : (O → ℕ) → T × O → ℕ
  after g r = if is_ne (tcmp r.0 t) then (if leq r.0 u then g r.1 else 0) else 0

  total_parted : (g : O → ℕ) (es : List ((T × O) × ℕ)) → total (λ (r : T × O). if leq r.0 u then g r.1 else 0) es ≡ total (here g) es + total (after g) es
  total_parted g [] = refl
  total_parted g (e ∷ es) = ap (λ v. v + total (λ (r : T × O). if leq r.0 u then g r.1 else 0) es) (parted_by g e (is_eq (tcmp e.0.0 t)) (leq t u) refl refl) ∙ ap (λ v. (here g e.0 * e.1 + after g e.0 * e.1) + v) (total_parted g es) ∙ omega arith

  total_here : (g : O → ℕ) (es : List ((T × O) × ℕ)) (c : Bool) → total (λ (r : T × O). if c then (if is_eq (tcmp r.0 t) then g r.1 else 0) else 0) es ≡ total g (if c then products_at tcmp t es else [])
  total_here g es true = sym (total-mapped g (λ (r : T × O). r.1) (filtered (λ (r : T × O). is_eq (tcmp r.0 t)) es) ∙ total-filtered (λ (r : T × O). g r.1) (λ (r : T × O). is_eq (tcmp r.0 t)) es)
  total_here g es false = total-nothing es

  total_after : (g : O → ℕ) (es : List ((T × O) × ℕ)) → total (after g) es ≡ total g (products_to leq u (products_after tcmp t es))
  total_after g es = sym (total-products_to leq u g (products_after tcmp t es) ∙ total-filtered (λ (r : T × O). if leq r.0 u then g r.1 else 0) (λ (r : T × O). is_ne (tcmp r.0 t)) es)

  -- what is at or below u is what is at t, where t is, and what of the others is
  pub Alike-parted : (es : List ((T × O) × ℕ)) → Alike (products_to leq u es) ((if leq t u then products_at tcmp t es else []) ++ products_to leq u (products_after tcmp t es))
  Alike-parted es = record { totals = λ g. ap (λ v. v % 2 ^ 64) (total-products_to leq u g es ∙ total_parted g es ∙ ap (λ v. v + total (after g) es) (total_here g es (leq t u)) ∙ ap (λ v. total g (if leq t u then products_at tcmp t es else []) + v) (total_after g es) ∙ sym (total-append g (if leq t u then products_at tcmp t es else []) (products_to leq u (products_after tcmp t es)))) }
