-- Laws of collections at times: of what is accumulated, and of a key's values.
use Rattle.std.specs.Prelude.{◌≡◌, ℕ, Bool, true, false, IsTrue, List, [], ◌∷◌, ◌++◌, if◌then◌else◌, refl}
use Rattle.std.specs.declared.cmp.Ordering.{Ordering}
use Rattle.std.specs.declared.cmp.Ordering.TheVariants.{Equal}
use Rattle.std.specs.Ordering.{is_eq}
use Rattle.std.specs.Cmp.{IsTotalOrder, both_ways}
use Rattle.std.proofs.lemmas.Cmp.{on_total, then_total}
use Rattle.std.proofs.lemmas.Map.Lookups.{exact_pairs}
use Rattle.std.proofs.Common.{ap, ◌∙◌}
use Rattle.lattice_time.specs.Lattice.{IsLattice}
use Rattle.weighted.specs.WordLaws.{mapped, mapped-append}
use Rattle.weighted.specs.Alike.{Alike, Alike-mapped}
use Rattle.weighted.specs.SumLaws.{filtered, filtered-append, Alike-filtered}
use Rattle.trace_store.specs.Traces.{at_time, later, accumulated, values_of, in_turn, trace_cmp}

-- ---- the order of keys, values and times is total, and tells them apart

pub in_turn-total : {A B : Type 0} {acmp : A → A → Ordering} {bcmp : B → B → Ordering} → IsTotalOrder acmp → IsTotalOrder bcmp → IsTotalOrder (in_turn acmp bcmp)
in_turn-total {A} {B} a b = then_total (on_total (λ (p : A × B). p.0) a) (on_total (λ (p : A × B). p.1) b)

pub trace_total : {K V T : Type 0} {kcmp : K → K → Ordering} {vcmp : V → V → Ordering} {tcmp : T → T → Ordering} → IsTotalOrder kcmp → IsTotalOrder vcmp → IsTotalOrder tcmp → IsTotalOrder (trace_cmp kcmp vcmp tcmp)
trace_total {K} {V} {T} {kcmp} {vcmp} {tcmp} k v t = in_turn-total {acmp = in_turn kcmp vcmp} {bcmp = tcmp} (in_turn-total {acmp = kcmp} {bcmp = vcmp} k v) t

pub trace_same : {K V T : Type 0} {kcmp : K → K → Ordering} {vcmp : V → V → Ordering} {tcmp : T → T → Ordering} → ((x y : K) → kcmp x y ≡ Equal → x ≡ y) → ((x y : V) → vcmp x y ≡ Equal → x ≡ y) → ((x y : T) → tcmp x y ≡ Equal → x ≡ y) → (x y : (K × V) × T) → trace_cmp kcmp vcmp tcmp x y ≡ Equal → x ≡ y
trace_same {K} {V} {T} {kcmp} {vcmp} {tcmp} k v t = exact_pairs (in_turn kcmp vcmp) tcmp (exact_pairs kcmp vcmp k v) t

-- ---- one collection at times has one sum at each time, and one collection of values of each key

pub Alike-accumulated : {R T : Type 0} (leq : T → T → Bool) (t : T) (xs ys : List ((R × T) × ℕ)) → Alike xs ys → Alike (accumulated leq t xs) (accumulated leq t ys)
Alike-accumulated {R} {T} leq t xs ys a = Alike-mapped (λ (r : R × T). r.0) (filtered (λ (r : R × T). leq r.1 t) xs) (filtered (λ (r : R × T). leq r.1 t) ys) (Alike-filtered (λ (r : R × T). leq r.1 t) xs ys a)

pub Alike-values_of : {K V : Type 0} (kcmp : K → K → Ordering) (key : K) (xs ys : List ((K × V) × ℕ)) → Alike xs ys → Alike (values_of kcmp key xs) (values_of kcmp key ys)
Alike-values_of {K} {V} kcmp key xs ys a = Alike-mapped (λ (r : K × V). r.1) (filtered (λ (r : K × V). is_eq (kcmp r.0 key)) xs) (filtered (λ (r : K × V). is_eq (kcmp r.0 key)) ys) (Alike-filtered (λ (r : K × V). is_eq (kcmp r.0 key)) xs ys a)

pub accumulated-append : {R T : Type 0} (leq : T → T → Bool) (t : T) (xs ys : List ((R × T) × ℕ)) → accumulated leq t (xs ++ ys) ≡ accumulated leq t xs ++ accumulated leq t ys
accumulated-append {R} {T} leq t xs ys = ap (mapped (λ (r : R × T). r.0)) (filtered-append (λ (r : R × T). leq r.1 t) xs ys) ∙ mapped-append (λ (r : R × T). r.0) (filtered (λ (r : R × T). leq r.1 t) xs) (filtered (λ (r : R × T). leq r.1 t) ys)

pub values_of-append : {K V : Type 0} (kcmp : K → K → Ordering) (key : K) (xs ys : List ((K × V) × ℕ)) → values_of kcmp key (xs ++ ys) ≡ values_of kcmp key xs ++ values_of kcmp key ys
values_of-append {K} {V} kcmp key xs ys = ap (mapped (λ (r : K × V). r.1)) (filtered-append (λ (r : K × V). is_eq (kcmp r.0 key)) xs ys) ∙ mapped-append (λ (r : K × V). r.1) (filtered (λ (r : K × V). is_eq (kcmp r.0 key)) xs) (filtered (λ (r : K × V). is_eq (kcmp r.0 key)) ys)

-- ---- a collection that came at one time counts where that time is at or below

at_time_by : {R T : Type 0} (leq : T → T → Bool) (t u : T) (e : R × ℕ) (us : List ((R × T) × ℕ)) (es : List (R × ℕ)) (b : Bool) → leq t u ≡ b → mapped (λ (r : R × T). r.0) us ≡ (if b then es else []) → mapped (λ (r : R × T). r.0) (if b then ((e.0, t), e.1) ∷ us else us) ≡ (if b then e ∷ es else [])
at_time_by leq t u e us es true q h = ap (λ v. e ∷ v) h
at_time_by leq t u e us es false q h = h

nothing : {A : Type 0} (b : Bool) → ◌≡◌ {A = List A} [] (if b then [] else [])
nothing true = refl
nothing false = refl

pub accumulated-at_time : {R T : Type 0} (leq : T → T → Bool) (t u : T) (es : List (R × ℕ)) → accumulated leq u (mapped (at_time t) es) ≡ (if leq t u then es else [])
accumulated-at_time leq t u [] = nothing (leq t u)
accumulated-at_time leq t u (e ∷ es) = at_time_by leq t u e (filtered (λ r. leq r.1 u) (mapped (at_time t) es)) es (leq t u) refl (accumulated-at_time leq t u es)

-- ---- reading each time as its least upper bound with another changes no sum at or above that one

module _ {T : Type 0} {leq : T → T → Bool} {lub : T → T → T} (lattice : IsLattice leq lub) where
  below_later : (f t s : T) → IsTrue (leq f t) → leq (lub s f) t ≡ leq s t
  below_later f t s h = both_ways (leq (lub s f) t) (leq s t) (λ k. lattice.transitive s (lub s f) t (lattice.left s f) k) (λ k. lattice.least s f t k h)

  later_by : {R : Type 0} (e : (R × T) × ℕ) (f : T) (us vs : List ((R × T) × ℕ)) (b c : Bool) → b ≡ c → mapped (λ (r : R × T). r.0) us ≡ mapped (λ (r : R × T). r.0) vs → mapped (λ (r : R × T). r.0) (if b then (later lub f e.0, e.1) ∷ us else us) ≡ mapped (λ (r : R × T). r.0) (if c then e ∷ vs else vs)
  later_by {R} e f us vs true true q h = ap (λ v. (e.0.0, e.1) ∷ v) h
  later_by {R} e f us vs true false q h = absurd (cc)
  later_by {R} e f us vs false true q h = absurd (cc)
  later_by {R} e f us vs false false q h = h

  pub accumulated-later : {R : Type 0} (f t : T) → IsTrue (leq f t) → (es : List ((R × T) × ℕ)) → accumulated leq t (mapped (later lub f) es) ≡ accumulated leq t es
  accumulated-later {R} f t h [] = refl
  accumulated-later {R} f t h (e ∷ es) = later_by e f (filtered (λ (r : R × T). leq r.1 t) (mapped (later lub f) es)) (filtered (λ (r : R × T). leq r.1 t) es) (leq (lub e.0.1 f) t) (leq e.0.1 t) (below_later f t e.0.1 h) (accumulated-later f t h es)
