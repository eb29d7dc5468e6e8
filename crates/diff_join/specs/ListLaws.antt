-- Laws of the records of a normal form, and of the times of products.
use Rattle.std.specs.Prelude.{◌≡◌, ℕ, ◌*◌, ◌%◌, ◌^◌, ◌==◌, Bool, true, false, List, [], ◌∷◌, ◌++◌, if◌then◌else◌, Option, Some, None, refl}
use Rattle.std.specs.declared.cmp.Ordering.{Ordering}
use Rattle.std.specs.declared.cmp.Ordering.TheVariants.{Less, Equal, Greater}
use Rattle.std.proofs.Common.{ap}
use Rattle.weighted.specs.WordLaws.{mapped}
use Rattle.weighted.specs.SumLaws.{filtered, product, paired, wrapped}
use Rattle.weighted.specs.Normal.{put, put_by, merged, trimmed, normal}
use Rattle.trace_store.specs.Traces.{at_time, later}
use Rattle.flow_core.specs.Runs.{Every, NoneBelow}
use Rattle.diff_join.specs.Joins.{one, given, timed, at_bound, products_to, due_times}

-- ---- records of a normal form

module _ {R : Type 0} (cmp : R → R → Ordering) (P : R → Type 0) where
  Every-put_by : (o : Ordering) (x : R) (w : ℕ) (e : R × ℕ) (es rest : List (R × ℕ)) → P x → P e.0 → Every (λ f. P f.0) es → Every (λ f. P f.0) rest → Every (λ f. P f.0) (put_by o x w e es rest)
  Every-put_by Less x w e es rest p q h k = (p, (q, h))
  Every-put_by Equal x w e es rest p q h k = (p, h)
  Every-put_by Greater x w e es rest p q h k = (q, k)

  Every-put : (x : R) (w : ℕ) (es : List (R × ℕ)) → P x → Every (λ f. P f.0) es → Every (λ f. P f.0) (put cmp x w es)
  Every-put x w [] p h = (p, tt)
  Every-put x w (e ∷ es) p h = Every-put_by (cmp x e.0) x w e es (put cmp x w es) p h.0 h.1 (Every-put x w es p h.1)

  Every-merged : (es : List (R × ℕ)) → Every (λ f. P f.0) es → Every (λ f. P f.0) (merged cmp es)
  Every-merged [] h = tt
  Every-merged (e ∷ es) h = Every-put e.0 e.1 (merged cmp es) h.0 (Every-merged es h.1)

  Every-trimmed_by : (b : Bool) (x : R) (w : ℕ) (es : List (R × ℕ)) → P x → Every (λ f. P f.0) es → Every (λ f. P f.0) (if b then es else (x, w) ∷ es)
  Every-trimmed_by true x w es p h = h
  Every-trimmed_by false x w es p h = (p, h)

  Every-trimmed : (es : List (R × ℕ)) → Every (λ f. P f.0) es → Every (λ f. P f.0) (trimmed es)
  Every-trimmed [] h = tt
  Every-trimmed (e ∷ es) h = Every-trimmed_by (e.1 % 2 ^ 64 == 0) e.0 (e.1 % 2 ^ 64) (trimmed es) h.0 (Every-trimmed es h.1)

  -- each is a record of the list
  pub Every-normal : (es : List (R × ℕ)) → Every (λ f. P f.0) es → Every (λ f. P f.0) (normal cmp es)
  Every-normal es h = Every-trimmed (merged cmp es) (Every-merged es h)

pub Every-at_time : {R T : Type 0} (P : T → Type 0) (t : T) (es : List (R × ℕ)) → P t → Every (λ e. P e.0.1) (mapped (at_time {R = R} t) es)
Every-at_time P t [] p = tt
Every-at_time P t (e ∷ es) p = (p, Every-at_time P t es p)

pub Every-later : {R T : Type 0} (P Q : T → Type 0) (lub : T → T → T) (f : T) (es : List ((R × T) × ℕ)) → ((s : T) → P s → Q (lub s f)) → Every (λ e. P e.0.1) es → Every (λ e. Q e.0.1) (mapped (later lub f) es)
Every-later P Q lub f [] step h = tt
Every-later P Q lub f (e ∷ es) step h = (step e.0.1 h.0, Every-later P Q lub f es step h.1)

-- ---- times of products

pub due-append : {T O : Type 0} (xs ys : List ((T × O) × ℕ)) → due_times (xs ++ ys) ≡ due_times xs ++ due_times ys
due-append [] ys = refl
due-append (e ∷ xs) ys = ap (λ v. e.0.0 ∷ v) (due-append xs ys)

pub due-wrapped : {T O : Type 0} (xs : List ((T × O) × ℕ)) → due_times (wrapped xs) ≡ due_times xs
due-wrapped [] = refl
due-wrapped (e ∷ xs) = ap (λ v. e.0.0 ∷ v) (due-wrapped xs)

module _ {T O : Type 0} (Q : T → Type 0) where
  due_one : (s : T) (o : Option O) (w : ℕ) (more : List ((T × O) × ℕ)) → Q s → Every Q (due_times more) → Every Q (due_times (one (timed s o) w ++ more))
  due_one s None w more q h = h
  due_one s (Some o) w more q h = (q, h)

  module _ {X Y : Type 0} (lub : T → T → T) (f : X × Y → Option O) (t : T) where
    due_paired : (x : X) (w : ℕ) (es : List ((Y × T) × ℕ)) (more : List ((X × (Y × T)) × ℕ)) → Every (λ e. Q (lub e.0.1 t)) es → Every Q (due_times (given (at_bound lub f t) more)) → Every Q (due_times (given (at_bound lub f t) (paired x w es ++ more)))
    due_paired x w [] more h k = k
    due_paired x w (e ∷ es) more h k = due_one (lub e.0.1 t) (f (x, e.0.0)) (w * e.1) (given (at_bound lub f t) (paired x w es ++ more)) h.0 (due_paired x w es more h.1 k)

    -- each is the bound of t and the time of an entry
    pub due_product : (xs : List (X × ℕ)) (es : List ((Y × T) × ℕ)) → Every (λ e. Q (lub e.0.1 t)) es → Every Q (due_times (given (at_bound lub f t) (product xs es)))
    due_product [] es h = tt
    due_product (x ∷ xs) es h = due_paired x.0 x.1 es (product xs es) h (due_product xs es h)

-- where no time is at or below u, no product is
none_by : {T O : Type 0} (leq : T → T → Bool) (u : T) (e : (T × O) × ℕ) (es : List ((T × O) × ℕ)) (b : Bool) → b ≡ false → mapped (λ (r : T × O). r.1) es ≡ [] → mapped (λ (r : T × O). r.1) (if b then e ∷ es else es) ≡ []
none_by leq u e es true q h = absurd (cc)
none_by leq u e es false q h = h

pub none_to : {T O : Type 0} (leq : T → T → Bool) (u : T) (es : List ((T × O) × ℕ)) → NoneBelow leq u (due_times es) → products_to leq u es ≡ []
none_to leq u [] h = refl
none_to {T} {O} leq u (e ∷ es) h = none_by leq u e (filtered (λ (r : T × O). leq r.0 u) es) (leq e.0.0 u) h.0 (none_to leq u es h.1)
