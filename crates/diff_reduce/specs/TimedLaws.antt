-- What a trace holds of a run.
use Rattle.std.specs.Prelude.{◌≡◌, ◌≢◌, ℕ, ◌+◌, ◌%◌, ◌^◌, ◌⊎◌, ◌&&◌, Bool, true, false, IsTrue, List, [], ◌∷◌, ◌++◌, if◌then◌else◌, refl}
use Rattle.std.specs.declared.cmp.Ordering.{Ordering}
use Rattle.std.specs.declared.cmp.Ordering.TheVariants.{Less, Equal, Greater}
use Rattle.std.specs.Ordering.{is_eq, ordering_then}
use Rattle.std.specs.Cmp.{Equal-is}
use Rattle.std.proofs.Common.{arith, ap, sym, ◌∙◌, inl, inr, append-nil, append_assoc}
use Rattle.lattice_time.specs.Lattice.{IsLattice}
use Rattle.weighted.specs.Words.{sum_at, word}
use Rattle.weighted.specs.WordLaws.{mapped, mapped-append, sum_at-append}
use Rattle.weighted.specs.SumLaws.{filtered}
use Rattle.weighted.specs.Alike.{Alike, Alike-is, Alike-trans, Alike-mapped, words-Alike}
use Rattle.trace_store.specs.Traces.{IsTimeOf, at_time, later, trace_cmp, values_of}
use Rattle.trace_store.specs.Traces.{accumulated as held_at}
use Rattle.trace_store.specs.TraceLaws.{Alike-accumulated, accumulated-append, accumulated-at_time}
use Rattle.flow_core.specs.Runs.{Step, accumulated, fed_of}
use Rattle.reduce_theory.specs.Evaluated.{key_part, key_steps, read_at}
use Rattle.reduce_theory.specs.KeyLaws.{read_leq}
use Rattle.reduce_theory.specs.MarkLaws.{IsOldMark, empty_or}
use Rattle.diff_reduce.specs.Stands.{timed}

-- the values of a key, in both spellings
values_by : {K V : Type 0} (kcmp : K → K → Ordering) (k : K) (e : (K × V) × ℕ) (es : List ((K × V) × ℕ)) (b : Bool) → values_of kcmp k es ≡ key_part kcmp k es → mapped (λ (r : K × V). r.1) (if b then e ∷ filtered (λ (r : K × V). is_eq (kcmp r.0 k)) es else filtered (λ (r : K × V). is_eq (kcmp r.0 k)) es) ≡ (if b then (e.0.1, e.1) ∷ key_part kcmp k es else key_part kcmp k es)
values_by kcmp k e es true h = ap (λ v. (e.0.1, e.1) ∷ v) h
values_by kcmp k e es false h = h

pub values-are : {K V : Type 0} (kcmp : K → K → Ordering) (k : K) (es : List ((K × V) × ℕ)) → values_of kcmp k es ≡ key_part kcmp k es
values-are kcmp k [] = refl
values-are kcmp k (e ∷ es) = values_by kcmp k e es (is_eq (kcmp e.0.0 k)) (values-are kcmp k es)

module _ {T : Type 0} (leq : T → T → Bool) (lub : T → T → T) (lattice : IsLattice leq lub) where
  pub timed-append : {R : Type 0} (f : T) (xs ys : List (T × List (R × ℕ))) → timed lub f (xs ++ ys) ≡ timed lub f xs ++ timed lub f ys
  timed-append f [] ys = refl
  timed-append f (e ∷ xs) ys = ap (λ v. mapped (at_time (lub e.0 f)) e.1 ++ v) (timed-append f xs ys) ∙ sym (append_assoc (mapped (at_time (lub e.0 f)) e.1) (timed lub f xs) (timed lub f ys))

  pub timed_last : {R : Type 0} (f t : T) (xs : List (T × List (R × ℕ))) (es : List (R × ℕ)) → lub t f ≡ t → timed lub f (xs ++ (t, es) ∷ []) ≡ timed lub f xs ++ mapped (at_time t) es
  timed_last f t xs es h = timed-append f xs ((t, es) ∷ []) ∙ ap (λ v. timed lub f xs ++ v) (append-nil (mapped (at_time (lub t f)) es) ∙ ap (λ u. mapped (at_time u) es) h)

  -- at or above the seal a trace accumulates to what the run does
  pub held-timed : {R : Type 0} (f t : T) (es : List (T × List (R × ℕ))) → IsTrue (leq f t) → held_at leq t (timed lub f es) ≡ accumulated leq es t
  held-timed f t [] over = refl
  held-timed f t (e ∷ es) over = accumulated-append leq t (mapped (at_time (lub e.0 f)) e.1) (timed lub f es) ∙ ap (λ v. v ++ held_at leq t (timed lub f es)) (accumulated-at_time leq (lub e.0 f) t e.1 ∙ ap (λ b. if b then e.1 else []) (read_leq leq lub lattice e.0 f t over)) ∙ ap (λ v. (if leq e.0 t then e.1 else []) ++ v) (held-timed f t es over)

  pub held_is : {R : Type 0} (f t : T) (es : List (T × List (R × ℕ))) (held : List ((R × T) × ℕ)) → IsTrue (leq f t) → Alike held (timed lub f es) → Alike (held_at leq t held) (accumulated leq es t)
  held_is f t es held over a = Alike-trans (Alike-accumulated leq t held (timed lub f es) a) (Alike-is (held-timed f t es over))

  -- reading times at a later seal
  lub_twice : (s g f : T) → IsTrue (leq g f) → lub (lub s g) f ≡ lub s f
  lub_twice s g f h = lattice.antisymmetric (lub (lub s g) f) (lub s f)
      (lattice.least (lub s g) f (lub s f) (lattice.least s g (lub s f) (lattice.left s f) (lattice.transitive g f (lub s f) h (lattice.right s f))) (lattice.right s f))
      (lattice.least s f (lub (lub s g) f) (lattice.transitive s (lub s g) (lub (lub s g) f) (lattice.left s g) (lattice.left (lub s g) f)) (lattice.right (lub s g) f))

  later-at_time : {R : Type 0} (f u : T) (es : List (R × ℕ)) → mapped (later lub f) (mapped (at_time u) es) ≡ mapped (at_time (lub u f)) es
  later-at_time f u [] = refl
  later-at_time f u (e ∷ es) = ap (λ v. ((e.0, lub u f), e.1) ∷ v) (later-at_time f u es)

  pub timed_later : {R : Type 0} (g f : T) (es : List (T × List (R × ℕ))) → IsTrue (leq g f) → mapped (later lub f) (timed lub g es) ≡ timed lub f es
  timed_later {R} g f [] h = refl
  timed_later {R} g f (e ∷ es) h = mapped-append (later lub f) (mapped (at_time (lub e.0 g)) e.1) (timed lub g es) ∙ ap (λ v. v ++ mapped (later lub f) (timed lub g es)) (later-at_time f (lub e.0 g) e.1 ∙ ap (λ u. mapped (at_time u) e.1) (lub_twice e.0 g f h)) ∙ ap (λ v. mapped (at_time (lub e.0 f)) e.1 ++ v) (timed_later g f es h)

  pub sealed_is : {R : Type 0} (g f : T) (es : List (T × List (R × ℕ))) (held new : List ((R × T) × ℕ)) → IsTrue (leq g f) → Alike held (timed lub g es) → Alike new (mapped (later lub f) held) → Alike new (timed lub f es)
  sealed_is g f es held new h a b = Alike-trans b (Alike-trans (Alike-mapped (later lub f) held (timed lub g es) a) (Alike-is (timed_later g f es h)))

-- ---- the words of a key's value at a time

no : (b : Bool) → false ≡ b && false
no true = refl
no false = refl

yes : (b : Bool) → b ≡ b && true
yes true = refl
yes false = refl

three : (r s q : Ordering) → is_eq (ordering_then (ordering_then r s) q) ≡ is_eq q && (is_eq r && is_eq s)
three Less s q = no (is_eq q)
three Greater s q = no (is_eq q)
three Equal Less q = no (is_eq q)
three Equal Greater q = no (is_eq q)
three Equal Equal q = yes (is_eq q)

module _ {K V T : Type 0} (kcmp : K → K → Ordering) (vcmp : V → V → Ordering) (tcmp : T → T → Ordering) (k : K) where
  nothing : (b : Bool) → ◌≡◌ {A = ℕ} 0 (if b then 0 else 0)
  nothing true = refl
  nothing false = refl

  stamped_by : (x : V) (w n m : ℕ) (c bt bk : Bool) (part : List (V × ℕ)) (v : V) → is_eq (vcmp x v) ≡ c → n ≡ (if bt then sum_at vcmp part v else 0) → (if bt && (bk && c) then w else 0) + n ≡ (if bt then sum_at vcmp (if bk then (x, w) ∷ part else part) v else 0)
  stamped_by x w n m c true true part v q h = rw q (ap (λ r. (if c then w else 0) + r) h)
  stamped_by x w n m c true false part v q h = omega (arith, h)
  stamped_by x w n m c false bk part v q h = omega (arith, h)

  pub sum_stamped : (t u : T) (v : V) (es : List ((K × V) × ℕ)) → sum_at (trace_cmp kcmp vcmp tcmp) (mapped (at_time t) es) ((k, v), u) ≡ (if is_eq (tcmp t u) then sum_at vcmp (key_part kcmp k es) v else 0)
  sum_stamped t u v [] = nothing (is_eq (tcmp t u))
  sum_stamped t u v (e ∷ es) = ap (λ b. (if b then e.1 else 0) + sum_at (trace_cmp kcmp vcmp tcmp) (mapped (at_time t) es) ((k, v), u)) (three (kcmp e.0.0 k) (vcmp e.0.1 v) (tcmp t u)) ∙ stamped_by e.0.1 e.1 (sum_at (trace_cmp kcmp vcmp tcmp) (mapped (at_time t) es) ((k, v), u)) 0 (is_eq (vcmp e.0.1 v)) (is_eq (tcmp t u)) (is_eq (kcmp e.0.0 k)) (key_part kcmp k es) v refl (sum_stamped t u v es)

  -- a trace has the words of old marks
  pub sum_timed : {O : Type 0} (lub : T → T → T) (f u : T) (v : V) (steps : List (Step T (K × V) (K × O))) → sum_at (trace_cmp kcmp vcmp tcmp) (timed lub f (fed_of steps)) ((k, v), u) ≡ sum_at tcmp (read_at lub vcmp f v (key_steps kcmp k steps)) u
  sum_timed lub f u v [] = refl
  sum_timed lub f u v (s ∷ ss) = sum_at-append (trace_cmp kcmp vcmp tcmp) (mapped (at_time (lub s.time f)) s.fed) (timed lub f (fed_of ss)) ((k, v), u) ∙ ap (λ n. n + sum_at (trace_cmp kcmp vcmp tcmp) (timed lub f (fed_of ss)) ((k, v), u)) (sum_stamped (lub s.time f) u v s.fed) ∙ ap (λ n. (if is_eq (tcmp (lub s.time f) u) then sum_at vcmp (key_part kcmp k s.fed) v else 0) + n) (sum_timed lub f u v ss)

  pub IsTimeOf-alike : (xs ys : List (((K × V) × T) × ℕ)) (u : T) → Alike xs ys → IsTimeOf (trace_cmp kcmp vcmp tcmp) xs k u → IsTimeOf (trace_cmp kcmp vcmp tcmp) ys k u
  IsTimeOf-alike xs ys u a is = (is.0, λ e. is.1 ((words-Alike (trace_cmp kcmp vcmp tcmp) xs ys a).words ((k, is.0), u) ∙ e))

  pub time_is_mark : {O : Type 0} (lub : T → T → T) (f u : T) (steps : List (Step T (K × V) (K × O))) → IsTimeOf (trace_cmp kcmp vcmp tcmp) (timed lub f (fed_of steps)) k u → IsOldMark lub tcmp vcmp f (key_steps kcmp k steps) u
  time_is_mark lub f u steps is = record { value = is.0; nonzero = λ e. is.1 (ap (λ n. n % 2 ^ 64) (sum_timed lub f u is.0 steps) ∙ e) }

  pub mark_is_time : {O : Type 0} (lub : T → T → T) (f u : T) (steps : List (Step T (K × V) (K × O))) → IsOldMark lub tcmp vcmp f (key_steps kcmp k steps) u → IsTimeOf (trace_cmp kcmp vcmp tcmp) (timed lub f (fed_of steps)) k u
  mark_is_time lub f u steps is = (is.value, λ e. is.nonzero (sym (ap (λ n. n % 2 ^ 64) (sum_timed lub f u is.value steps)) ∙ e))

  -- ---- one more batch changes the times of its keys at its time alone

  zero_more : (a b : ℕ) → b ≡ 0 → (a + b) % 2 ^ 64 ≡ a % 2 ^ 64
  zero_more a b h = omega arith

  not_fed : (t u : T) (delta : List ((K × V) × ℕ)) (v : V) (b : Bool) → (b ≡ false) ⊎ (key_part kcmp k delta ≡ []) → (if b then sum_at vcmp (key_part kcmp k delta) v else 0) ≡ 0
  not_fed t u delta v false h = refl
  not_fed t u delta v true (inl e) = absurd (cc)
  not_fed t u delta v true (inr e) = ap (λ es. sum_at vcmp es v) e

  same_word : (t u : T) (held : List (((K × V) × T) × ℕ)) (delta : List ((K × V) × ℕ)) (v : V) → (is_eq (tcmp t u) ≡ false) ⊎ (key_part kcmp k delta ≡ []) → word (trace_cmp kcmp vcmp tcmp) (held ++ mapped (at_time t) delta) ((k, v), u) ≡ word (trace_cmp kcmp vcmp tcmp) held ((k, v), u)
  same_word t u held delta v h = ap (λ n. n % 2 ^ 64) (sum_at-append (trace_cmp kcmp vcmp tcmp) held (mapped (at_time t) delta) ((k, v), u)) ∙ zero_more (sum_at (trace_cmp kcmp vcmp tcmp) held ((k, v), u)) (sum_at (trace_cmp kcmp vcmp tcmp) (mapped (at_time t) delta) ((k, v), u)) (sum_stamped t u v delta ∙ not_fed t u delta v (is_eq (tcmp t u)) h)

  module _ (tsame : (x y : T) → tcmp x y ≡ Equal → x ≡ y) where
    cases_by : (t u : T) (delta : List ((K × V) × ℕ)) (b : Bool) → is_eq (tcmp t u) ≡ b → ((is_eq (tcmp t u) ≡ false) ⊎ (key_part kcmp k delta ≡ [])) ⊎ ((u ≡ t) × (key_part kcmp k delta ≢ []))
    cases_by t u delta false e = inl (inl e)
    cases_by t u delta true e = elim (empty_or (key_part kcmp k delta)) [ inl z ↦ inl (inr z) | inr n ↦ inr (sym (tsame t u ((Equal-is (tcmp t u)).0 e)), n) ]

    pub time_stays : (t u : T) (held new : List (((K × V) × T) × ℕ)) (delta : List ((K × V) × ℕ)) → Alike new (held ++ mapped (at_time t) delta) → IsTimeOf (trace_cmp kcmp vcmp tcmp) held k u → IsTimeOf (trace_cmp kcmp vcmp tcmp) new k u ⊎ ((u ≡ t) × (key_part kcmp k delta ≢ []))
    time_stays t u held new delta a is = elim (cases_by t u delta (is_eq (tcmp t u)) refl) [
      | inl h ↦ inl (is.0, λ e. is.1 (sym (same_word t u held delta is.0 h) ∙ sym ((words-Alike (trace_cmp kcmp vcmp tcmp) new (held ++ mapped (at_time t) delta) a).words ((k, is.0), u)) ∙ e))
      | inr n ↦ inr n
    ]

    pub time_was : (t u : T) (held new : List (((K × V) × T) × ℕ)) (delta : List ((K × V) × ℕ)) → Alike new (held ++ mapped (at_time t) delta) → IsTimeOf (trace_cmp kcmp vcmp tcmp) new k u → IsTimeOf (trace_cmp kcmp vcmp tcmp) held k u ⊎ ((u ≡ t) × (key_part kcmp k delta ≢ []))
    time_was t u held new delta a is = elim (cases_by t u delta (is_eq (tcmp t u)) refl) [
      | inl h ↦ inl (is.0, λ e. is.1 ((words-Alike (trace_cmp kcmp vcmp tcmp) new (held ++ mapped (at_time t) delta) a).words ((k, is.0), u) ∙ same_word t u held delta is.0 h ∙ e))
      | inr n ↦ inr n
    ]
