-- The times of a key: those at which an entry of the key stands, in a list that rises and has no weight zero.
use Rattle.std.proofs.Common.{◌≡◌, ◌≢◌, ◌∙◌, ℕ, zero, suc, ◌+◌, ◌%◌, ◌^◌, ◌<◌, Bool, true, false, List, [], ◌∷◌, map, Ordering, refl, ap, sym, subst, arith}
use Rattle.std.specs.Prelude.{if◌then◌else◌, ◌⊎◌}
use Rattle.std.proofs.Common.{inl, inr}
use Rattle.std.specs.Cmp.{IsTotalOrder, tied_itself}
use Rattle.std.specs.List.{Contains}
use Rattle.std.specs.Ordering.{is_eq, ordering_reverse}
use Rattle.std.specs.declared.cmp.Ordering.TheVariants.{Less, Equal, Greater}
use Rattle.std.proofs.lemmas.List.Elements.{Contains-append_left, Contains-append_right, Contains-append_cases, Contains-push}
use Rattle.weighted.specs.Words.{sum_at, word}
use Rattle.weighted.specs.SumLaws.{filtered}
use Rattle.weighted.specs.Normal.{Below, Rising, Weighty}
use Rattle.trace_store.specs.Traces.{IsTimeOf, trace_cmp}
use Rattle.trace_store.proofs.Keys.{keyed}

-- ---- a list's first element and its others

pub first_is_in : {A : Type 0} (x : A) (xs : List A) → Contains (x ∷ xs) x
first_is_in x xs = Contains-append_left (x ∷ []) xs x (Contains-push [] x)

pub rest_is_in : {A : Type 0} (x y : A) (xs : List A) → Contains xs y → Contains (x ∷ xs) y
rest_is_in x y xs h = Contains-append_right (x ∷ []) xs y h

pub in_first_or_rest : {A : Type 0} (x y : A) (xs : List A) → Contains (x ∷ xs) y → (x ≡ y) ⊎ Contains xs y
in_first_or_rest x y xs h = elim (Contains-append_cases (x ∷ []) xs y h) [
  | inl one ↦ inl (only x y one)
  | inr more ↦ inr more
] where
  only : {A : Type 0} (x y : A) → Contains (x ∷ []) y → x ≡ y
  only x y (zero, low, is) = is
  only x y (suc k, low, is) = absurd (omega arith)

none_in_nothing : {A : Type 0} (x : A) → Contains [] x → ⊥
none_in_nothing x (k, low, is) = absurd (omega arith)

-- ---- the word of an entry of a list that rises is its weight

pub equal : (o : Ordering) → is_eq o ≡ true → o ≡ Equal
equal Less h = absurd (cc)
equal Equal h = refl
equal Greater h = absurd (cc)

-- another record's weight doesn't count
word_skips : {R : Type 0} (cmp : R → R → Ordering) (e : R × ℕ) (es : List (R × ℕ)) (x : R) → is_eq (cmp e.0 x) ≡ false → word cmp (e ∷ es) x ≡ word cmp es x
word_skips cmp e es x q = rw q (ap (λ n. n % 2 ^ 64) none) where
  none : 0 + sum_at cmp es x ≡ sum_at cmp es x
  none = omega arith

module _ {R : Type 0} (cmp : R → R → Ordering) (order : IsTotalOrder cmp) (same : (x y : R) → cmp x y ≡ Equal → x ≡ y) where
  is_not : (x y : R) → cmp x y ≡ Less → is_eq (cmp y x) ≡ false
  is_not x y h = ap is_eq (order.antisymm y x ∙ ap ordering_reverse h)

  pub none_below : (x : R) (es : List (R × ℕ)) → Below cmp x es → sum_at cmp es x ≡ 0
  none_below x [] b = refl
  none_below x (e ∷ es) b = rw (is_not x e.0 b.0, none_below x es b.1) refl

  pub word_of_first : (e : R × ℕ) (es : List (R × ℕ)) → Below cmp e.0 es → e.1 < 2 ^ 64 → word cmp (e ∷ es) e.0 ≡ e.1
  word_of_first e es b low =
      let i : is_eq (cmp e.0 e.0) ≡ true = ap is_eq (tied_itself order e.0) in
      let n : (e.1 + 0) % 2 ^ 64 ≡ e.1 = omega arith in
      rw (i, none_below e.0 es b) n

  -- a record other than the first has the word that the others give it
  word_of_rest_by : (e : R × ℕ) (es : List (R × ℕ)) (x : R) (b : Bool) → is_eq (cmp e.0 x) ≡ b → Below cmp e.0 es → word cmp es x ≢ 0 → word cmp (e ∷ es) x ≢ 0
  word_of_rest_by e es x true q b has =
      let z : sum_at cmp es x ≡ 0 = subst (λ y. sum_at cmp es y ≡ 0) (same e.0 x (equal (cmp e.0 x) q)) (none_below e.0 es b) in
      absurd (has (ap (λ n. n % 2 ^ 64) z ∙ refl))
  word_of_rest_by e es x false q b has = λ z. has (sym (word_skips cmp e es x q) ∙ z)

  pub word_of_rest : (e : R × ℕ) (es : List (R × ℕ)) (x : R) → Below cmp e.0 es → word cmp es x ≢ 0 → word cmp (e ∷ es) x ≢ 0
  word_of_rest e es x b has = word_of_rest_by e es x (is_eq (cmp e.0 x)) refl b has

module _ {K V T : Type 0} (kcmp : K → K → Ordering) (vcmp : V → V → Ordering) (tcmp : T → T → Ordering) (key : K) where
  -- the times of the key's entries
  abbrev pub times : List (((K × V) × T) × ℕ) → List T
  times es = map (λ e. e.0.1) (filtered (keyed kcmp key) es)

  in_keyed_rest : (e : ((K × V) × T) × ℕ) (us : List (((K × V) × T) × ℕ)) (s : T) (b : Bool) → Contains (map (λ (f : ((K × V) × T) × ℕ). f.0.1) us) s → Contains (map (λ (f : ((K × V) × T) × ℕ). f.0.1) (if b then e ∷ us else us)) s
  in_keyed_rest e us s true h = rest_is_in e.0.1 s (map (λ (f : ((K × V) × T) × ℕ). f.0.1) us) h
  in_keyed_rest e us s false h = h

  module _ (order : IsTotalOrder (trace_cmp kcmp vcmp tcmp)) (same : (x y : (K × V) × T) → trace_cmp kcmp vcmp tcmp x y ≡ Equal → x ≡ y) (itself : is_eq (kcmp key key) ≡ true) where
    -- ---- each time at which some value has a word is there

    each_by : (e : ((K × V) × T) × ℕ) (es : List (((K × V) × T) × ℕ)) (v : V) (s : T) (b : Bool) → is_eq (trace_cmp kcmp vcmp tcmp e.0 ((key, v), s)) ≡ b → word (trace_cmp kcmp vcmp tcmp) (e ∷ es) ((key, v), s) ≢ 0 → (word (trace_cmp kcmp vcmp tcmp) es ((key, v), s) ≢ 0 → Contains (times es) s) → Contains (times (e ∷ es)) s
    each_by e es v s true q has more =
        let is : e.0 ≡ ((key, v), s) = same e.0 ((key, v), s) (equal (trace_cmp kcmp vcmp tcmp e.0 ((key, v), s)) q) in
        let k : keyed kcmp key e.0 ≡ true = ap (keyed kcmp key) is ∙ itself in
        let t : e.0.1 ≡ s = ap (λ (r : (K × V) × T). r.1) is in
        rw k (subst (λ u. Contains (e.0.1 ∷ times es) u) t (first_is_in e.0.1 (times es)))
    each_by e es v s false q has more = in_keyed_rest e (filtered (keyed kcmp key) es) s (keyed kcmp key e.0) (more (λ z. has (word_skips (trace_cmp kcmp vcmp tcmp) e es ((key, v), s) q ∙ z)))

    pub each_time : (es : List (((K × V) × T) × ℕ)) (s : T) → IsTimeOf (trace_cmp kcmp vcmp tcmp) es key s → Contains (times es) s
    each_time [] s (v, has) = absurd (has refl)
    each_time (e ∷ es) s (v, has) = each_by e es v s (is_eq (trace_cmp kcmp vcmp tcmp e.0 ((key, v), s))) refl has (λ h. each_time es s (v, h))

    -- ---- and no other

    later_time : (e : ((K × V) × T) × ℕ) (es : List (((K × V) × T) × ℕ)) (s : T) → Below (trace_cmp kcmp vcmp tcmp) e.0 es → IsTimeOf (trace_cmp kcmp vcmp tcmp) es key s → IsTimeOf (trace_cmp kcmp vcmp tcmp) (e ∷ es) key s
    later_time e es s b (v, has) = (v, word_of_rest (trace_cmp kcmp vcmp tcmp) order same e es ((key, v), s) b has)

    only_by : (ksame : (x y : K) → kcmp x y ≡ Equal → x ≡ y) (e : ((K × V) × T) × ℕ) (es : List (((K × V) × T) × ℕ)) (s : T) (b : Bool) → keyed kcmp key e.0 ≡ b → Below (trace_cmp kcmp vcmp tcmp) e.0 es → e.1 ≢ 0 → e.1 < 2 ^ 64 → Contains (map (λ (f : ((K × V) × T) × ℕ). f.0.1) (if b then e ∷ filtered (keyed kcmp key) es else filtered (keyed kcmp key) es)) s → (Contains (times es) s → IsTimeOf (trace_cmp kcmp vcmp tcmp) es key s) → IsTimeOf (trace_cmp kcmp vcmp tcmp) (e ∷ es) key s
    only_by ksame e es s true q b has low h more = elim (in_first_or_rest e.0.1 s (times es) h) [
      | inl t ↦
          let k : e.0.0.0 ≡ key = ksame e.0.0.0 key (equal (kcmp e.0.0.0 key) q) in
          let r : e.0 ≡ ((key, e.0.0.1), s) = ap (λ x. ((x, e.0.0.1), e.0.1)) k ∙ ap (λ u. ((key, e.0.0.1), u)) t in
          let w : word (trace_cmp kcmp vcmp tcmp) (e ∷ es) e.0 ≡ e.1 = word_of_first (trace_cmp kcmp vcmp tcmp) order same e es b low in
          (e.0.0.1, subst (λ x. word (trace_cmp kcmp vcmp tcmp) (e ∷ es) x ≢ 0) r (λ z. has (sym w ∙ z)))
      | inr later ↦ later_time e es s b (more later)
    ]
    only_by ksame e es s false q b has low h more = later_time e es s b (more h)

    pub only_times : (ksame : (x y : K) → kcmp x y ≡ Equal → x ≡ y) (es : List (((K × V) × T) × ℕ)) (s : T) → Rising (trace_cmp kcmp vcmp tcmp) es → Weighty es → Contains (times es) s → IsTimeOf (trace_cmp kcmp vcmp tcmp) es key s
    only_times ksame [] s r w h = absurd (none_in_nothing s h)
    only_times ksame (e ∷ es) s r w h = only_by ksame e es s (keyed kcmp key e.0) refl r.0 w.0 w.1 h (λ k. only_times ksame es s r.1 w.2 k)
