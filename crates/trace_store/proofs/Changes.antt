-- What an insert and a seal change.
use Rattle.std.proofs.Common.{◌≡◌, ◌≢◌, ◌∙◌, ℕ, zero, suc, ◌+◌, ◌-◌, ◌*◌, ◌^◌, ◌<◌, ◌≤◌, Bool, true, false, List, [], ◌∷◌, ◌++◌, length, take, drop, get_or, Ordering, refl, ap, sym, subst, append-nil, append_assoc, arith, eqb-true}
use Rattle.std.specs.Prelude.{◌==◌, IsTrue, if◌then◌else◌}
use Rattle.std.specs.Cmp.{IsTotalOrder}
use Rattle.std.specs.declared.cmp.Ordering.TheVariants.{Less, Equal}
use Rattle.std.proofs.lemmas.List.{length-take-le}
use Rattle.lattice_time.specs.Lattice.{IsLattice}
use Rattle.weighted.specs.Alike.{Alike, Alike-append, Alike-is, Alike-mapped, Alike-refl, Alike-sym, Alike-trans}
use Rattle.weighted.specs.Batches.{IsBatch, joined}
use Rattle.weighted.specs.Normal.{Below, Rising, Weighty, normal, normal-Alike, normal-Rising, normal-Weighty, normal-only, normal-same}
use Rattle.weighted.specs.SumLaws.{Alike-filtered, filtered}
use Rattle.weighted.specs.WordLaws.{mapped}
use Rattle.trace_store.specs.Layers.{with_layer}
use Rattle.trace_store.proofs.Joined.{joined-split, joined-with}
use Rattle.trace_store.specs.Traces.{accumulated, at_time, later}
use Rattle.trace_store.specs.TraceLaws.{Alike-accumulated, accumulated-append, accumulated-at_time, accumulated-later}

pub is_nothing : {A : Type 0} (xs : List A) → (length xs == 0) ≡ true → xs ≡ []
is_nothing [] h = refl
is_nothing (x ∷ xs) h = absurd (omega (arith, eqb-true (length (x ∷ xs)) 0 h))

module _ {R T : Type 0} (leq : T → T → Bool) (t : T) (held : List ((R × T) × ℕ)) (batch : List (R × ℕ)) where
  -- the sums after an insert
  pub inserted_sums : (new : List ((R × T) × ℕ)) → Alike new (held ++ mapped (at_time t) batch) → (u : T) → Alike (accumulated leq u new) (accumulated leq u held ++ (if leq t u then batch else []))
  inserted_sums new a u = Alike-trans (Alike-accumulated leq u new (held ++ mapped (at_time t) batch) a) (Alike-is (accumulated-append leq u held (mapped (at_time t) batch) ∙ ap (λ v. accumulated leq u held ++ v) (accumulated-at_time leq t u batch)))

  -- nothing is inserted
  pub same_alike : batch ≡ [] → Alike held (held ++ mapped (at_time t) batch)
  same_alike none = Alike-is (sym (ap (λ v. held ++ mapped (at_time t) v) none ∙ append-nil held))

  pub same_value : (cmp : R × T → R × T → Ordering) → IsTotalOrder cmp → ((x y : R × T) → cmp x y ≡ Equal → x ≡ y) → IsBatch cmp held → batch ≡ [] → held ≡ normal cmp (held ++ mapped (at_time t) batch)
  same_value cmp order same is none = normal-only cmp order same held (held ++ mapped (at_time t) batch) is.rising is.weighty (same_alike none)

-- the sums after a seal
pub sealed_sums : {R T : Type 0} {leq : T → T → Bool} {lub : T → T → T} → IsLattice leq lub → (f : T) (held new : List ((R × T) × ℕ)) → Alike new (mapped (later lub f) held) → (t : T) → IsTrue (leq f t) → Alike (accumulated leq t new) (accumulated leq t held)
sealed_sums {R} {T} {leq} {lub} lattice f held new a t h = Alike-trans (Alike-accumulated leq t new (mapped (later lub f) held) a) (Alike-is (accumulated-later lattice f t h held))

-- ---- layers

module _ {R : Type 0} (cmp : R → R → Ordering) (order : IsTotalOrder cmp) (same : (x y : R) → cmp x y ≡ Equal → x ≡ y) where
  -- a batch and the newest layers in one layer
  pub inserted : (ls : List (List (R × ℕ))) (kept : ℕ) (merged batch : List (R × ℕ)) → Alike merged (joined (drop kept ls) ++ batch) → Alike (joined (with_layer (take kept ls) merged)) (joined ls ++ batch)
  inserted ls kept merged batch a =
      Alike-trans (Alike-is (joined-with (take kept ls) merged))
      (Alike-trans (Alike-append (Alike-refl (joined (take kept ls))) a)
      (Alike-is (sym (append_assoc (joined (take kept ls)) (joined (drop kept ls)) batch) ∙ ap (λ v. v ++ batch) (joined-split ls kept))))

  pub inserted_normal : (ls news : List (List (R × ℕ))) (held batch : List (R × ℕ)) → normal cmp (joined ls) ≡ held → Alike (joined news) (joined ls ++ batch) → Alike (joined news) (held ++ batch)
  inserted_normal ls news held batch is a = Alike-trans a (Alike-append (Alike-sym (Alike-trans (Alike-is (sym is)) (normal-Alike cmp order same (joined ls)))) (Alike-refl batch))

  pub normal_is : (news : List (R × ℕ)) (es : List (R × ℕ)) → Alike news es → normal cmp news ≡ normal cmp es
  normal_is news es a = normal-same cmp order same news es a

  pub normal_alike : (news : List (R × ℕ)) (es : List (R × ℕ)) → Alike news es → Alike (normal cmp news) es
  normal_alike news es a = Alike-trans (normal-Alike cmp order same news) a

  -- a layer of the newest ones that is at most half as long as the last that stays
  pub half_of : (ls : List (List (R × ℕ))) (kept : ℕ) (merged : List (R × ℕ)) → kept ≤ length ls → (0 < kept → (d : List (R × ℕ)) → 2 * length merged ≤ length (get_or ls (kept - 1) d)) → (d : List (R × ℕ)) → 0 < length (take kept ls) → 2 * length merged ≤ length (get_or (take kept ls) (length (take kept ls) - 1) d)
  half_of ls kept merged le half d low =
      let n : length (take kept ls) ≡ kept = length-take-le kept ls le in
      let at : get_or (take kept ls) (length (take kept ls) - 1) d ≡ get_or ls (kept - 1) d = ap (λ k. get_or (take kept ls) (k - 1) d) n ∙ get_take ls kept (kept - 1) d (omega (arith, n)) in
      subst (λ v. 2 * length merged ≤ length v) (sym at) (half (omega (arith, n)) d) where
        get_take : {X : Type 0} (xs : List X) (n i : ℕ) (d : X) → i < n → get_or (take n xs) i d ≡ get_or xs i d
        get_take [] zero i d low = refl
        get_take [] (suc n) i d low = refl
        get_take (x ∷ xs) zero i d low = absurd (omega arith)
        get_take (x ∷ xs) (suc n) zero d low = refl
        get_take (x ∷ xs) (suc n) (suc i) d low = get_take xs n i d (omega arith)

  -- ---- the entries with a property

  below_filtered_by : (p : R → Bool) (x : R) (e : R × ℕ) (us : List (R × ℕ)) (b : Bool) → cmp x e.0 ≡ Less → Below cmp x us → Below cmp x (if b then e ∷ us else us)
  below_filtered_by p x e us true h b = (h, b)
  below_filtered_by p x e us false h b = b

  below_filtered : (p : R → Bool) (x : R) (es : List (R × ℕ)) → Below cmp x es → Below cmp x (filtered p es)
  below_filtered p x [] b = tt
  below_filtered p x (e ∷ es) b = below_filtered_by p x e (filtered p es) (p e.0) b.0 (below_filtered p x es b.1)

  rising_filtered_by : (e : R × ℕ) (us : List (R × ℕ)) (b : Bool) → Below cmp e.0 us → Rising cmp us → Rising cmp (if b then e ∷ us else us)
  rising_filtered_by e us true b r = (b, r)
  rising_filtered_by e us false b r = r

  rising_filtered : (p : R → Bool) (es : List (R × ℕ)) → Rising cmp es → Rising cmp (filtered p es)
  rising_filtered p [] r = tt
  rising_filtered p (e ∷ es) r = rising_filtered_by e (filtered p es) (p e.0) (below_filtered p e.0 es r.0) (rising_filtered p es r.1)

  weighty_filtered_by : (e : R × ℕ) (us : List (R × ℕ)) (b : Bool) → e.1 ≢ 0 → e.1 < 2 ^ 64 → Weighty us → Weighty (if b then e ∷ us else us)
  weighty_filtered_by e us true n l w = (n, l, w)
  weighty_filtered_by e us false n l w = w

  weighty_filtered : (p : R → Bool) (es : List (R × ℕ)) → Weighty es → Weighty (filtered p es)
  weighty_filtered p [] w = tt
  weighty_filtered p (e ∷ es) w = weighty_filtered_by e (filtered p es) (p e.0) w.0 w.1 (weighty_filtered p es w.2)

  pub filtered-normal : (p : R → Bool) (es : List (R × ℕ)) → normal cmp (filtered p es) ≡ filtered p (normal cmp es)
  filtered-normal p es = sym (normal-only cmp order same (filtered p (normal cmp es)) (filtered p es) (rising_filtered p (normal cmp es) (normal-Rising cmp order same es)) (weighty_filtered p (normal cmp es) (normal-Weighty cmp order same es)) (Alike-filtered p (normal cmp es) es (normal-Alike cmp order same es)))

  -- a normal form is its own
  pub normal-twice : (es : List (R × ℕ)) → normal cmp (normal cmp es) ≡ normal cmp es
  normal-twice es = normal-same cmp order same (normal cmp es) es (normal-Alike cmp order same es)

  -- all layers in one, later
  pub sealed_alike : (l : R → R) (ls news : List (List (R × ℕ))) (one held : List (R × ℕ)) → joined news ≡ one → one ≡ normal cmp (mapped l (joined ls)) → normal cmp (joined ls) ≡ held → Alike (joined news) (mapped l held)
  sealed_alike l ls news one held is made was =
      Alike-trans (Alike-is (is ∙ made)) (Alike-trans (normal-Alike cmp order same (mapped l (joined ls)))
      (Alike-mapped l (joined ls) held (Alike-sym (Alike-trans (Alike-is (sym was)) (normal-Alike cmp order same (joined ls))))))

  pub sealed_length : (news : List (List (R × ℕ))) (one es : List (R × ℕ)) → joined news ≡ one → one ≡ normal cmp es → length one ≡ length (normal cmp (joined news))
  sealed_length news one es is made = ap length (made ∙ sym (normal-twice es) ∙ ap (normal cmp) (sym (is ∙ made)))
