-- Batches of keys that rise, one after another, are a batch.
use Rattle.std.proofs.Common.{◌≡◌, ◌∙◌, ℕ, List, [], ◌∷◌, ◌++◌, Ordering, ap}
use Rattle.std.specs.List.{AllByRecursion}
use Rattle.std.specs.List.Sorted.{IsStrictlySortedBy}
use Rattle.std.specs.Ordering.{ordering_then}
use Rattle.std.specs.declared.cmp.Ordering.TheVariants.{Less, Equal}
use Rattle.std.proofs.lemmas.Map.Keys.{sorted_head, sorted_tail}
use Rattle.weighted.specs.Alike.{Alike, Alike-append, Alike-mapped, Alike-refl}
use Rattle.weighted.specs.Batches.{IsBatch}
use Rattle.weighted.specs.Normal.{Below, Rising, Weighty}
use Rattle.weighted.specs.WordLaws.{mapped}
use Rattle.trace_store.specs.Traces.{in_turn}
use Rattle.reduce_theory.specs.ByKey.{over}

-- parts that are alike at each key
pub over-alike : {K O : Type 0} (f g : K → List (O × ℕ)) → ((k : K) → Alike (f k) (g k)) → (ks : List K) → Alike (over f ks) (over g ks)
over-alike f g h [] = Alike-refl []
over-alike f g h (k ∷ ks) = Alike-append (Alike-mapped (λ o. (k, o)) (f k) (g k) (h k)) (over-alike f g h ks)

module _ {K O : Type 0} (kcmp : K → K → Ordering) (itself : (k : K) → kcmp k k ≡ Equal) (ocmp : O → O → Ordering) (part : K → List (O × ℕ)) (batch : (k : K) → IsBatch ocmp (part k)) where
  Below-append : (x : K × O) (xs ys : List ((K × O) × ℕ)) → Below (in_turn kcmp ocmp) x xs → Below (in_turn kcmp ocmp) x ys → Below (in_turn kcmp ocmp) x (xs ++ ys)
  Below-append x [] ys h k = k
  Below-append x (e ∷ xs) ys h k = (h.0, Below-append x xs ys h.1 k)

  -- of one key
  Below-key : (k : K) (o : O) (es : List (O × ℕ)) → Below ocmp o es → Below (in_turn kcmp ocmp) (k, o) (mapped (λ v. (k, v)) es)
  Below-key k o [] b = tt
  Below-key k o (e ∷ es) b = (ap (λ r. ordering_then r (ocmp o e.0)) (itself k) ∙ b.0, Below-key k o es b.1)

  -- of a greater key
  Below-other : (k : K) (o : O) (j : K) (es : List (O × ℕ)) → kcmp k j ≡ Less → Below (in_turn kcmp ocmp) (k, o) (mapped (λ v. (j, v)) es)
  Below-other k o j [] h = tt
  Below-other k o j (e ∷ es) h = (ap (λ r. ordering_then r (ocmp o e.0)) h, Below-other k o j es h)

  Below-over : (k : K) (o : O) (ks : List K) → AllByRecursion (λ z. kcmp k z ≡ Less) ks → Below (in_turn kcmp ocmp) (k, o) (over part ks)
  Below-over k o [] a = tt
  Below-over k o (j ∷ ks) a = Below-append (k, o) (mapped (λ v. (j, v)) (part j)) (over part ks) (Below-other k o j (part j) a.0) (Below-over k o ks a.1)

  Rising-key : (k : K) (es : List (O × ℕ)) (rest : List ((K × O) × ℕ)) → Rising ocmp es → ((o : O) → Below (in_turn kcmp ocmp) (k, o) rest) → Rising (in_turn kcmp ocmp) rest → Rising (in_turn kcmp ocmp) (mapped (λ v. (k, v)) es ++ rest)
  Rising-key k [] rest r f h = h
  Rising-key k (e ∷ es) rest r f h = (Below-append (k, e.0) (mapped (λ v. (k, v)) es) rest (Below-key k e.0 es r.0) (f e.0), Rising-key k es rest r.1 f h)

  Rising-over : (ks : List K) → IsStrictlySortedBy kcmp ks → Rising (in_turn kcmp ocmp) (over part ks)
  Rising-over [] s = tt
  Rising-over (k ∷ ks) s = Rising-key k (part k) (over part ks) (batch k).rising (λ o. Below-over k o ks (sorted_head kcmp k ks s)) (Rising-over ks (sorted_tail kcmp k ks s))

  Weighty-key : (k : K) (es : List (O × ℕ)) (rest : List ((K × O) × ℕ)) → Weighty es → Weighty rest → Weighty (mapped (λ v. (k, v)) es ++ rest)
  Weighty-key k [] rest w h = h
  Weighty-key k (e ∷ es) rest w h = (w.0, w.1, Weighty-key k es rest w.2 h)

  Weighty-over : (ks : List K) → Weighty (over part ks)
  Weighty-over [] = tt
  Weighty-over (k ∷ ks) = Weighty-key k (part k) (over part ks) (batch k).weighty (Weighty-over ks)

  pub IsBatch-over : (ks : List K) → IsStrictlySortedBy kcmp ks → IsBatch (in_turn kcmp ocmp) (over part ks)
  IsBatch-over ks s = record { rising = Rising-over ks s; weighty = Weighty-over ks }
