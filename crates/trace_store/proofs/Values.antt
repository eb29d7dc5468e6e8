-- The values of a key at a time, and the entries of a batch at one.
use Rattle.std.proofs.Common.{◌≡◌, ◌∙◌, ℕ, ◌+◌, ◌<◌, Bool, true, false, List, [], ◌∷◌, ◌++◌, length, take, get_or, Ordering, refl, ap, sym}
use Rattle.std.specs.Prelude.{if◌then◌else◌}
use Rattle.std.specs.Cmp.{IsTotalOrder}
use Rattle.std.specs.Ordering.{is_eq, ordering_then}
use Rattle.std.specs.declared.cmp.Ordering.TheVariants.{Equal}
use Rattle.weighted.specs.Alike.{Alike, Alike-is, Alike-sym, Alike-trans}
use Rattle.weighted.specs.Batches.{IsBatch, joined}
use Rattle.weighted.specs.Normal.{Below, Rising, Weighty, normal, normal-Alike}
use Rattle.weighted.specs.SumLaws.{filtered, filtered-append, joined_more}
use Rattle.weighted.specs.WordLaws.{mapped, mapped-append}
use Rattle.trace_store.specs.Traces.{accumulated, in_turn, trace_cmp, values_of, at_time}
use Rattle.trace_store.specs.TraceLaws.{Alike-accumulated, Alike-values_of}
use Rattle.trace_store.proofs.Keys.{keyed}

-- ---- a key's entries at or below a time are its values of what is accumulated

module _ {K V T : Type 0} (kcmp : K → K → Ordering) (leq : T → T → Bool) (key : K) (t : T) where
  -- whether an entry is at or below the time
  abbrev pub timely : (K × V) × T → Bool
  timely r = leq r.1 t

  -- the values of a key's entries that are
  abbrev pub values : List (((K × V) × T) × ℕ) → List (V × ℕ)
  values es = mapped (λ r. r.0.1) (filtered timely es)

  values_by : (b c : Bool) (e : ((K × V) × T) × ℕ) (us vs : List (((K × V) × T) × ℕ)) → is_eq (kcmp e.0.0.0 key) ≡ b → leq e.0.1 t ≡ c → values_of kcmp key (mapped (λ r. r.0) us) ≡ values vs → values_of kcmp key (mapped (λ r. r.0) (if c then e ∷ us else us)) ≡ values (if b then e ∷ vs else vs)
  values_by true true e us vs p q h = rw (p, q) (ap (λ v. (e.0.0.1, e.1) ∷ v) h)
  values_by true false e us vs p q h = rw q h
  values_by false true e us vs p q h = rw p h
  values_by false false e us vs p q h = h

  pub values_are : (es : List (((K × V) × T) × ℕ)) → values_of kcmp key (accumulated leq t es) ≡ values (filtered (keyed kcmp key) es)
  values_are [] = refl
  values_are (e ∷ es) = values_by (is_eq (kcmp e.0.0.0 key)) (leq e.0.1 t) e (filtered timely es) (filtered (keyed kcmp key) es) refl refl (values_are es)

-- the values of the entries of a key at or below a time
abbrev pub keyed_values : {K V T : Type 0} → (K → K → Ordering) → (T → T → Bool) → K → T → List (((K × V) × T) × ℕ) → List (V × ℕ)
keyed_values kcmp leq key t es = values kcmp leq key t (filtered (keyed kcmp key) es)

-- ---- a batch at one time

module _ {R T : Type 0} (rcmp : R → R → Ordering) (tcmp : T → T → Ordering) (t : T) where
  Below-at_time : (x : R) (es : List (R × ℕ)) → Below rcmp x es → Below (in_turn rcmp tcmp) (x, t) (mapped (at_time t) es)
  Below-at_time x [] b = tt
  Below-at_time x (e ∷ es) b = (ap (λ o. ordering_then o (tcmp t t)) b.0, Below-at_time x es b.1)

  pub Rising-at_time : (es : List (R × ℕ)) → Rising rcmp es → Rising (in_turn rcmp tcmp) (mapped (at_time t) es)
  Rising-at_time [] r = tt
  Rising-at_time (e ∷ es) r = (Below-at_time e.0 es r.0, Rising-at_time es r.1)

  Weighty-at_time : (es : List (R × ℕ)) → Weighty es → Weighty {R = R × T} (mapped (at_time t) es)
  Weighty-at_time [] w = tt
  Weighty-at_time (e ∷ es) w = (w.0, w.1, Weighty-at_time es w.2)

  pub IsBatch-at_time : (es : List (R × ℕ)) → IsBatch rcmp es → IsBatch (in_turn rcmp tcmp) (mapped (at_time t) es)
  IsBatch-at_time es b = record { rising = Rising-at_time es b.rising; weighty = Weighty-at_time es b.weighty }

-- ---- of layers, one after another

module _ {K V T : Type 0} (kcmp : K → K → Ordering) (leq : T → T → Bool) (key : K) (t : T) where
  pub keyed_values-append : (xs ys : List (((K × V) × T) × ℕ)) → keyed_values kcmp leq key t (xs ++ ys) ≡ keyed_values kcmp leq key t xs ++ keyed_values kcmp leq key t ys
  keyed_values-append xs ys =
      ap (λ v. mapped (λ r. r.0.1) (filtered (timely kcmp leq key t) v)) (filtered-append (keyed kcmp key) xs ys)
      ∙ ap (mapped (λ r. r.0.1)) (filtered-append (timely kcmp leq key t) (filtered (keyed kcmp key) xs) (filtered (keyed kcmp key) ys))
      ∙ mapped-append (λ r. r.0.1) (filtered (timely kcmp leq key t) (filtered (keyed kcmp key) xs)) (filtered (timely kcmp leq key t) (filtered (keyed kcmp key) ys))

  pub keyed_values_more : (ls : List (List (((K × V) × T) × ℕ))) (i : ℕ) (l : List (((K × V) × T) × ℕ)) → i < length ls → l ≡ get_or ls i l → keyed_values kcmp leq key t (joined (take (i + 1) ls)) ≡ keyed_values kcmp leq key t (joined (take i ls)) ++ keyed_values kcmp leq key t l
  keyed_values_more ls i l low is = ap (keyed_values kcmp leq key t) (joined_more ls i l low is) ∙ keyed_values-append (joined (take i ls)) l

  -- a normal form has the same values
  pub normal_values : (vcmp : V → V → Ordering) (tcmp : T → T → Ordering) → IsTotalOrder (trace_cmp kcmp vcmp tcmp) → ((x y : (K × V) × T) → trace_cmp kcmp vcmp tcmp x y ≡ Equal → x ≡ y) → (es held : List (((K × V) × T) × ℕ)) → normal (trace_cmp kcmp vcmp tcmp) es ≡ held → Alike (keyed_values kcmp leq key t es) (values_of kcmp key (accumulated leq t held))
  normal_values vcmp tcmp order same es held is =
      Alike-trans (Alike-is (sym (values_are kcmp leq key t es)))
      (Alike-values_of kcmp key (accumulated leq t es) (accumulated leq t held) (Alike-accumulated leq t es held (Alike-sym (Alike-trans (Alike-is (sym is)) (normal-Alike (trace_cmp kcmp vcmp tcmp) order same es)))))

module _ {K V T : Type 0} (kcmp : K → K → Ordering) (key : K) where
  pub filtered_more : (ls : List (List (((K × V) × T) × ℕ))) (i : ℕ) (l : List (((K × V) × T) × ℕ)) → i < length ls → l ≡ get_or ls i l → filtered (keyed kcmp key) (joined (take (i + 1) ls)) ≡ filtered (keyed kcmp key) (joined (take i ls)) ++ filtered (keyed kcmp key) l
  filtered_more ls i l low is = ap (filtered (keyed kcmp key)) (joined_more ls i l low is) ∙ filtered-append (keyed kcmp key) (joined (take i ls)) l
