-- In a list in the order of keys, values and times the entries of a key stand side by side.
use Rattle.std.proofs.Common.{◌≡◌, ◌∙◌, ℕ, zero, suc, ◌+◌, ◌-◌, ◌<◌, ◌≤◌, Some, slice_get, Bool, true, false, List, [], ◌∷◌, length, take, drop, get_or, Ordering, refl, ap, sym, arith}
use Rattle.std.specs.Prelude.{if◌then◌else◌}
use Rattle.std.specs.Cmp.{IsTotalOrder}
use Rattle.std.specs.List.{AllWithin, IsFirstMatchOrLen}
use Rattle.std.specs.List.Sorted.{IsPartitionedBy}
use Rattle.std.specs.Ordering.{is_eq, is_ne, is_lt, is_ge, is_gt, ordering_then, ordering_reverse}
use Rattle.std.specs.declared.cmp.Ordering.TheVariants.{Less, Equal, Greater}
use Rattle.weighted.specs.Normal.{Below, Rising}
use Rattle.weighted.specs.SumLaws.{filtered}
use Rattle.trace_store.specs.Traces.{trace_cmp}
use Rattle.trace_store.proofs.Places.{is_within, read_at}

pub not_greater_first : (r s : Ordering) → ordering_then r s ≡ Less → is_gt r ≡ false
not_greater_first Less s h = refl
not_greater_first Equal s h = refl
not_greater_first Greater s h = absurd (cc)

less_is : (o : Ordering) → is_lt o ≡ true → o ≡ Less
less_is Less h = refl
less_is Equal h = absurd (cc)
less_is Greater h = absurd (cc)

greater_is : (o : Ordering) → is_lt o ≡ false → is_ne o ≡ true → o ≡ Greater
greater_is Less h n = absurd (cc)
greater_is Equal h n = absurd (cc)
greater_is Greater h n = refl

pub not_less : (o : Ordering) → is_ge o ≡ true → is_lt o ≡ false
not_less Less h = absurd (cc)
not_less Equal h = refl
not_less Greater h = refl

pub is_less : (o : Ordering) → is_ge o ≡ false → is_lt o ≡ true
is_less Less h = refl
is_less Equal h = absurd (cc)
is_less Greater h = absurd (cc)

less_not_equal : (o : Ordering) → is_lt o ≡ true → is_eq o ≡ false
less_not_equal Less h = refl
less_not_equal Equal h = absurd (cc)
less_not_equal Greater h = absurd (cc)

pub equal_is : (o : Ordering) → is_ne o ≡ false → is_eq o ≡ true
equal_is Less h = absurd (cc)
equal_is Equal h = refl
equal_is Greater h = absurd (cc)

-- whether an entry has a key
abbrev pub keyed : {K V T : Type 0} → (K → K → Ordering) → K → (K × V) × T → Bool
keyed kcmp key r = is_eq (kcmp r.0.0 key)

-- whether it has a smaller one
abbrev pub precedes : {K V T : Type 0} → (K → K → Ordering) → K → ((K × V) × T) × ℕ → Bool
precedes kcmp key e = is_lt (kcmp e.0.0.0 key)

-- whether it has another one
abbrev pub differs : {K V T : Type 0} → (K → K → Ordering) → K → ((K × V) × T) × ℕ → Bool
differs kcmp key e = is_ne (kcmp e.0.0.0 key)

module _ {K V T : Type 0} (kcmp : K → K → Ordering) (vcmp : V → V → Ordering) (tcmp : T → T → Ordering) (order : IsTotalOrder kcmp) (key : K) where
  below_by : (x y : K) (o : Ordering) → kcmp x y ≡ o → is_gt o ≡ false → kcmp y key ≡ Less → kcmp x key ≡ Less
  below_by x y Less h n k = order.trans x y key h k
  below_by x y Equal h n k = order.congr x y key h ∙ k
  below_by x y Greater h n k = absurd (cc)

  above_by : (x y : K) (o : Ordering) → kcmp x y ≡ o → is_gt o ≡ false → kcmp x key ≡ Greater → kcmp y key ≡ Greater
  above_by x y Less h n k = order.antisymm y key ∙ ap ordering_reverse (order.trans key x y (order.antisymm key x ∙ ap ordering_reverse k) h)
  above_by x y Equal h n k = sym (order.congr x y key h) ∙ k
  above_by x y Greater h n k = absurd (cc)

  first_part : (x y : (K × V) × T) → trace_cmp kcmp vcmp tcmp x y ≡ Less → is_gt (kcmp x.0.0 y.0.0) ≡ false
  first_part x y h = two (kcmp x.0.0 y.0.0) (vcmp x.0.1 y.0.1) (tcmp x.1 y.1) h where
    two : (r s t : Ordering) → ordering_then (ordering_then r s) t ≡ Less → is_gt r ≡ false
    two Less s t h = refl
    two Equal s t h = refl
    two Greater s t h = absurd (cc)

  -- ---- entries of smaller keys come first

  below_at : (x : (K × V) × T) (es : List (((K × V) × T) × ℕ)) (j : ℕ) (d : ((K × V) × T) × ℕ) → Below (trace_cmp kcmp vcmp tcmp) x es → j < length es → trace_cmp kcmp vcmp tcmp x (get_or es j d).0 ≡ Less
  below_at x [] j d b low = absurd (omega arith)
  below_at x (e ∷ es) zero d b low = b.0
  below_at x (e ∷ es) (suc j) d b low = below_at x es j d b.1 (omega arith)

  pub parted : (es : List (((K × V) × T) × ℕ)) → Rising (trace_cmp kcmp vcmp tcmp) es → IsPartitionedBy (precedes kcmp key) es
  parted [] r i j d le low h = absurd (omega arith)
  parted (e ∷ es) r zero zero d le low h = h
  parted (e ∷ es) r (suc i) zero d le low h = absurd (omega arith)
  parted (e ∷ es) r zero (suc j) d le low h =
      let f : ((K × V) × T) × ℕ = get_or es j d in
      let b : is_gt (kcmp e.0.0.0 f.0.0.0) ≡ false = first_part e.0 f.0 (below_at e.0 es j d r.0 (omega arith)) in
      ap is_lt (below_by e.0.0.0 f.0.0.0 (kcmp e.0.0.0 f.0.0.0) refl b (less_is (kcmp f.0.0.0 key) h))
  parted (e ∷ es) r (suc i) (suc j) d le low h = parted es r.1 i j d (omega arith) (omega arith) h

  -- ---- they are those from the first one on that has no smaller key

  none_above : (x : (K × V) × T) (es : List (((K × V) × T) × ℕ)) → Below (trace_cmp kcmp vcmp tcmp) x es → kcmp x.0.0 key ≡ Greater → filtered (keyed kcmp key) es ≡ []
  none_above x [] b g = refl
  none_above x (e ∷ es) b g =
      let above : kcmp e.0.0.0 key ≡ Greater = above_by x.0.0 e.0.0.0 (kcmp x.0.0 e.0.0.0) refl (first_part x e.0 b.0) g in
      ap (λ c. if c then e ∷ filtered (keyed kcmp key) es else filtered (keyed kcmp key) es) (ap is_eq above) ∙ none_above x es b.1 g

  run : (es : List (((K × V) × T) × ℕ)) (n : ℕ) → Rising (trace_cmp kcmp vcmp tcmp) es → AllWithin (λ e. precedes kcmp key e ≡ false) es 0 (length es) → n ≤ length es → IsFirstMatchOrLen (differs kcmp key) es n → take n es ≡ filtered (keyed kcmp key) es
  run [] zero r from fits first = refl
  run [] (suc n) r from fits first = absurd (omega arith)
  run (e ∷ es) zero r from fits first =
      let above : kcmp e.0.0.0 key ≡ Greater = greater_is (kcmp e.0.0.0 key) (from 0 e (omega arith) (omega arith)) (first.1 (omega arith) e) in
      sym (ap (λ c. if c then e ∷ filtered (keyed kcmp key) es else filtered (keyed kcmp key) es) (ap is_eq above) ∙ none_above e.0 es r.0 above)
  run (e ∷ es) (suc n) r from fits first =
      let is : keyed kcmp key e.0 ≡ true = equal_is (kcmp e.0.0.0 key) (first.0 0 e (omega arith) (omega arith)) in
      let rest : take n es ≡ filtered (keyed kcmp key) es = run es n r.1 (λ k d _ low. from (suc k) d (omega arith) (omega arith)) (omega arith) ((λ k d _ low. first.0 (suc k) d (omega arith) (omega arith)), (λ low d. first.1 (omega arith) d)) in
      ap (λ v. e ∷ v) rest ∙ sym (ap (λ c. if c then e ∷ filtered (keyed kcmp key) es else filtered (keyed kcmp key) es) is)

  pub cut : (es : List (((K × V) × T) × ℕ)) (s t : ℕ) → Rising (trace_cmp kcmp vcmp tcmp) es → s ≤ t → t ≤ length es → AllWithin (λ e. precedes kcmp key e ≡ true) es 0 s → AllWithin (λ e. precedes kcmp key e ≡ false) es s (length es) → AllWithin (λ e. differs kcmp key e ≡ false) es s t → (t < length es → (d : ((K × V) × T) × ℕ) → differs kcmp key (get_or es t d) ≡ true) → take (t - s) (drop s es) ≡ filtered (keyed kcmp key) es
  cut es zero t r le fits before from same end = let n : t - 0 ≡ t = omega arith in ap (λ m. take m es) n ∙ run es t r from fits ((λ k d a b. same k d a b), end)
  cut [] (suc s) t r le fits before from same end = absurd (omega arith)
  cut (e ∷ es) (suc s) zero r le fits before from same end = absurd (omega arith)
  cut (e ∷ es) (suc s) (suc t) r le fits before from same end =
      let not : keyed kcmp key e.0 ≡ false = less_not_equal (kcmp e.0.0.0 key) (before 0 e (omega arith) (omega arith)) in
      let n : suc t - suc s ≡ t - s = omega arith in
      ap (λ m. take m (drop s es)) n
      ∙ cut es s t r.1 (omega arith) (omega arith) (λ k d _ up. before (suc k) d (omega arith) (omega arith)) (λ k d le up. from (suc k) d (omega arith) (omega arith)) (λ k d le up. same (suc k) d (omega arith) (omega arith)) (λ low d. end (omega arith) d)
      ∙ sym (ap (λ c. if c then e ∷ filtered (keyed kcmp key) es else filtered (keyed kcmp key) es) not)

  -- ---- halving

  pub all_before : (es : List (((K × V) × T) × ℕ)) (m : ℕ) (e : ((K × V) × T) × ℕ) → Rising (trace_cmp kcmp vcmp tcmp) es → slice_get es m ≡ Some e → is_lt (kcmp e.0.0.0 key) ≡ true → AllWithin (λ e. is_lt (kcmp e.0.0.0 key) ≡ true) es 0 (m + 1)
  all_before es m e r is h = λ k d _ low. parted es r k m d (omega arith) (is_within es m e is) (ap (precedes kcmp key) (read_at es m e d is) ∙ h)

  from_by : (es : List (((K × V) × T) × ℕ)) (m k : ℕ) (d e : ((K × V) × T) × ℕ) (b : Bool) → precedes kcmp key (get_or es k d) ≡ b → Rising (trace_cmp kcmp vcmp tcmp) es → m ≤ k → k < length es → slice_get es m ≡ Some e → is_lt (kcmp e.0.0.0 key) ≡ false → b ≡ false
  from_by es m k d e false q r le low is h = refl
  from_by es m k d e true q r le low is h =
      let yes : precedes kcmp key e ≡ true = ap (precedes kcmp key) (sym (read_at es m e d is)) ∙ parted es r m k d le low q in
      let no : true ≡ false = sym yes ∙ h in absurd (cc)

  pub all_from : (es : List (((K × V) × T) × ℕ)) (m : ℕ) (e : ((K × V) × T) × ℕ) → Rising (trace_cmp kcmp vcmp tcmp) es → slice_get es m ≡ Some e → is_lt (kcmp e.0.0.0 key) ≡ false → AllWithin (λ e. is_lt (kcmp e.0.0.0 key) ≡ false) es m (length es)
  all_from es m e r is h = λ k d le low.
      let b : precedes kcmp key (get_or es k d) ≡ false = from_by es m k d e (precedes kcmp key (get_or es k d)) refl r le low is h in b
