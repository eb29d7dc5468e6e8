-- A batch has no key whose words are all zero.
use Rattle.std.specs.Prelude.{◌≡◌, ◌≢◌, ℕ, ◌+◌, ◌%◌, ◌^◌, ◌<◌, Bool, true, false, List, [], ◌∷◌, if◌then◌else◌, refl}
use Rattle.std.specs.declared.cmp.Ordering.{Ordering}
use Rattle.std.specs.declared.cmp.Ordering.TheVariants.{Less, Equal, Greater}
use Rattle.std.specs.Ordering.{is_eq, ordering_then, ordering_reverse}
use Rattle.std.specs.Cmp.{Equal-is, IsTotalOrder, tied_itself}
use Rattle.std.proofs.Common.{arith, ap, sym, subst, ◌∙◌}
use Rattle.weighted.specs.Words.{sum_at, word}
use Rattle.weighted.specs.Normal.{Below, Rising, Weighty}
use Rattle.weighted.specs.Batches.{IsBatch}
use Rattle.trace_store.specs.Traces.{in_turn}
use Rattle.reduce_theory.specs.Evaluated.{key_part}
use Rattle.work_theory.specs.Laps.{IsFull}

module _ {K V : Type 0} (kcmp : K → K → Ordering) (ksame : (x y : K) → kcmp x y ≡ Equal → x ≡ y) (kitself : (x : K) → kcmp x x ≡ Equal) (vcmp : V → V → Ordering) (vtotal : IsTotalOrder vcmp) where
  second_less : (k : K) (x y : V) (j : K) → is_eq (kcmp j k) ≡ true → in_turn kcmp vcmp (k, x) (j, y) ≡ Less → vcmp x y ≡ Less
  second_less k x y j e h =
      let same : j ≡ k = ksame j k ((Equal-is (kcmp j k)).0 e) in
      let tied : kcmp k j ≡ Equal = subst (λ v. kcmp k v ≡ Equal) (sym same) (kitself k) in
      sym (ap (λ r. ordering_then r (vcmp x y)) tied) ∙ h

  below_by : (k : K) (x : V) (e : (K × V) × ℕ) (part : List (V × ℕ)) (b : Bool) → is_eq (kcmp e.0.0 k) ≡ b → in_turn kcmp vcmp (k, x) e.0 ≡ Less → Below vcmp x part → Below vcmp x (if b then (e.0.1, e.1) ∷ part else part)
  below_by k x e part true t h b = (second_less k x e.0.1 e.0.0 t h, b)
  below_by k x e part false t h b = b

  part_below : (k : K) (x : V) (es : List ((K × V) × ℕ)) → Below (in_turn kcmp vcmp) (k, x) es → Below vcmp x (key_part kcmp k es)
  part_below k x [] b = tt
  part_below k x (e ∷ es) b = below_by k x e (key_part kcmp k es) (is_eq (kcmp e.0.0 k)) refl b.0 (part_below k x es b.1)

  rising_by : (k : K) (e : (K × V) × ℕ) (es : List ((K × V) × ℕ)) (b : Bool) → is_eq (kcmp e.0.0 k) ≡ b → Below (in_turn kcmp vcmp) e.0 es → Rising vcmp (key_part kcmp k es) → Rising vcmp (if b then (e.0.1, e.1) ∷ key_part kcmp k es else key_part kcmp k es)
  rising_by k e es true t b r = (part_below k e.0.1 es (subst (λ j. Below (in_turn kcmp vcmp) (j, e.0.1) es) (ksame e.0.0 k ((Equal-is (kcmp e.0.0 k)).0 t)) b), r)
  rising_by k e es false t b r = r

  part_rising : (k : K) (es : List ((K × V) × ℕ)) → Rising (in_turn kcmp vcmp) es → Rising vcmp (key_part kcmp k es)
  part_rising k [] r = tt
  part_rising k (e ∷ es) r = rising_by k e es (is_eq (kcmp e.0.0 k)) refl r.0 (part_rising k es r.1)

  weighty_by : (e : (K × V) × ℕ) (part : List (V × ℕ)) (b : Bool) → (e.1 ≢ 0) → (e.1 < 2 ^ 64) → Weighty part → Weighty (if b then (e.0.1, e.1) ∷ part else part)
  weighty_by e part true n low w = (n, low, w)
  weighty_by e part false n low w = w

  part_weighty : (k : K) (es : List ((K × V) × ℕ)) → Weighty es → Weighty (key_part kcmp k es)
  part_weighty k [] w = tt
  part_weighty k (e ∷ es) w = weighty_by e (key_part kcmp k es) (is_eq (kcmp e.0.0 k)) w.0 w.1 (part_weighty k es w.2)

  none_below : (x : V) (es : List (V × ℕ)) → Below vcmp x es → sum_at vcmp es x ≡ 0
  none_below x [] b = refl
  none_below x (e ∷ es) b =
      let above : is_eq (vcmp e.0 x) ≡ false = ap is_eq (vtotal.antisymm e.0 x ∙ ap ordering_reverse b.0) in
      rw above (omega (arith, none_below x es b.1))

  not_zero : (w n : ℕ) → w ≢ 0 → w < 2 ^ 64 → n ≡ 0 → (w + n) % 2 ^ 64 ≢ 0
  not_zero w n h low e z = h (omega arith)

  first_word : (e : V × ℕ) (es : List (V × ℕ)) → Rising vcmp (e ∷ es) → Weighty (e ∷ es) → word vcmp (e ∷ es) e.0 ≢ 0
  first_word e es r w =
      let itself : is_eq (vcmp e.0 e.0) ≡ true = ap is_eq (tied_itself vtotal e.0) in
      rw itself (not_zero e.1 (sum_at vcmp es e.0) w.0 w.1 (none_below e.0 es r.0))

  no_zero : (es : List (V × ℕ)) → Rising vcmp es → Weighty es → ((x : V) → word vcmp es x ≡ 0) → es ≡ []
  no_zero [] r w f = refl
  no_zero (e ∷ es) r w f = absurd (first_word e es r w (f e.0))

  pub batch-full : (fed : List ((K × V) × ℕ)) → IsBatch (in_turn kcmp vcmp) fed → IsFull kcmp vcmp fed
  batch-full fed b k f = no_zero (key_part kcmp k fed) (part_rising k fed b.rising) (part_weighty k fed b.weighty) f
