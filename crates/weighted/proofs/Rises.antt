-- Lists that rise, and lists of words other than zero, joined end to end.
use Rattle.std.proofs.Common.{◌≡◌, ◌≢◌, ◌∙◌, ℕ, zero, suc, ◌+◌, ◌^◌, ◌<◌, List, [], ◌∷◌, ◌++◌, length, take, get_or, Ordering, refl, ap, sym, arith}
use Rattle.std.proofs.lemmas.List.{take_more}
use Rattle.weighted.specs.Words.{minus}
use Rattle.weighted.specs.Alike.{negated}
use Rattle.weighted.specs.Batches.{IsBatch}
use Rattle.weighted.specs.Normal.{Below, Rising, Weighty}

module _ {R : Type 0} (cmp : R → R → Ordering) where
  -- each record of the first list is below each of the second
  abbrev pub Under : List (R × ℕ) → List (R × ℕ) → Type 0
  Under [] bs = Unit {0}
  Under (a ∷ us) bs = Below cmp a.0 bs × Under us bs

  pub Below-append : (x : R) (us bs : List (R × ℕ)) → Below cmp x us → Below cmp x bs → Below cmp x (us ++ bs)
  Below-append x [] bs a b = b
  Below-append x (e ∷ us) bs a b = (a.0, Below-append x us bs a.1 b)

  pub Rising-append : (us bs : List (R × ℕ)) → Rising cmp us → Rising cmp bs → Under us bs → Rising cmp (us ++ bs)
  Rising-append [] bs a b u = b
  Rising-append (e ∷ us) bs a b u = (Below-append e.0 us bs a.0 u.0, Rising-append us bs a.1 b u.1)

  pub Under-append : (us bs cs : List (R × ℕ)) → Under us cs → Under bs cs → Under (us ++ bs) cs
  Under-append [] bs cs a b = b
  Under-append (e ∷ us) bs cs a b = (a.0, Under-append us bs cs a.1 b)

  pub Under-nothing : (us : List (R × ℕ)) → Under us []
  Under-nothing [] = tt
  Under-nothing (a ∷ us) = (tt, Under-nothing us)

  pub Under-first : (us : List (R × ℕ)) (b : R × ℕ) (bs : List (R × ℕ)) → Under us (b ∷ bs) → Under us (b ∷ [])
  Under-first [] b bs u = tt
  Under-first (a ∷ us) b bs u = ((u.0.0, tt), Under-first us b bs u.1)

  pub Under-rest : (us : List (R × ℕ)) (b : R × ℕ) (bs : List (R × ℕ)) → Under us (b ∷ bs) → Under us bs
  Under-rest [] b bs u = tt
  Under-rest (a ∷ us) b bs u = (u.0.1, Under-rest us b bs u.1)

  -- whatever the weight is
  pub Under-weight : (us : List (R × ℕ)) (x : R) (w v : ℕ) → Under us ((x, w) ∷ []) → Under us ((x, v) ∷ [])
  Under-weight [] x w v u = tt
  Under-weight (a ∷ us) x w v u = (u.0, Under-weight us x w v u.1)

  Below-negated : (x : R) (es : List (R × ℕ)) → Below cmp x es → Below cmp x (negated es)
  Below-negated x [] b = tt
  Below-negated x (e ∷ es) b = (b.0, Below-negated x es b.1)

  Rising-negated : (es : List (R × ℕ)) → Rising cmp es → Rising cmp (negated es)
  Rising-negated [] r = tt
  Rising-negated (e ∷ es) r = (Below-negated e.0 es r.0, Rising-negated es r.1)

pub Weighty-append : {R : Type 0} (us bs : List (R × ℕ)) → Weighty us → Weighty bs → Weighty (us ++ bs)
Weighty-append [] bs a b = b
Weighty-append (e ∷ us) bs a b = (a.0, a.1, Weighty-append us bs a.2 b)

-- the weight at a place is not zero
pub Weighty-at : {R : Type 0} (es : List (R × ℕ)) (i : ℕ) (e : R × ℕ) → i < length es → Weighty es → e ≡ get_or es i e → e.1 ≢ 0
Weighty-at [] i e low w is = absurd (omega arith)
Weighty-at {R} (f ∷ es) zero e low w is = λ z. w.0 (sym (ap (λ (p : R × ℕ). p.1) is) ∙ z)
Weighty-at (f ∷ es) (suc i) e low w is = Weighty-at es i e (omega arith) w.2 is

minus_word : (w : ℕ) → w ≢ 0 → w < 2 ^ 64 → (minus w ≢ 0) × (minus w < 2 ^ 64)
minus_word w n low = (λ z. n (omega arith), omega arith)

Weighty-negated : {R : Type 0} (es : List (R × ℕ)) → Weighty es → Weighty (negated es)
Weighty-negated [] w = tt
Weighty-negated (e ∷ es) w = let m = minus_word e.1 w.0 w.1 in (m.0, m.1, Weighty-negated es w.2)

pub IsBatch-negated : {R : Type 0} (cmp : R → R → Ordering) (es : List (R × ℕ)) → IsBatch cmp es → IsBatch cmp (negated es)
IsBatch-negated cmp es b = record { rising = Rising-negated cmp es b.rising; weighty = Weighty-negated es b.weighty }

negated-append : {R : Type 0} (us bs : List (R × ℕ)) → negated (us ++ bs) ≡ negated us ++ negated bs
negated-append [] bs = refl
negated-append (e ∷ us) bs = ap (λ v. (e.0, minus e.1) ∷ v) (negated-append us bs)

pub negated_more : {R : Type 0} (es : List (R × ℕ)) (i : ℕ) (x : R) (w : ℕ) → i < length es → (x, w) ≡ get_or es i (x, w) → negated (take (i + 1) es) ≡ negated (take i es) ++ (x, minus w) ∷ []
negated_more es i x w low is = ap negated (take_more es i (x, w) low) ∙ negated-append (take i es) (get_or es i (x, w) ∷ []) ∙ ap (λ e. negated (take i es) ++ (e.0, minus e.1) ∷ []) (sym is)
