-- What every batch is, and the entries of many batches.
use Rattle.std.specs.Prelude.{◌≡◌, ℕ, ◌+◌, ◌<◌, false, List, [], ◌∷◌, ◌++◌, length}
use Rattle.std.proofs.Common.{zero, suc, get_or, ap, subst, ◌∙◌, arith}
use Rattle.std.specs.declared.cmp.Ordering.{Ordering}
use Rattle.std.specs.declared.cmp.Ordering.TheVariants.{Equal}
use Rattle.std.specs.Cmp.{IsTotalOrder}
use Rattle.std.specs.List.Sorted.{IsSortedByKey}
use Rattle.std.specs.Ordering.{is_lt, ordering_reverse}
use Rattle.weighted.specs.Normal.{Rising, Weighty, normal, normal-Rising, normal-Weighty}

-- each record is below all later ones, and each weight is a word other than zero
pub record IsBatch {R : Type 0} (cmp : R → R → Ordering) (es : List (R × ℕ)) : Type 0 where
  pub rising : Rising cmp es
  pub weighty : Weighty es

-- the entries of all batches, one batch after another
abbrev pub joined : {R : Type 0} → List (List (R × ℕ)) → List (R × ℕ)
joined [] = []
joined (b ∷ bs) = b ++ joined bs

-- the normal form of any entries is a batch
pub IsBatch-normal : {R : Type 0} (cmp : R → R → Ordering) → IsTotalOrder cmp → ((x y : R) → cmp x y ≡ Equal → x ≡ y) → (es : List (R × ℕ)) → IsBatch cmp (normal cmp es)
IsBatch-normal cmp order same es = record { rising = normal-Rising cmp order same es; weighty = normal-Weighty cmp order same es }

-- each list is a batch
abbrev pub AreBatches : {R : Type 0} → (R → R → Ordering) → List (List (R × ℕ)) → Type 0
AreBatches cmp [] = Unit {0}
AreBatches cmp (b ∷ bs) = IsBatch cmp b × AreBatches cmp bs

-- records that rise stand in their order
rising_steps : {R : Type 0} (cmp : R → R → Ordering) (order : IsTotalOrder cmp) (es : List (R × ℕ)) → Rising cmp es → (k : ℕ) (d : R × ℕ) → k + 1 < length es → is_lt (cmp (get_or es (k + 1) d).0 (get_or es k d).0) ≡ false
rising_steps cmp order [] r k d low = absurd (omega arith)
rising_steps cmp order (e ∷ []) r k d low = absurd (omega arith)
rising_steps cmp order (e ∷ f ∷ es) r zero d low = ap is_lt (order.antisymm f.0 e.0 ∙ ap ordering_reverse r.0.0)
rising_steps cmp order (e ∷ f ∷ es) r (suc k) d low =
    let n : suc (k + 1) ≡ suc k + 1 = omega arith in
    subst (λ m. is_lt (cmp (get_or (e ∷ f ∷ es) m d).0 (get_or (f ∷ es) k d).0) ≡ false) n (rising_steps cmp order (f ∷ es) r.1 k d (omega arith))

pub sorted_from_rising : {R : Type 0} (cmp : R → R → Ordering) → IsTotalOrder cmp → (es : List (R × ℕ)) → Rising cmp es → IsSortedByKey (λ (e : R × ℕ). e.0) cmp es
sorted_from_rising cmp order es r = λ k d _ low. rising_steps cmp order es r k d low
