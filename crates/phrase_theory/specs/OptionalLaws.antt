-- Reading parts that may be left out.
use Rattle.std.proofs.Common.{◌≡◌, ℕ, Bool, true, false, List, [], ◌++◌, Option, Some, None, refl, sym, ap, ◌∙◌, append_assoc, inl, inr}
use Rattle.phrase_theory.specs.declared.fault.Fault.{Fault}
use Rattle.phrase_theory.specs.Phrases.{pure, Then, Either, optional}
use Rattle.phrase_theory.specs.Reading.{next, alone, HasPhrase, Finds, Fails}
use Rattle.phrase_theory.specs.SequenceLaws.{Apart, first_stuck, pure_found, ◌▸◌, phrase_pure, phrase_right}
use Rattle.phrase_theory.specs.ChoiceLaws.{Avoids, avoids_then, avoids_pure, left_at, right_at, left_fails_at}

pub phrase_optional : {T A : Type 0} (L : List T → A → Type 0) → HasPhrase (optional L)
phrase_optional L = phrase_right _ _ (phrase_pure None)

module _ {T A : Type 0} {L : ℕ → List T → A → Type 0} {joins : Option T → Bool} {d : ℕ} {ts : List T} where
  pub optional_absent : ((n : ℕ) → Avoids (L n) alone (next ts)) → Finds (λ n. optional (L n)) joins d ts None ts
  optional_absent other = right_at refl (λ n. avoids_then _ _ (next ts) joins (other n)) pure_found

  pub optional_found : {a : A} {rest : List T} → joins (next ts) ≡ true → Finds L alone d ts a rest → Finds (λ n. optional (L n)) joins d ts (Some a) rest
  optional_found goes_on p = left_at refl (λ n. avoids_pure None (next ts) joins goes_on) (p ▸ pure_found)

module _ {T A : Type 0} {opens : T → Bool} {L : ℕ → List T → A → Type 0} {joins : Option T → Bool} {d : ℕ} {ts : List T} where
  pub optional_fails : {e : Fault} {rest : List T} → joins (next ts) ≡ true → Fails opens L alone d ts e rest → Fails opens (λ n. optional (L n)) joins d ts e rest
  optional_fails goes_on p = left_fails_at refl (λ n. avoids_pure None (next ts) joins goes_on) (first_stuck p (λ n a. phrase_pure (Some a)))

-- ---- what stands behind them

-- only an empty phrase stands before this token
pub record Skips {T A : Type 0} (L : List T → A → Type 0) (w : Option T) : Type 0 where
  pub by : (ts behind : List T) (a : A) → L ts a → next (ts ++ behind) ≡ w → ts ≡ []

pub skips_avoided : {T A : Type 0} (L : List T → A → Type 0) (w : Option T) → Avoids L alone w → Skips L w
skips_avoided L w h = record { by = λ us behind a p e. absurd (h.by us behind a p refl e) }

pub skips_pure : {T A : Type 0} (a : A) (w : Option T) → Skips (pure a) w
skips_pure a w = record { by = λ us behind b p e. p.0 }

pub skips_either : {T A : Type 0} (L M : List T → A → Type 0) (w : Option T) → Skips L w → Skips M w → Skips (Either L M) w
skips_either L M w h k = record { by = λ us behind a p e. elim p.which [ inl q ↦ h.by us behind a q e | inr q ↦ k.by us behind a q e ] }

pub skips_optional : {T A : Type 0} (L : List T → A → Type 0) (w : Option T) → Avoids L alone w → Skips (optional L) w
skips_optional L w h = skips_either _ _ w (skips_avoided _ w (avoids_then _ _ w alone h)) (skips_pure None w)

-- a part that may be empty, and what follows it
pub avoids_behind : {T A B : Type 0} (L : List T → A → Type 0) (M : A → List T → B → Type 0) (w : Option T) (joins : Option T → Bool) → Skips L w → ((a : A) → Avoids (M a) joins w) → Avoids (Then L M) joins w
avoids_behind {T} L M w joins h k = record {
  by = λ us behind b p ends e.
      let whole : us ++ behind ≡ p.front ++ (p.back ++ behind) = ap (λ (x : List T). x ++ behind) p.split ∙ append_assoc p.front p.back behind in
      let empty = h.by p.front (p.back ++ behind) p.tree p.first (ap next (sym whole) ∙ e) in
      (k p.tree).by p.back behind b p.second ends (ap next (ap (λ (x : List T). x ++ (p.back ++ behind)) (sym empty) ∙ sym whole) ∙ e);
}

-- what follows begins with no token that goes on
pub apart_by : {T A B : Type 0} (M : A → List T → B → Type 0) (joins then_joins : Option T → Bool) → ((a : A) (x : Option T) → joins x ≡ true → Avoids (M a) then_joins x) → Apart M joins then_joins
apart_by M joins then_joins h a us behind b p ends = by_test (joins (next (us ++ behind))) refl where
  by_test : (x : Bool) → joins (next (us ++ behind)) ≡ x → joins (next (us ++ behind)) ≡ false
  by_test false e = e
  by_test true e = absurd ((h a (next (us ++ behind)) e).by us behind b p ends refl)
