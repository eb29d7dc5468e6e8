-- The same phrases under another name, phrases behind one more level, and phrases that grow with the levels.
use Rattle.std.proofs.Common.{◌≡◌, ℕ, zero, suc, Bool, true, false, List, [], ◌∷◌, ◌++◌, Option, Some, Result, Ok, Err, refl, sym, subst, inl, inr}
use Rattle.phrase_theory.specs.declared.fault.Fault.{Fault}
use Rattle.phrase_theory.specs.declared.fault.Fault.TheVariants as faults
use Rattle.phrase_theory.specs.Phrases.{word, pure, none, Then, Either, many, chained}
use Rattle.phrase_theory.specs.Reading.{next, Begins, HasPhrase, Forces, Finds, front_of, Fails, Reads}
use Rattle.phrase_theory.specs.SequenceLaws.{stays_nil, stays_map, first_fails, then_finds, phrase_pure, pure_found}
use Rattle.phrase_theory.specs.ChoiceLaws.{Avoids, avoided}

-- ---- the same phrases

pub record Same {T A : Type 0} (L M : ℕ → List T → A → Type 0) : Type 0 where
  pub to : (n : ℕ) (ts : List T) (a : A) → L n ts a → M n ts a
  pub back : (n : ℕ) (ts : List T) (a : A) → M n ts a → L n ts a

module _ {T A : Type 0} {L M : ℕ → List T → A → Type 0} (same : Same L M) where
  same_forces : {joins : Option T → Bool} (n : ℕ) (taken : List T) (t : Option T) (P : List T → A → Type 0) → Forces (L n) joins taken t P → Forces (M n) joins taken t P
  same_forces n taken t P f = record { by = λ us behind rest a p ends agrees comes. f.by us behind rest a (same.back n us a p) ends agrees comes }

  pub same_found : {joins : Option T → Bool} {d : ℕ} {ts : List T} {a : A} {rest : List T} → Finds L joins d ts a rest → Finds M joins d ts a rest
  same_found {joins} {d} {ts} {a} {rest} p = record {
    taken = p.taken;
    split = p.split;
    phrase = same.to d p.taken a p.phrase;
    only = λ n. same_forces n p.taken (next rest) (λ us b. (us ≡ p.taken) × (b ≡ a)) (p.only n);
  }

  pub same_begins : (n : ℕ) (us : List T) → Begins (L n) us → Begins (M n) us
  same_begins n us b = record { more = b.more; tree = b.tree; whole = same.to n (us ++ b.more) b.tree b.whole }

module _ {T A : Type 0} {opens : T → Bool} {L M : ℕ → List T → A → Type 0} (same : Same L M) {joins : Option T → Bool} {d : ℕ} {ts : List T} where
  pub same_fails : {e : Fault} {rest : List T} → Fails opens L joins d ts e rest → Fails opens M joins d ts e rest
  same_fails {e = faults.NoMemory} {rest} f = record { why = tt }
  same_fails {e = faults.Syntax} {rest} f = let w = f.why in record {
    why = record {
      taken = w.taken;
      split = w.split;
      some = record { tokens = w.some.tokens; tree = w.some.tree; phrase = same.to d w.some.tokens w.some.tree w.some.phrase };
      stays = stays_map (L d) (M d) w.taken (same_begins same d) w.stays;
      possible = same_begins same (suc d) w.taken w.possible;
      refused = λ n. same_forces same n w.taken (next rest) (λ us b. ⊥) (w.refused n);
    };
  }
  same_fails {e = faults.TooDeep} {rest} f = let w = f.why in record {
    why = record {
      taken = w.taken;
      split = w.split;
      some = record { tokens = w.some.tokens; tree = w.some.tree; phrase = same.to d w.some.tokens w.some.tree w.some.phrase };
      stays = stays_map (L d) (M d) w.taken (same_begins same d) w.stays;
      possible = same_begins same (suc d) w.taken w.possible;
      refused = same_forces same d w.taken (next rest) (λ us b. ⊥) w.refused;
      opened = w.opened;
      deeper = same_begins same (suc d) (w.taken ++ front_of rest) w.deeper;
    };
  }

pub same_reads : {T A : Type 0} (opens : T → Bool) (L M : ℕ → List T → A → Type 0) (same : Same L M) (joins : Option T → Bool) (d : ℕ) (ts : List T) (r : Result A Fault) (rest : List T)
    → Reads opens L joins d ts r rest → Reads opens M joins d ts r rest
same_reads opens L M same joins d ts (Ok a) rest p = same_found same p
same_reads opens L M same joins d ts (Err e) rest p = same_fails same p

-- ---- one level more

-- L with a level fewer, and nothing where there is none
unfoldable pub behind_level : {T A : Type 0} → (ℕ → List T → A → Type 0) → ℕ → List T → A → Type 0
behind_level L zero = none
behind_level L (suc n) = L n

module _ {T A : Type 0} {L : ℕ → List T → A → Type 0} where
  behind_forces : (joins : Option T → Bool) (taken : List T) (t : Option T) (P : List T → A → Type 0) → ((n : ℕ) → Forces (L n) joins taken t P) → (n : ℕ) → Forces (behind_level L n) joins taken t P
  unfolding behind_level
  behind_forces joins taken t P f zero = record { by = λ us follows rest a p ends agrees comes. absurd p }
  behind_forces joins taken t P f (suc n) = f n

  pub behind_found : {joins : Option T → Bool} {d : ℕ} {ts : List T} {a : A} {rest : List T} → Finds L joins d ts a rest → Finds (behind_level L) joins (suc d) ts a rest
  unfolding behind_level
  behind_found {joins} {d} {ts} {a} {rest} p = record {
    taken = p.taken;
    split = p.split;
    phrase = p.phrase;
    only = behind_forces joins p.taken (next rest) (λ us b. (us ≡ p.taken) × (b ≡ a)) p.only;
  }

module _ {T A : Type 0} {opens : T → Bool} {L : ℕ → List T → A → Type 0} where
  pub behind_fails : {joins : Option T → Bool} {d : ℕ} {ts : List T} {e : Fault} {rest : List T} → Fails opens L joins d ts e rest → Fails opens (behind_level L) joins (suc d) ts e rest
  unfolding behind_level
  behind_fails {joins = joins} {d = d} {ts = ts} {e = faults.NoMemory} {rest = rest} f = record { why = tt }
  behind_fails {joins = joins} {d = d} {ts = ts} {e = faults.Syntax} {rest = rest} f = let w = f.why in record {
    why = record {
      taken = w.taken;
      split = w.split;
      some = w.some;
      stays = w.stays;
      possible = w.possible;
      refused = behind_forces joins w.taken (next rest) (λ us b. ⊥) w.refused;
    };
  }
  behind_fails {joins = joins} {d = d} {ts = ts} {e = faults.TooDeep} {rest = rest} f = let w = f.why in record {
    why = record {
      taken = w.taken;
      split = w.split;
      some = w.some;
      stays = w.stays;
      possible = w.possible;
      refused = w.refused;
      opened = w.opened;
      deeper = w.deeper;
    };
  }

pub behind_reads : {T A : Type 0} (opens : T → Bool) (L : ℕ → List T → A → Type 0) (joins : Option T → Bool) (d : ℕ) (ts : List T) (r : Result A Fault) (rest : List T)
    → Reads opens L joins d ts r rest → Reads opens (behind_level L) joins (suc d) ts r rest
behind_reads opens L joins d ts (Ok a) rest p = behind_found p
behind_reads opens L joins d ts (Err e) rest p = behind_fails p

pub avoids_behind_level : {T A : Type 0} (L : ℕ → List T → A → Type 0) (joins : Option T → Bool) (t : Option T) → ((n : ℕ) → Avoids (L n) joins t) → (n : ℕ) → Avoids (behind_level L n) joins t
unfolding behind_level
avoids_behind_level L joins t h zero = record { by = λ us behind a p ends e. absurd p }
avoids_behind_level L joins t h (suc n) = h n

-- the next token would open a level too many
pub too_deep : {T A : Type 0} {opens : T → Bool} {L : ℕ → List T → A → Type 0} {joins : Option T → Bool} {d : ℕ} (ts : List T) {t : T}
    → Some t ≡ next ts → HasPhrase (L d) → opens t ≡ true → Avoids (L d) joins (Some t) → Begins (L (suc d)) (t ∷ []) → Fails opens L joins d ts faults.TooDeep ts
too_deep [] at some opened other deeper = absurd cc
too_deep {T} {A} {opens} {L} {joins} {d} (u ∷ us) {t} at some opened other deeper =
    let same : t ≡ u = cc in
    let here : Begins (L (suc d)) (u ∷ []) = subst (λ (x : T). Begins (L (suc d)) (x ∷ [])) same deeper in
    record {
      why = record {
        taken = [];
        split = refl;
        some = some;
        stays = stays_nil (L d);
        possible = record { more = u ∷ here.more; tree = here.tree; whole = here.whole };
        refused = avoided (L d) joins (u ∷ us) [] (u ∷ us) (λ vs b. ⊥) refl (subst (λ (x : T). Avoids (L d) joins (Some x)) same other);
        opened = subst (λ (x : T). opens x ≡ true) same opened;
        deeper = here;
      };
    }

pub begins_word : {T A : Type 0} (w : T) (M : Unit {0} → List T → A → Type 0) → HasPhrase (M tt) → Begins (Then (word w) M) (w ∷ [])
begins_word w M h = record { more = h.tokens; tree = h.tree; whole = record { front = w ∷ []; back = h.tokens; tree = tt; split = refl; first = refl; second = h.phrase } }

-- ---- a phrase whose tree is made of another's

pure_apart_here : {T A B : Type 0} (joins : Option T → Bool) (f : A → B) (n : ℕ) (a : A) (us behind : List T) (b : B) → pure (f a) us b → joins (next behind) ≡ false → joins (next (us ++ behind)) ≡ false
pure_apart_here {T} joins f n a us behind b p ends = subst (λ (x : List T). joins (next (x ++ behind)) ≡ false) (sym p.0) ends

pub mapped_found : {T A B : Type 0} {L : ℕ → List T → A → Type 0} {joins : Option T → Bool} {d : ℕ} {ts : List T} (f : A → B) {a : A} {rest : List T} → Finds L joins d ts a rest → Finds (λ n. Then (L n) (λ x. pure (f x))) joins d ts (f a) rest
mapped_found {L = L} {joins = joins} {d = d} {ts = ts} f {a = a} {rest = rest} p = then_finds L (λ n x. pure (f x)) joins joins (pure_apart_here joins f) d ts a rest (f a) rest p pure_found

pub mapped_fails : {T A B : Type 0} {opens : T → Bool} {L : ℕ → List T → A → Type 0} {joins : Option T → Bool} {d : ℕ} {ts : List T} (f : A → B) {e : Fault} {rest : List T} → Fails opens L joins d ts e rest → Fails opens (λ n. Then (L n) (λ x. pure (f x))) joins d ts e rest
mapped_fails {L = L} {joins = joins} {d = d} {ts = ts} f {e = e} {rest = rest} p = first_fails L (λ n x. pure (f x)) joins joins (pure_apart_here joins f) d ts e rest (λ n x. phrase_pure (f x)) p

-- ---- each phrase of the first is one of the second

abbrev pub Within : {T A : Type 0} → (List T → A → Type 0) → (List T → A → Type 0) → Type 0
Within {T} {A} L M = (ts : List T) (a : A) → L ts a → M ts a

pub within_then : {T A B : Type 0} (L L' : List T → A → Type 0) (M M' : A → List T → B → Type 0) → Within L L' → ((a : A) → Within (M a) (M' a)) → Within (Then L M) (Then L' M')
within_then L L' M M' g h ts b p = record { front = p.front; back = p.back; tree = p.tree; split = p.split; first = g p.front p.tree p.first; second = h p.tree p.back b p.second }

pub within_either : {T A : Type 0} (L L' M M' : List T → A → Type 0) → Within L L' → Within M M' → Within (Either L M) (Either L' M')
within_either L L' M M' g h ts b p = record { which = elim p.which [ inl q ↦ inl (g ts b q) | inr q ↦ inr (h ts b q) ] }

pub within_many : {T A : Type 0} (L L' : List T → A → Type 0) → Within L L' → Within (many L) (many L')
within_many L L' g ts [] p = p
within_many L L' g ts (a ∷ more) p = (p.0, p.1, p.2, g p.0 a p.3, within_many L L' g p.1 more p.4)

pub within_chained : {T A B : Type 0} (t : T) (f : List A → B) (L L' : List T → A → Type 0) → Within L L' → Within (chained t f L) (chained t f L')
within_chained t f L L' g = within_then L L' _ _ g (λ a. within_then _ _ _ _ (within_many _ _ (within_then _ _ _ _ (λ ts u p. p) (λ u. g))) (λ others ts b p. p))

pub within_same : {T A : Type 0} (L : List T → A → Type 0) → Within L L
within_same L ts a p = p
