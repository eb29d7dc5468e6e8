-- Reading one of several phrases, told apart by the next token.
use Rattle.std.proofs.Common.{◌≡◌, ◌≢◌, ℕ, suc, Bool, true, false, List, [], ◌++◌, Option, Some, Result, Ok, Err, refl, sym, ap, subst, ◌∙◌, append_assoc, inl, inr}
use Rattle.phrase_theory.specs.declared.fault.Fault.{Fault}
use Rattle.phrase_theory.specs.declared.fault.Fault.TheVariants as faults
use Rattle.phrase_theory.specs.Phrases.{one, word, pure, none, Then, Either}
use Rattle.phrase_theory.specs.Reading.{next, alone, Begins, HasPhrase, Forces, Finds, front_of, Fails, Reads}
use Rattle.phrase_theory.specs.SequenceLaws.{next-append, stays_nil, stays_map}

-- no phrase, nor what follows an empty one that ends there, begins with this token
pub record Avoids {T A : Type 0} (L : List T → A → Type 0) (joins : Option T → Bool) (t : Option T) : Type 0 where
  pub by : (ts behind : List T) (a : A) → L ts a → joins (next behind) ≡ false → next (ts ++ behind) ≢ t

pub avoids_word : {T : Type 0} (w : T) (t : Option T) (joins : Option T → Bool) → t ≢ Some w → Avoids (word w) joins t
avoids_word {T} w t joins other = record { by = λ us behind a p ends e. other (sym e ∙ ap (λ (x : List T). next (x ++ behind)) p) }

pub avoids_one : {T A : Type 0} (f : A → T) (t : Option T) (joins : Option T → Bool) → ((a : A) → t ≢ Some (f a)) → Avoids (one f) joins t
avoids_one {T} f t joins other = record { by = λ us behind a p ends e. other a (sym e ∙ ap (λ (x : List T). next (x ++ behind)) p) }

pub avoids_then : {T A B : Type 0} (L : List T → A → Type 0) (M : A → List T → B → Type 0) (t : Option T) (joins : Option T → Bool) → Avoids L alone t → Avoids (Then L M) joins t
avoids_then {T} L M t joins h = record {
  by = λ us behind b p ends e.
      h.by p.front (p.back ++ behind) p.tree p.first refl (ap next (sym (append_assoc p.front p.back behind) ∙ ap (λ (x : List T). x ++ behind) (sym p.split)) ∙ e);
}

pub avoids_either : {T A : Type 0} (L M : List T → A → Type 0) (t : Option T) (joins : Option T → Bool) → Avoids L joins t → Avoids M joins t → Avoids (Either L M) joins t
avoids_either L M t joins h k = record { by = λ us behind a p ends e. elim p.which [ inl q ↦ h.by us behind a q ends e | inr q ↦ k.by us behind a q ends e ] }

pub avoids_none : {T A : Type 0} (t : Option T) (joins : Option T → Bool) → Avoids (none {T = T} {A = A}) joins t
avoids_none t joins = record { by = λ us behind a p ends e. absurd p }

pub avoids_pure : {T A : Type 0} (a : A) (t : Option T) (joins : Option T → Bool) → joins t ≡ true → Avoids (pure a) joins t
avoids_pure {T} a t joins joined = record {
  by = λ us behind b p ends e.
      let here : next behind ≡ t = ap (λ (x : List T). next (x ++ behind)) (sym p.0) ∙ e in
      let no : true ≡ false = sym joined ∙ ap joins (sym here) ∙ ends in
      absurd cc;
}

-- a phrase that begins nowhere with this token begins so nowhere, whatever joins it
pub avoids_alone : {T A : Type 0} (L : List T → A → Type 0) (t : Option T) (joins : Option T → Bool) → Avoids L alone t → Avoids L joins t
avoids_alone L t joins h = record { by = λ us behind a p ends e. h.by us behind a p refl e }

pub avoids_nothing : {T A : Type 0} (L : List T → A → Type 0) (joins : Option T → Bool) (t : Option T) → ((ts : List T) (a : A) → L ts a → ⊥) → Avoids L joins t
avoids_nothing L joins t empty = record { by = λ us behind a p ends e. empty us a p }

pub avoided : {T A : Type 0} (L : List T → A → Type 0) (joins : Option T → Bool) (ts taken rest0 : List T) (P : List T → A → Type 0)
    → ts ≡ taken ++ rest0 → Avoids L joins (next ts) → Forces L joins taken (next rest0) P
avoided L joins ts taken rest0 P split avoids = record {
  by = λ us behind rest a p ends agrees comes.
      absurd (avoids.by us behind a p ends (ap next agrees ∙ next-append taken rest rest0 comes ∙ ap next (sym split)));
}

forces_either : {T A : Type 0} (L M : List T → A → Type 0) (joins : Option T → Bool) (taken : List T) (t : Option T) (P : List T → A → Type 0)
    → Forces L joins taken t P → Forces M joins taken t P → Forces (Either L M) joins taken t P
forces_either L M joins taken t P f g = record {
  by = λ us behind rest a p ends agrees comes.
      elim p.which [ inl q ↦ f.by us behind rest a q ends agrees comes | inr q ↦ g.by us behind rest a q ends agrees comes ];
}

pub begins_left : {T A : Type 0} (L M : List T → A → Type 0) (ts : List T) → Begins L ts → Begins (Either L M) ts
begins_left L M ts b = record { more = b.more; tree = b.tree; whole = record { which = inl b.whole } }

pub begins_right : {T A : Type 0} (L M : List T → A → Type 0) (ts : List T) → Begins M ts → Begins (Either L M) ts
begins_right L M ts b = record { more = b.more; tree = b.tree; whole = record { which = inr b.whole } }

module _ {T A : Type 0} {L M : ℕ → List T → A → Type 0} {joins : Option T → Bool} {d : ℕ} {ts : List T} where
  left_found : {a : A} {rest : List T} → ((n : ℕ) → Avoids (M n) joins (next ts)) → Finds L joins d ts a rest → Finds (λ n. Either (L n) (M n)) joins d ts a rest
  left_found {a} {rest} other p = record {
    taken = p.taken;
    split = p.split;
    phrase = record { which = inl p.phrase };
    only = λ n. forces_either (L n) (M n) joins p.taken (next rest) (λ us b. (us ≡ p.taken) × (b ≡ a)) (p.only n) (avoided (M n) joins ts p.taken rest (λ us b. (us ≡ p.taken) × (b ≡ a)) p.split (other n));
  }

  right_found : {a : A} {rest : List T} → ((n : ℕ) → Avoids (L n) joins (next ts)) → Finds M joins d ts a rest → Finds (λ n. Either (L n) (M n)) joins d ts a rest
  right_found {a} {rest} other p = record {
    taken = p.taken;
    split = p.split;
    phrase = record { which = inr p.phrase };
    only = λ n. forces_either (L n) (M n) joins p.taken (next rest) (λ us b. (us ≡ p.taken) × (b ≡ a)) (avoided (L n) joins ts p.taken rest (λ us b. (us ≡ p.taken) × (b ≡ a)) p.split (other n)) (p.only n);
  }

module _ {T A : Type 0} {opens : T → Bool} {L M : ℕ → List T → A → Type 0} {joins : Option T → Bool} {d : ℕ} {ts : List T} where
  left_fails : {e : Fault} {rest : List T} → ((n : ℕ) → Avoids (M n) joins (next ts)) → Fails opens L joins d ts e rest → Fails opens (λ n. Either (L n) (M n)) joins d ts e rest
  left_fails {e = faults.NoMemory} {rest} other f = record { why = tt }
  left_fails {e = faults.Syntax} {rest} other f = let w = f.why in record {
    why = record {
      taken = w.taken;
      split = w.split;
      some = record { tokens = w.some.tokens; tree = w.some.tree; phrase = record { which = inl w.some.phrase } };
      stays = stays_map (L d) (Either (L d) (M d)) w.taken (begins_left (L d) (M d)) w.stays;
      possible = begins_left (L (suc d)) (M (suc d)) w.taken w.possible;
      refused = λ n. forces_either (L n) (M n) joins w.taken (next rest) (λ us b. ⊥) (w.refused n) (avoided (M n) joins ts w.taken rest (λ us b. ⊥) w.split (other n));
    };
  }
  left_fails {e = faults.TooDeep} {rest} other f = let w = f.why in record {
    why = record {
      taken = w.taken;
      split = w.split;
      some = record { tokens = w.some.tokens; tree = w.some.tree; phrase = record { which = inl w.some.phrase } };
      stays = stays_map (L d) (Either (L d) (M d)) w.taken (begins_left (L d) (M d)) w.stays;
      possible = begins_left (L (suc d)) (M (suc d)) w.taken w.possible;
      refused = forces_either (L d) (M d) joins w.taken (next rest) (λ us b. ⊥) w.refused (avoided (M d) joins ts w.taken rest (λ us b. ⊥) w.split (other d));
      opened = w.opened;
      deeper = begins_left (L (suc d)) (M (suc d)) (w.taken ++ front_of rest) w.deeper;
    };
  }

  right_fails : {e : Fault} {rest : List T} → ((n : ℕ) → Avoids (L n) joins (next ts)) → Fails opens M joins d ts e rest → Fails opens (λ n. Either (L n) (M n)) joins d ts e rest
  right_fails {e = faults.NoMemory} {rest} other f = record { why = tt }
  right_fails {e = faults.Syntax} {rest} other f = let w = f.why in record {
    why = record {
      taken = w.taken;
      split = w.split;
      some = record { tokens = w.some.tokens; tree = w.some.tree; phrase = record { which = inr w.some.phrase } };
      stays = stays_map (M d) (Either (L d) (M d)) w.taken (begins_right (L d) (M d)) w.stays;
      possible = begins_right (L (suc d)) (M (suc d)) w.taken w.possible;
      refused = λ n. forces_either (L n) (M n) joins w.taken (next rest) (λ us b. ⊥) (avoided (L n) joins ts w.taken rest (λ us b. ⊥) w.split (other n)) (w.refused n);
    };
  }
  right_fails {e = faults.TooDeep} {rest} other f = let w = f.why in record {
    why = record {
      taken = w.taken;
      split = w.split;
      some = record { tokens = w.some.tokens; tree = w.some.tree; phrase = record { which = inr w.some.phrase } };
      stays = stays_map (M d) (Either (L d) (M d)) w.taken (begins_right (L d) (M d)) w.stays;
      possible = begins_right (L (suc d)) (M (suc d)) w.taken w.possible;
      refused = forces_either (L d) (M d) joins w.taken (next rest) (λ us b. ⊥) (avoided (L d) joins ts w.taken rest (λ us b. ⊥) w.split (other d)) w.refused;
      opened = w.opened;
      deeper = begins_right (L (suc d)) (M (suc d)) (w.taken ++ front_of rest) w.deeper;
    };
  }

-- ---- the same, at a token that is known

module _ {T A : Type 0} {L M : ℕ → List T → A → Type 0} {joins : Option T → Bool} {d : ℕ} {ts : List T} {t : Option T} (at : t ≡ next ts) where
  pub left_at : {a : A} {rest : List T} → ((n : ℕ) → Avoids (M n) joins t) → Finds L joins d ts a rest → Finds (λ n. Either (L n) (M n)) joins d ts a rest
  left_at other p = left_found (λ n. subst (λ (x : Option T). Avoids (M n) joins x) at (other n)) p

  pub right_at : {a : A} {rest : List T} → ((n : ℕ) → Avoids (L n) joins t) → Finds M joins d ts a rest → Finds (λ n. Either (L n) (M n)) joins d ts a rest
  right_at other p = right_found (λ n. subst (λ (x : Option T). Avoids (L n) joins x) at (other n)) p

module _ {T A : Type 0} {opens : T → Bool} {L M : ℕ → List T → A → Type 0} {joins : Option T → Bool} {d : ℕ} {ts : List T} {t : Option T} (at : t ≡ next ts) where
  pub left_fails_at : {e : Fault} {rest : List T} → ((n : ℕ) → Avoids (M n) joins t) → Fails opens L joins d ts e rest → Fails opens (λ n. Either (L n) (M n)) joins d ts e rest
  left_fails_at other p = left_fails (λ n. subst (λ (x : Option T). Avoids (M n) joins x) at (other n)) p

  pub right_fails_at : {e : Fault} {rest : List T} → ((n : ℕ) → Avoids (L n) joins t) → Fails opens M joins d ts e rest → Fails opens (λ n. Either (L n) (M n)) joins d ts e rest
  right_fails_at other p = right_fails (λ n. subst (λ (x : Option T). Avoids (L n) joins x) at (other n)) p

module _ {T A : Type 0} (opens : T → Bool) (L M : ℕ → List T → A → Type 0) (joins : Option T → Bool) (d : ℕ) (ts : List T) (r : Result A Fault) (rest : List T) {t : Option T} (at : t ≡ next ts) where
  pub left_reads : ((n : ℕ) → Avoids (M n) joins t) → Reads opens L joins d ts r rest → Reads opens (λ n. Either (L n) (M n)) joins d ts r rest
  left_reads other p = by_result r p where
    by_result : (r : Result A Fault) → Reads opens L joins d ts r rest → Reads opens (λ n. Either (L n) (M n)) joins d ts r rest
    by_result (Ok a) p = left_at at other p
    by_result (Err e) p = left_fails_at at other p

  pub right_reads : ((n : ℕ) → Avoids (L n) joins t) → Reads opens M joins d ts r rest → Reads opens (λ n. Either (L n) (M n)) joins d ts r rest
  right_reads other p = by_result r p where
    by_result : (r : Result A Fault) → Reads opens M joins d ts r rest → Reads opens (λ n. Either (L n) (M n)) joins d ts r rest
    by_result (Ok a) p = right_at at other p
    by_result (Err e) p = right_fails_at at other p

-- no phrase begins with the next token
pub nothing_begins : {T A : Type 0} {opens : T → Bool} (L : ℕ → List T → A → Type 0) (joins : Option T → Bool) (d : ℕ) (ts : List T)
    → ((n : ℕ) → HasPhrase (L n)) → ((n : ℕ) → Avoids (L n) joins (next ts)) → Fails opens L joins d ts faults.Syntax ts
nothing_begins L joins d ts some other = record {
  why = record {
    taken = [];
    split = refl;
    some = some d;
    stays = stays_nil (L d);
    possible = record { more = (some (suc d)).tokens; tree = (some (suc d)).tree; whole = (some (suc d)).phrase };
    refused = λ n. avoided (L n) joins ts [] ts (λ us b. ⊥) refl (other n);
  };
}

pub nothing_at : {T A : Type 0} {opens : T → Bool} {L : ℕ → List T → A → Type 0} {joins : Option T → Bool} {d : ℕ} {ts : List T} {t : Option T}
    → t ≡ next ts → ((n : ℕ) → HasPhrase (L n)) → ((n : ℕ) → Avoids (L n) joins t) → Fails opens L joins d ts faults.Syntax ts
nothing_at {T = T} {L = L} {joins = joins} {d = d} {ts = ts} at some other = nothing_begins L joins d ts some (λ n. subst (λ (x : Option T). Avoids (L n) joins x) at (other n))
