-- Reading parts of a phrase one after the other.
use Rattle.std.proofs.Common.{◌≡◌, ◌≢◌, ◌⊎◌, ℕ, suc, Bool, false, List, [], ◌∷◌, ◌++◌, Option, Some, Result, Ok, Err, refl, sym, ap, subst, ◌∙◌, append_assoc, inl, inr}
use Rattle.std.specs.Prelude.{IsErrAnd}
use Rattle.std.proofs.lemmas.List.{append_cancel_left}
use Rattle.phrase_theory.specs.declared.fault.Fault.{Fault}
use Rattle.phrase_theory.specs.declared.fault.Fault.TheVariants as faults
use Rattle.phrase_theory.specs.Phrases.{one, word, pure, Then, Either}
use Rattle.phrase_theory.specs.Reading.{next, after, alone, Begins, HasPhrase, Stays, Forces, Finds, front_of, Fails, Reads}

-- what comes next, behind the same tokens
pub next-append : {T : Type 0} (ts r s : List T) → next r ≡ next s → next (ts ++ r) ≡ next (ts ++ s)
next-append [] r s e = e
next-append (t ∷ ts) r s e = refl

-- a phrase of a level fewer is one
abbrev pub Grows : {T A : Type 0} → (ℕ → List T → A → Type 0) → Type 0
Grows {T} {A} L = (n : ℕ) (ts : List T) (a : A) → L n ts a → L (suc n) ts a

-- ---- tokens that may open a level

pub stays_nil : {T A : Type 0} {opens : T → Bool} (L : List T → A → Type 0) → Stays opens L []
stays_nil {T} L = record { by = λ u v t e opened. absurd (nothing u v t e) } where
  nothing : (u v : List T) (t : T) → [] ≡ u ++ t ∷ v → ⊥
  nothing [] v t e = absurd cc
  nothing (x ∷ u) v t e = absurd cc

pub stays_map : {T A B : Type 0} {opens : T → Bool} (L : List T → A → Type 0) (M : List T → B → Type 0) (us : List T) → ((ts : List T) → Begins L ts → Begins M ts) → Stays opens L us → Stays opens M us
stays_map L M us f s = record { by = λ u v t e opened. f (u ++ t ∷ []) (s.by u v t e opened) }

pub stays_phrase : {T A : Type 0} {opens : T → Bool} (L : List T → A → Type 0) (us : List T) (a : A) → L us a → Stays opens L us
stays_phrase {T} L us a p = record { by = λ u v t e opened. record { more = v; tree = a; whole = subst (λ (x : List T). L x a) (e ∙ sym (append_assoc u (t ∷ []) v)) p } }

-- a token of two lists is in the first or in the second
either_side : {T : Type 0} (us vs u v : List T) (t : T) → us ++ vs ≡ u ++ t ∷ v → ((w : List T) × (us ≡ u ++ t ∷ w)) ⊎ ((w : List T) × (u ≡ us ++ w) × (vs ≡ w ++ t ∷ v))
either_side [] vs u v t e = inr (u, refl, e)
either_side {T} (x ∷ us) vs [] v t e = inl (us, (let heads : x ≡ t = cc in ap (λ (y : T). y ∷ us) heads))
either_side {T} (x ∷ us) vs (y ∷ u) v t e =
    let heads : x ≡ y = cc in
    let tails : us ++ vs ≡ u ++ t ∷ v = cc in
    elim (either_side us vs u v t tails) [
      | inl w ↦ inl (w.0, ap (λ (z : List T). x ∷ z) w.1 ∙ ap (λ (z : T). z ∷ (u ++ t ∷ w.0)) heads)
      | inr w ↦ inr (w.0, ap (λ (z : List T). y ∷ z) w.1 ∙ ap (λ (z : T). z ∷ (us ++ w.0)) (sym heads), w.2)
    ]

-- no phrase of M, nor what comes behind an empty one, begins with a token that joins
abbrev pub Apart : {T A B : Type 0} → (A → List T → B → Type 0) → (Option T → Bool) → (Option T → Bool) → Type 0
Apart {T} {A} {B} M joins then_joins = (a : A) (ts behind : List T) (b : B) → M a ts b → then_joins (next behind) ≡ false → joins (next (ts ++ behind)) ≡ false

module _ {T A B : Type 0} (L : List T → A → Type 0) (M : A → List T → B → Type 0) (joins then_joins : Option T → Bool) (apart : Apart M joins then_joins) where
  then_forces : (a : A) (us vs rest0 : List T) (P Q : List T → B → Type 0)
      → Forces L joins us (next (vs ++ rest0)) (λ ts b. (ts ≡ us) × (b ≡ a))
      → Forces (M a) then_joins vs (next rest0) Q
      → ((ts : List T) (b : B) → Q ts b → P (us ++ ts) b)
      → Forces (Then L M) then_joins (us ++ vs) (next rest0) P
  then_forces a us vs rest0 P Q f g h = record {
    by = λ ts behind rest b p ends agrees comes.
        let regrouped : p.front ++ (p.back ++ behind) ≡ us ++ (vs ++ rest) = sym (append_assoc p.front p.back behind) ∙ ap (λ (x : List T). x ++ behind) (sym p.split) ∙ agrees ∙ append_assoc us vs rest in
        let first = f.by p.front (p.back ++ behind) (vs ++ rest) p.tree p.first (apart p.tree p.back behind b p.second ends) regrouped (next-append vs rest rest0 comes) in
        let tail : p.back ++ behind ≡ vs ++ rest = append_cancel_left us (p.back ++ behind) (vs ++ rest) (ap (λ (x : List T). x ++ (p.back ++ behind)) (sym first.0) ∙ regrouped) in
        let second = g.by p.back behind rest b (subst (λ (x : A). M x p.back b) first.1 p.second) ends tail comes in
        let whole : us ++ p.back ≡ ts = ap (λ (x : List T). x ++ p.back) (sym first.0) ∙ sym p.split in
        subst (λ (x : List T). P x b) whole (h p.back b second);
  }

  then_refuses : (us : List T) (t : Option T) (P : List T → B → Type 0)
      → Forces L joins us t (λ ts b. ⊥)
      → Forces (Then L M) then_joins us t P
  then_refuses us t P f = record {
    by = λ ts behind rest b p ends agrees comes.
        let regrouped : p.front ++ (p.back ++ behind) ≡ us ++ rest = sym (append_assoc p.front p.back behind) ∙ ap (λ (x : List T). x ++ behind) (sym p.split) ∙ agrees in
        absurd (f.by p.front (p.back ++ behind) rest p.tree p.first (apart p.tree p.back behind b p.second ends) regrouped comes);
  }

pub begins_then : {T A B : Type 0} (L : List T → A → Type 0) (M : A → List T → B → Type 0) (us : List T) → ((a : A) → HasPhrase (M a)) → Begins L us → Begins (Then L M) us
begins_then L M us some b =
    let s = some b.tree in
    record { more = b.more ++ s.tokens; tree = s.tree; whole = record { front = us ++ b.more; back = s.tokens; tree = b.tree; split = sym (append_assoc us b.more s.tokens); first = b.whole; second = s.phrase } }

pub then_begins : {T A B : Type 0} (L : List T → A → Type 0) (M : A → List T → B → Type 0) (us vs : List T) (a : A) → L us a → Begins (M a) vs → Begins (Then L M) (us ++ vs)
then_begins L M us vs a p b =
    record { more = b.more; tree = b.tree; whole = record { front = us; back = vs ++ b.more; tree = a; split = append_assoc us vs b.more; first = p; second = b.whole } }

stays_then : {T A B : Type 0} {opens : T → Bool} (L : List T → A → Type 0) (M : A → List T → B → Type 0) (us vs : List T) (a : A) → L us a → HasPhrase (M a) → Stays opens (M a) vs → Stays opens (Then L M) (us ++ vs)
stays_then {T} L M us vs a p some s = record {
  by = λ u v t e opened. elim (either_side us vs u v t e) [
    | inl w ↦ record { more = w.0 ++ some.tokens; tree = some.tree; whole = record { front = us; back = some.tokens; tree = a; split = sym (append_assoc (u ++ t ∷ []) w.0 some.tokens) ∙ ap (λ (x : List T). x ++ some.tokens) (append_assoc u (t ∷ []) w.0 ∙ sym w.1); first = p; second = some.phrase } }
    | inr w ↦ subst (λ (x : List T). Begins (Then L M) x) (sym (append_assoc us w.0 (t ∷ [])) ∙ ap (λ (x : List T). x ++ t ∷ []) (sym w.1)) (then_begins L M us (w.0 ++ t ∷ []) a p (s.by w.0 v t w.2 opened))
  ];
}

pub some_then : {T A B : Type 0} (L : List T → A → Type 0) (M : A → List T → B → Type 0) (us : List T) (a : A) → L us a → HasPhrase (M a) → HasPhrase (Then L M)
some_then L M us a p h = record { tokens = us ++ h.tokens; tree = h.tree; phrase = record { front = us; back = h.tokens; tree = a; split = refl; first = p; second = h.phrase } }

module _ {T A B : Type 0} (L : ℕ → List T → A → Type 0) (M : ℕ → A → List T → B → Type 0) (joins then_joins : Option T → Bool) (apart : (n : ℕ) → Apart (M n) joins then_joins) where
  -- the first part is found, and then the second part
  pub then_finds : (d : ℕ) (ts : List T) (a : A) (mid : List T) (b : B) (rest : List T)
      → Finds L joins d ts a mid → Finds (λ n. M n a) then_joins d mid b rest
      → Finds (λ n. Then (L n) (M n)) then_joins d ts b rest
  then_finds d ts a mid b rest p q = record {
    taken = p.taken ++ q.taken;
    split = p.split ∙ ap (λ (x : List T). p.taken ++ x) q.split ∙ sym (append_assoc p.taken q.taken rest);
    phrase = record { front = p.taken; back = q.taken; tree = a; split = refl; first = p.phrase; second = q.phrase };
    only = λ n. then_forces (L n) (M n) joins then_joins (apart n) a p.taken q.taken rest (λ us c. (us ≡ p.taken ++ q.taken) × (c ≡ b)) (λ us c. (us ≡ q.taken) × (c ≡ b))
        (subst (λ (x : List T). Forces (L n) joins p.taken (next x) (λ us c. (us ≡ p.taken) × (c ≡ a))) q.split (p.only n)) (q.only n)
        (λ us c h. (ap (λ (x : List T). p.taken ++ x) h.0, h.1));
  }

module _ {T A B : Type 0} {opens : T → Bool} (L : ℕ → List T → A → Type 0) (M : ℕ → A → List T → B → Type 0) (joins then_joins : Option T → Bool) (apart : (n : ℕ) → Apart (M n) joins then_joins) where
  -- the first part fails
  pub first_fails : (d : ℕ) (ts : List T) (e : Fault) (rest : List T)
      → ((n : ℕ) (a : A) → HasPhrase (M n a))
      → Fails opens L joins d ts e rest
      → Fails opens (λ n. Then (L n) (M n)) then_joins d ts e rest
  first_fails d ts faults.NoMemory rest some f = record { why = tt }
  first_fails d ts faults.Syntax rest some f =
      let w = f.why in
      record {
        why = record {
          taken = w.taken;
          split = w.split;
          some = some_then (L d) (M d) w.some.tokens w.some.tree w.some.phrase (some d w.some.tree);
          stays = stays_map (L d) (Then (L d) (M d)) w.taken (λ us. begins_then (L d) (M d) us (some d)) w.stays;
          possible = begins_then (L (suc d)) (M (suc d)) w.taken (some (suc d)) w.possible;
          refused = λ n. then_refuses (L n) (M n) joins then_joins (apart n) w.taken (next rest) (λ ts b. ⊥) (w.refused n);
        };
      }
  first_fails d ts faults.TooDeep rest some f =
      let w = f.why in
      record {
        why = record {
          taken = w.taken;
          split = w.split;
          some = some_then (L d) (M d) w.some.tokens w.some.tree w.some.phrase (some d w.some.tree);
          stays = stays_map (L d) (Then (L d) (M d)) w.taken (λ us. begins_then (L d) (M d) us (some d)) w.stays;
          possible = begins_then (L (suc d)) (M (suc d)) w.taken (some (suc d)) w.possible;
          refused = then_refuses (L d) (M d) joins then_joins (apart d) w.taken (next rest) (λ ts b. ⊥) w.refused;
          opened = w.opened;
          deeper = begins_then (L (suc d)) (M (suc d)) (w.taken ++ front_of rest) (some (suc d)) w.deeper;
        };
      }

  -- the first part is found, and then the second fails
  pub then_fails : (d : ℕ) (ts : List T) (a : A) (mid : List T) (e : Fault) (rest : List T)
      → Grows L
      → Finds L joins d ts a mid → Fails opens (λ n. M n a) then_joins d mid e rest
      → Fails opens (λ n. Then (L n) (M n)) then_joins d ts e rest
  then_fails d ts a mid faults.NoMemory rest grows p q = record { why = tt }
  then_fails d ts a mid faults.Syntax rest grows p q =
      let w = q.why in
      record {
        why = record {
          taken = p.taken ++ w.taken;
          split = p.split ∙ ap (λ (x : List T). p.taken ++ x) w.split ∙ sym (append_assoc p.taken w.taken rest);
          some = some_then (L d) (M d) p.taken a p.phrase w.some;
          stays = stays_then (L d) (M d) p.taken w.taken a p.phrase w.some w.stays;
          possible = then_begins (L (suc d)) (M (suc d)) p.taken w.taken a (grows d p.taken a p.phrase) w.possible;
          refused = λ n. then_forces (L n) (M n) joins then_joins (apart n) a p.taken w.taken rest (λ us c. ⊥) (λ us c. ⊥)
              (subst (λ (x : List T). Forces (L n) joins p.taken (next x) (λ us c. (us ≡ p.taken) × (c ≡ a))) w.split (p.only n)) (w.refused n)
              (λ us c h. h);
        };
      }
  then_fails d ts a mid faults.TooDeep rest grows p q =
      let w = q.why in
      record {
        why = record {
          taken = p.taken ++ w.taken;
          split = p.split ∙ ap (λ (x : List T). p.taken ++ x) w.split ∙ sym (append_assoc p.taken w.taken rest);
          some = some_then (L d) (M d) p.taken a p.phrase w.some;
          stays = stays_then (L d) (M d) p.taken w.taken a p.phrase w.some w.stays;
          possible = then_begins (L (suc d)) (M (suc d)) p.taken w.taken a (grows d p.taken a p.phrase) w.possible;
          refused = then_forces (L d) (M d) joins then_joins (apart d) a p.taken w.taken rest (λ us c. ⊥) (λ us c. ⊥)
              (subst (λ (x : List T). Forces (L d) joins p.taken (next x) (λ us c. (us ≡ p.taken) × (c ≡ a))) w.split (p.only d)) w.refused
              (λ us c h. h);
          opened = w.opened;
          deeper = subst (λ (x : List T). Begins (Then (L (suc d)) (M (suc d))) x) (sym (append_assoc p.taken w.taken (front_of rest)))
              (then_begins (L (suc d)) (M (suc d)) p.taken (w.taken ++ front_of rest) a (grows d p.taken a p.phrase) w.deeper);
        };
      }

-- ---- one token

pub next_of : {T : Type 0} (ts rest : List T) (t : T) → next ts ≡ Some t → rest ≡ after ts → ts ≡ t ∷ rest
next_of [] rest t e r = absurd cc
next_of (s ∷ ts) rest t e r = cc

pub one_found : {T A : Type 0} {f : A → T} {a : A} {ts rest : List T} {d : ℕ}
    → ((b : A) → f b ≡ f a → b ≡ a) → next ts ≡ Some (f a) → rest ≡ after ts → Finds (λ _. one f) alone d ts a rest
one_found {T} {A} {f} {a} {ts} {rest} {d} injective e r = record {
  taken = f a ∷ [];
  split = next_of ts rest (f a) e r;
  phrase = refl;
  only = λ n. record {
    by = λ us behind others b p ends agrees comes.
        let heads : f b ≡ f a = cc in
        let same = injective b heads in
        (p ∙ ap (λ (x : T). x ∷ []) heads, same);
  };
}

pub one_missing : {T A : Type 0} {opens : T → Bool} {f : A → T} (some : A) (ts : List T) (d : ℕ)
    → ((b : A) → next ts ≢ Some (f b)) → Fails opens (λ _. one f) alone d ts faults.Syntax ts
one_missing {T} {A} {opens} {f} some ts d other = record {
  why = record {
    taken = [];
    split = refl;
    some = record { tokens = f some ∷ []; tree = some; phrase = refl };
    stays = stays_nil (one f);
    possible = record { more = f some ∷ []; tree = some; whole = refl };
    refused = λ n. record {
      by = λ us behind others b p ends agrees comes.
          let begins : next others ≡ Some (f b) = ap next (sym agrees ∙ ap (λ (x : List T). x ++ behind) p) in
          other b (sym comes ∙ begins);
    };
  };
}

pub word_found : {T : Type 0} {t : T} {ts rest : List T} {d : ℕ} (u : Unit {0}) → next ts ≡ Some t → rest ≡ after ts → Finds (λ _. word t) alone d ts u rest
word_found {T} {t} {ts} {rest} u e r = record {
  taken = t ∷ [];
  split = next_of ts rest t e r;
  phrase = refl;
  only = λ n. record { by = λ us behind others b p ends agrees comes. (p, refl) };
}

pub word_missing : {T : Type 0} {opens : T → Bool} (t : T) (ts : List T) (d : ℕ) → next ts ≢ Some t → Fails opens (λ _. word t) alone d ts faults.Syntax ts
word_missing {T} t ts d other = record {
  why = record {
    taken = [];
    split = refl;
    some = record { tokens = t ∷ []; tree = tt; phrase = refl };
    stays = stays_nil (word t);
    possible = record { more = t ∷ []; tree = tt; whole = refl };
    refused = λ n. record {
      by = λ us behind others b p ends agrees comes.
          let begins : next others ≡ Some t = ap next (sym agrees ∙ ap (λ (x : List T). x ++ behind) p) in
          other (sym comes ∙ begins);
    };
  };
}

pub pure_found : {T A : Type 0} {a : A} {ts : List T} {d : ℕ} {joins : Option T → Bool} → Finds (λ _. pure a) joins d ts a ts
pure_found {T} = record {
  taken = [];
  split = refl;
  phrase = (refl, refl);
  only = λ n. record { by = λ us behind others b p ends agrees comes. (p.0, p.1) };
}

-- ---- a part that ends by itself, and what follows it

module _ {T A B : Type 0} {opens : T → Bool} {L : ℕ → List T → A → Type 0} {M : ℕ → A → List T → B → Type 0} {joins : Option T → Bool} {d : ℕ} {ts : List T} where
  pub first_stuck : {e : Fault} {rest : List T} → Fails opens L alone d ts e rest → ((n : ℕ) (a : A) → HasPhrase (M n a)) → Fails opens (λ n. Then (L n) (M n)) joins d ts e rest
  first_stuck {e} {rest} f some = first_fails L M alone joins (λ n a us behind b p ends. refl) d ts e rest some f

  pub found_stuck : {a : A} {mid : List T} {e : Fault} {rest : List T}
      → Grows L → Finds L alone d ts a mid → Fails opens (λ n. M n a) joins d mid e rest → Fails opens (λ n. Then (L n) (M n)) joins d ts e rest
  found_stuck {a} {mid} {e} {rest} grows p q = then_fails L M alone joins (λ n a us behind b p ends. refl) d ts a mid e rest grows p q

-- a part that is the same at each level, and what follows it
infixr 6 ◌▹◌
pub ◌▹◌ : {T A B : Type 0} {opens : T → Bool} {K : List T → A → Type 0} {M : ℕ → A → List T → B → Type 0} {joins : Option T → Bool} {d : ℕ} {ts : List T} {a : A} {mid : List T} {e : Fault} {rest : List T}
    → Finds (λ _. K) alone d ts a mid → Fails opens (λ n. M n a) joins d mid e rest → Fails opens (λ n. Then K (M n)) joins d ts e rest
p ▹ q = found_stuck (λ n us b h. h) p q

infixr 6 ◌▸◌
pub ◌▸◌ : {T A B : Type 0} {L : ℕ → List T → A → Type 0} {M : ℕ → A → List T → B → Type 0} {joins : Option T → Bool} {d : ℕ} {ts : List T} {a : A} {mid : List T} {b : B} {rest : List T}
    → Finds L alone d ts a mid → Finds (λ n. M n a) joins d mid b rest → Finds (λ n. Then (L n) (M n)) joins d ts b rest
◌▸◌ {L = L} {M = M} {joins = joins} {d = d} {ts = ts} {a = a} {mid = mid} {b = b} {rest = rest} p q = then_finds L M alone joins (λ n a us behind b p ends. refl) d ts a mid b rest p q

-- ---- some phrase of each kind

pub phrase_word : {T : Type 0} (t : T) → HasPhrase (word t)
phrase_word t = record { tokens = t ∷ []; tree = tt; phrase = refl }

pub phrase_one : {T A : Type 0} (f : A → T) → A → HasPhrase (one f)
phrase_one f a = record { tokens = f a ∷ []; tree = a; phrase = refl }

pub phrase_pure : {T A : Type 0} (a : A) → HasPhrase (pure {T = T} a)
phrase_pure a = record { tokens = []; tree = a; phrase = (refl, refl) }

pub phrase_then : {T A B : Type 0} (L : List T → A → Type 0) (M : A → List T → B → Type 0) → HasPhrase L → ((a : A) → HasPhrase (M a)) → HasPhrase (Then L M)
phrase_then L M p q = let r = q p.tree in
    record { tokens = p.tokens ++ r.tokens; tree = r.tree; phrase = record { front = p.tokens; back = r.tokens; tree = p.tree; split = refl; first = p.phrase; second = r.phrase } }

pub phrase_left : {T A : Type 0} (L M : List T → A → Type 0) → HasPhrase L → HasPhrase (Either L M)
phrase_left L M p = record { tokens = p.tokens; tree = p.tree; phrase = record { which = inl p.phrase } }

pub phrase_right : {T A : Type 0} (L M : List T → A → Type 0) → HasPhrase M → HasPhrase (Either L M)
phrase_right L M p = record { tokens = p.tokens; tree = p.tree; phrase = record { which = inr p.phrase } }

-- ---- a `?` passes the fault on

pub passed_on : {T A : Type 0} {opens : T → Bool} {L : ℕ → List T → A → Type 0} {joins : Option T → Bool} {d : ℕ} {ts rest : List T} {e : Fault} (r : Result A Fault)
    → IsErrAnd r (λ x. x ≡ e) → Fails opens L joins d ts e rest → Reads opens L joins d ts r rest
passed_on (Ok a) h f = absurd h
passed_on {opens = opens} {L = L} {joins = joins} {d = d} {ts = ts} {rest = rest} (Err x) h f = subst (λ (y : Fault). Fails opens L joins d ts y rest) (sym h) f

-- ---- a part that goes on, and the word that ends it

word_apart : {T A B : Type 0} (w : T) (K : A → Unit {0} → List T → B → Type 0) (joins then_joins : Option T → Bool) → joins (Some w) ≡ false → Apart (λ a. Then (word w) (K a)) joins then_joins
word_apart {T} w K joins then_joins other a us behind b p ends =
    let starts : us ≡ w ∷ p.back = p.split ∙ ap (λ (x : List T). x ++ p.back) p.first in
    subst (λ (x : List T). joins (next (x ++ behind)) ≡ false) (sym starts) other

module _ {T A B : Type 0} {opens : T → Bool} {L : ℕ → List T → A → Type 0} {w : T} {K : ℕ → A → Unit {0} → List T → B → Type 0} {joins then_joins : Option T → Bool} {d : ℕ} {ts : List T} (other : joins (Some w) ≡ false) where
  pub stuck_before : {e : Fault} {rest : List T} → Fails opens L joins d ts e rest → ((n : ℕ) (a : A) → HasPhrase (Then (word w) (K n a))) → Fails opens (λ n. Then (L n) (λ a. Then (word w) (K n a))) then_joins d ts e rest
  stuck_before {e} {rest} f some = first_fails L (λ n a. Then (word w) (K n a)) joins then_joins (λ n. word_apart w (K n) joins then_joins other) d ts e rest some f

  pub fails_before : {a : A} {mid : List T} {e : Fault} {rest : List T}
      → Grows L → Finds L joins d ts a mid → Fails opens (λ n. Then (word w) (K n a)) then_joins d mid e rest → Fails opens (λ n. Then (L n) (λ a. Then (word w) (K n a))) then_joins d ts e rest
  fails_before {a} {mid} {e} {rest} grows p q = then_fails L (λ n a. Then (word w) (K n a)) joins then_joins (λ n. word_apart w (K n) joins then_joins other) d ts a mid e rest grows p q

module _ {T A B : Type 0} {L : ℕ → List T → A → Type 0} {w : T} {K : ℕ → A → Unit {0} → List T → B → Type 0} {joins then_joins : Option T → Bool} {d : ℕ} {ts : List T} (other : joins (Some w) ≡ false) where
  pub found_before : {a : A} {mid : List T} {b : B} {rest : List T}
      → Finds L joins d ts a mid → Finds (λ n. Then (word w) (K n a)) then_joins d mid b rest → Finds (λ n. Then (L n) (λ a. Then (word w) (K n a))) then_joins d ts b rest
  found_before {a} {mid} {b} {rest} p q = then_finds L (λ n a. Then (word w) (K n a)) joins then_joins (λ n. word_apart w (K n) joins then_joins other) d ts a mid b rest p q
