-- Reading any number of phrases by a loop.
use Rattle.std.proofs.Common.{◌≡◌, ◌≢◌, ℕ, Bool, true, false, List, [], ◌∷◌, ◌++◌, Option, Some, Result, Ok, Err, refl, sym, ap, subst, ◌∙◌, append_assoc, inl, inr}
use Rattle.std.proofs.lemmas.List.{append-nil}
use Rattle.phrase_theory.specs.declared.fault.Fault.{Fault}
use Rattle.phrase_theory.specs.Phrases.{word, pure, Then, Either, many, chained}
use Rattle.phrase_theory.specs.Reading.{next, after, alone, HasPhrase, Finds, Fails, Reads}
use Rattle.phrase_theory.specs.SequenceLaws.{Grows, first_fails, then_finds, then_fails, word_found, pure_found, found_stuck, ◌▸◌, phrase_then, phrase_pure}
use Rattle.phrase_theory.specs.ChoiceLaws.{Avoids, avoids_then, avoids_word, avoids_pure, left_at, right_at, right_fails_at}
use Rattle.phrase_theory.specs.LevelLaws.{Same, same_found, same_fails}

-- what a list of phrases begins with
unrolled : {T A : Type 0} (L : ℕ → List T → A → Type 0) → ℕ → List T → List A → Type 0
unrolled L n = Either (pure []) (Then (L n) (λ a. Then (many (L n)) (λ more. pure (a ∷ more))))

unroll : {T A : Type 0} (L : ℕ → List T → A → Type 0) → Same (unrolled L) (λ n. many (L n))
unfolding unrolled
unroll {T} {A} L = record { to = to; back = back } where
  to : (n : ℕ) (ts : List T) (a : List A) → unrolled L n ts a → many (L n) ts a
  to n ts [] p = elim p.which [ inl q ↦ q.0 | inr q ↦ absurd (let e : [] ≡ q.tree ∷ q.second.tree = q.second.second.1 in cc) ]
  to n ts (a ∷ more) p = elim p.which [
    | inl q ↦ absurd (let e : a ∷ more ≡ [] = q.1 in cc)
    | inr q ↦
        let e : a ∷ more ≡ q.tree ∷ q.second.tree = q.second.second.1 in
        let heads : q.tree ≡ a = cc in
        let tails : q.second.tree ≡ more = cc in
        let whole : q.back ≡ q.second.front = q.second.split ∙ ap (λ (x : List T). q.second.front ++ x) q.second.second.0 ∙ append-nil q.second.front in
        (q.front, q.back, q.split, subst (λ (x : A). L n q.front x) heads q.first, subst (λ (x : List A). many (L n) q.back x) tails (subst (λ (x : List T). many (L n) x q.second.tree) (sym whole) q.second.first))
  ]

  back : (n : ℕ) (ts : List T) (a : List A) → many (L n) ts a → unrolled L n ts a
  back n ts [] p = record { which = inl (p, refl) }
  back n ts (a ∷ more) p = record {
    which = inr (record {
      front = p.0;
      back = p.1;
      tree = a;
      split = p.2;
      first = p.3;
      second = record { front = p.1; back = []; tree = more; split = sym (append-nil p.1); first = p.4; second = (refl, refl) };
    });
  }

pub phrase_many : {T A : Type 0} (L : List T → A → Type 0) → HasPhrase (many L)
phrase_many L = record { tokens = []; tree = []; phrase = refl }

pub phrase_chained : {T A B : Type 0} (t : T) (f : List A → B) (L : List T → A → Type 0) → HasPhrase L → HasPhrase (chained t f L)
phrase_chained t f L h = phrase_then L _ h (λ a. phrase_then _ _ (phrase_many _) (λ others. phrase_pure (f (a ∷ others))))

-- what was found before, and what is found still
abbrev pub with_front : {A : Type 0} → List A → Result (List A) Fault → Result (List A) Fault
with_front front (Ok more) = Ok (front ++ more)
with_front front (Err e) = Err e

-- what is made of what is found
abbrev pub made : {A B : Type 0} → (A → B) → Result A Fault → Result B Fault
made f (Ok a) = Ok (f a)
made f (Err e) = Err e

-- the members of a loop: what goes on with the loop's phrase goes on with a member, and no member begins so
pub record IsLoop {T A : Type 0} (M : ℕ → List T → A → Type 0) (joins then_joins : Option T → Bool) : Type 0 where
  pub weaker : (x : Option T) → then_joins x ≡ false → joins x ≡ false
  pub fresh : (n : ℕ) (us behind : List T) (a : A) → M n us a → joins (next (us ++ behind)) ≡ false
  pub grows : Grows M

module _ {T A : Type 0} {M : ℕ → List T → A → Type 0} {joins then_joins : Option T → Bool} (loop : IsLoop M joins then_joins) where
  many_apart : (n : ℕ) (us behind : List T) (more : List A) → many (M n) us more → then_joins (next behind) ≡ false → joins (next (us ++ behind)) ≡ false
  many_apart n us behind [] p ends = subst (λ (x : List T). joins (next (x ++ behind)) ≡ false) (sym p) (loop.weaker (next behind) ends)
  many_apart n us behind (b ∷ more) p ends =
      subst (λ (x : List T). joins (next x) ≡ false) (sym (ap (λ (x : List T). x ++ behind) p.2 ∙ append_assoc p.0 p.1 behind)) (loop.fresh n p.0 (p.1 ++ behind) b p.3)

  rest_apart : {B : Type 0} (f : List A → B) (n : ℕ) (us behind : List T) (b : B) → Then (many (M n)) (λ more. pure (f more)) us b → then_joins (next behind) ≡ false → joins (next (us ++ behind)) ≡ false
  rest_apart f n us behind b p ends =
      let whole : us ≡ p.front = p.split ∙ ap (λ (x : List T). p.front ++ x) p.second.0 ∙ append-nil p.front in
      subst (λ (x : List T). joins (next (x ++ behind)) ≡ false) (sym whole) (many_apart n p.front behind p.tree p.first ends)

  pure_apart : {B : Type 0} (b0 : B) (us behind : List T) (b : B) → pure b0 us b → then_joins (next behind) ≡ false → then_joins (next (us ++ behind)) ≡ false
  pure_apart b0 us behind b p ends = subst (λ (x : List T). then_joins (next (x ++ behind)) ≡ false) (sym p.0) ends

  -- a first phrase, and then any number of the members
  pub then_many : {B C : Type 0} (opens : T → Bool) (L : ℕ → List T → B → Type 0) (f : B → List A → C) (d : ℕ) (ts : List T) (b : B) (mid : List T) (r : Result (List A) Fault) (rest : List T)
      → Grows L → Finds L joins d ts b mid → Reads opens (λ n. many (M n)) then_joins d mid r rest
      → Reads opens (λ n. Then (L n) (λ b. Then (many (M n)) (λ more. pure (f b more)))) then_joins d ts (made (f b) r) rest
  then_many opens L f d ts b mid (Ok more) rest grows p q =
      then_finds L (λ n b. Then (many (M n)) (λ more. pure (f b more))) joins then_joins (λ n b. rest_apart (f b) n) d ts b mid (f b more) rest p
      (then_finds (λ n. many (M n)) (λ n more. pure (f b more)) then_joins then_joins (λ n more. pure_apart (f b more)) d mid more rest (f b more) rest q pure_found)
  then_many opens L f d ts b mid (Err e) rest grows p q =
      then_fails L (λ n b. Then (many (M n)) (λ more. pure (f b more))) joins then_joins (λ n b. rest_apart (f b) n) d ts b mid e rest grows p
      (first_fails (λ n. many (M n)) (λ n more. pure (f b more)) then_joins then_joins (λ n more. pure_apart (f b more)) d mid e rest (λ n more. phrase_pure (f b more)) q)

  pub first_of_many : {B C : Type 0} {opens : T → Bool} (L : ℕ → List T → B → Type 0) (f : B → List A → C) (d : ℕ) (ts : List T) (e : Fault) (rest : List T)
      → Fails opens L joins d ts e rest → Fails opens (λ n. Then (L n) (λ b. Then (many (M n)) (λ more. pure (f b more)))) then_joins d ts e rest
  first_of_many L f d ts e rest q =
      first_fails L (λ n b. Then (many (M n)) (λ more. pure (f b more))) joins then_joins (λ n b. rest_apart (f b) n) d ts e rest
      (λ n b. phrase_then (many (M n)) (λ more. pure (f b more)) (phrase_many (M n)) (λ more. phrase_pure (f b more))) q

  -- one more member
  many_more : (opens : T → Bool) (d : ℕ) (ts : List T) (a : A) (mid : List T) (r : Result (List A) Fault) (rest : List T)
      → then_joins (next ts) ≡ true → Finds M joins d ts a mid → Reads opens (λ n. many (M n)) then_joins d mid r rest → Reads opens (λ n. many (M n)) then_joins d ts (with_front (a ∷ []) r) rest
  unfolding unrolled
  many_more opens d ts a mid (Ok more) rest goes_on p q =
      same_found (unroll M) (right_at refl (λ n. avoids_pure [] (next ts) then_joins goes_on) (then_many opens M (λ a more. a ∷ more) d ts a mid (Ok more) rest loop.grows p q))
  many_more opens d ts a mid (Err e) rest goes_on p q =
      same_fails (unroll M) (right_fails_at refl (λ n. avoids_pure [] (next ts) then_joins goes_on) (then_many opens M (λ a more. a ∷ more) d ts a mid (Err e) rest loop.grows p q))

  many_stuck : (opens : T → Bool) (d : ℕ) (ts : List T) (e : Fault) (rest : List T) → then_joins (next ts) ≡ true → Fails opens M joins d ts e rest → Fails opens (λ n. many (M n)) then_joins d ts e rest
  unfolding unrolled
  many_stuck opens d ts e rest goes_on f =
      same_fails (unroll M) (right_fails_at refl (λ n. avoids_pure [] (next ts) then_joins goes_on) (first_of_many M (λ a more. a ∷ more) d ts e rest f))

  -- no more members
  many_done : (d : ℕ) (ts : List T) → ((n : ℕ) → Avoids (M n) alone (next ts)) → Finds (λ n. many (M n)) then_joins d ts [] ts
  unfolding unrolled
  many_done d ts other =
      same_found (unroll M) (left_at refl (λ n. avoids_then (M n) (λ a. Then (many (M n)) (λ more. pure (a ∷ more))) (next ts) then_joins (other n)) pure_found)

-- ---- the loop's invariant

-- whatever the rest gives, the whole gives what is made of that with these members in front
pub record Front {T A B : Type 0} (opens : T → Bool) (M : ℕ → List T → A → Type 0) (Whole : ℕ → List T → B → Type 0) (then_joins : Option T → Bool) (f : List A → B) (d : ℕ) (start here : List T) (front : List A) : Type 0 where
  pub whole : (r : Result (List A) Fault) (rest : List T) → Reads opens (λ n. many (M n)) then_joins d here r rest → Reads opens Whole then_joins d start (made f (with_front front r)) rest

front_again : {A B : Type 0} (f : List A → B) (front : List A) (a : A) (r : Result (List A) Fault) → made f (with_front front (with_front (a ∷ []) r)) ≡ made f (with_front (front ++ a ∷ []) r)
front_again {A} {B} f front a (Ok more) = ap (λ (x : List A). Ok (f x)) (sym (append_assoc front (a ∷ []) more))
front_again f front a (Err e) = refl

module _ {T A B : Type 0} {opens : T → Bool} {M : ℕ → List T → A → Type 0} {Whole : ℕ → List T → B → Type 0} {joins then_joins : Option T → Bool} (loop : IsLoop M joins then_joins) {f : List A → B} where
  pub chain_next : {d : ℕ} {start ts : List T} {a : A} {mid : List T} (front longer : List A)
      → Front opens M Whole then_joins f d start ts front → then_joins (next ts) ≡ true → Finds M joins d ts a mid → longer ≡ front ++ a ∷ [] → Front opens M Whole then_joins f d start mid longer
  chain_next {d = d} {start = start} {ts = ts} {a = a} {mid = mid} front longer so_far goes_on p e = record {
    whole = λ r rest q.
        rw (e, ← front_again f front a r) (so_far.whole (with_front (a ∷ []) r) rest (many_more loop opens d ts a mid r rest goes_on p q));
  }

  pub chain_fails : {d : ℕ} {start ts : List T} {e : Fault} {rest : List T} {front : List A}
      → Front opens M Whole then_joins f d start ts front → then_joins (next ts) ≡ true → Fails opens M joins d ts e rest → Fails opens Whole then_joins d start e rest
  chain_fails {d = d} {start = start} {ts = ts} {e = e} {rest = rest} so_far goes_on q = so_far.whole (Err e) rest (many_stuck loop opens d ts e rest goes_on q)

  pub chain_done : {d : ℕ} {start ts : List T} {front : List A} → Front opens M Whole then_joins f d start ts front → ((n : ℕ) → Avoids (M n) alone (next ts)) → Finds Whole then_joins d start (f front) ts
  chain_done {d = d} {start = start} {ts = ts} {front = front} so_far other =
      subst (λ (x : List A). Finds Whole then_joins d start (f x) ts) (append-nil front) (so_far.whole (Ok []) ts (many_done loop d ts other))

-- ---- how loops begin

pub chain_empty : {T A : Type 0} {opens : T → Bool} {M : ℕ → List T → A → Type 0} {then_joins : Option T → Bool} {d : ℕ} {ts : List T} (front : List A)
    → front ≡ [] → Front opens M (λ n. many (M n)) then_joins (λ xs. xs) d ts ts front
chain_empty {T} {A} {opens} {M} {then_joins} {d} {ts} front e = record { whole = λ r rest q. rw e (whole_here r rest q) } where
  whole_here : (r : Result (List A) Fault) (rest : List T) → Reads opens (λ n. many (M n)) then_joins d ts r rest → Reads opens (λ n. many (M n)) then_joins d ts (made (λ xs. xs) (with_front [] r)) rest
  whole_here (Ok more) rest q = q
  whole_here (Err e) rest q = q

-- a first phrase of another kind
pub chain_after : {T A B C : Type 0} {opens : T → Bool} {L : ℕ → List T → B → Type 0} {M : ℕ → List T → A → Type 0} {joins then_joins : Option T → Bool} (loop : IsLoop M joins then_joins) (f : B → List A → C) {d : ℕ} {ts : List T} {b : B} {here : List T} (front : List A)
    → Grows L → Finds L joins d ts b here → front ≡ [] → Front opens M (λ n. Then (L n) (λ b. Then (many (M n)) (λ more. pure (f b more)))) then_joins (f b) d ts here front
chain_after {T} {A} {B} {C} {opens} {L} {M} {joins} {then_joins} loop f {d} {ts} {b} {here} front grows p e = record { whole = λ r rest q. rw e (whole_here r rest q) } where
  whole_here : (r : Result (List A) Fault) (rest : List T) → Reads opens (λ n. many (M n)) then_joins d here r rest → Reads opens (λ n. Then (L n) (λ b. Then (many (M n)) (λ more. pure (f b more)))) then_joins d ts (made (f b) (with_front [] r)) rest
  whole_here (Ok more) rest q = then_many loop opens L f d ts b here (Ok more) rest grows p q
  whole_here (Err x) rest q = then_many loop opens L f d ts b here (Err x) rest grows p q

-- ---- members with a token between each two

abbrev pub later : {T A : Type 0} → T → (ℕ → List T → A → Type 0) → ℕ → List T → A → Type 0
later t L n = Then (word t) (λ _. L n)

-- the token stands between members, and nothing else goes on with one
pub record IsChain {T A : Type 0} (t : T) (L : ℕ → List T → A → Type 0) (joins then_joins : Option T → Bool) : Type 0 where
  pub goes_on : then_joins (Some t) ≡ true
  pub weaker : (x : Option T) → then_joins x ≡ false → joins x ≡ false
  pub other : joins (Some t) ≡ false
  pub grows : Grows L

pub chain_loop : {T A : Type 0} {t : T} {L : ℕ → List T → A → Type 0} {joins then_joins : Option T → Bool} → IsChain t L joins then_joins → IsLoop (later t L) joins then_joins
chain_loop {T} {A} {t} {L} {joins} chain = record {
  weaker = chain.weaker;
  fresh = λ n us behind a p. subst (λ (x : List T). joins (next (x ++ behind)) ≡ false) (sym (p.split ∙ ap (λ (x : List T). x ++ p.back) p.first)) chain.other;
  grows = λ n us a p. record { front = p.front; back = p.back; tree = p.tree; split = p.split; first = p.first; second = chain.grows n p.back a p.second };
}

module _ {T A B : Type 0} {opens : T → Bool} {t : T} {L : ℕ → List T → A → Type 0} {joins then_joins : Option T → Bool} (chain : IsChain t L joins then_joins) (f : List A → B) where
  pub chained_stuck : {d : ℕ} {ts : List T} {e : Fault} {rest : List T} → Fails opens L joins d ts e rest → Fails opens (λ n. chained t f (L n)) then_joins d ts e rest
  chained_stuck {d = d} {ts = ts} {e = e} {rest = rest} q = first_of_many (chain_loop chain) L (λ a more. f (a ∷ more)) d ts e rest q

  pub chained_first : {d : ℕ} {ts : List T} {a : A} {here : List T} (front : List A) → Finds L joins d ts a here → front ≡ a ∷ [] → Front opens (later t L) (λ n. chained t f (L n)) then_joins f d ts here front
  chained_first {d = d} {ts = ts} {a = a} {here = here} front p e = record { whole = λ r rest q. rw e (whole_here r rest q) } where
    whole_here : (r : Result (List A) Fault) (rest : List T) → Reads opens (λ n. many (later t L n)) then_joins d here r rest → Reads opens (λ n. chained t f (L n)) then_joins d ts (made f (with_front (a ∷ []) r)) rest
    whole_here (Ok more) rest q = then_many (chain_loop chain) opens L (λ a more. f (a ∷ more)) d ts a here (Ok more) rest chain.grows p q
    whole_here (Err x) rest q = then_many (chain_loop chain) opens L (λ a more. f (a ∷ more)) d ts a here (Err x) rest chain.grows p q

  pub chained_next : {d : ℕ} {start ts here : List T} {a : A} {mid : List T} (front longer : List A)
      → Front opens (later t L) (λ n. chained t f (L n)) then_joins f d start ts front → next ts ≡ Some t → here ≡ after ts → Finds L joins d here a mid → longer ≡ front ++ a ∷ [] → Front opens (later t L) (λ n. chained t f (L n)) then_joins f d start mid longer
  chained_next {d = d} {start = start} {ts = ts} {here = here} {a = a} {mid = mid} front longer so_far comes skipped p e =
      chain_next (chain_loop chain) front longer so_far (ap then_joins comes ∙ chain.goes_on) (word_found tt comes skipped ▸ p) e

  pub chained_fails : {d : ℕ} {start ts here : List T} {e : Fault} {rest : List T} {front : List A}
      → Front opens (later t L) (λ n. chained t f (L n)) then_joins f d start ts front → next ts ≡ Some t → here ≡ after ts → Fails opens L joins d here e rest → Fails opens (λ n. chained t f (L n)) then_joins d start e rest
  chained_fails {d = d} {start = start} {ts = ts} {here = here} {e = e} {rest = rest} so_far comes skipped q =
      chain_fails (chain_loop chain) so_far (ap then_joins comes ∙ chain.goes_on) (found_stuck {L = λ _. word t} (λ n us a p. p) (word_found tt comes skipped) q)

module _ {T A B : Type 0} {opens : T → Bool} {t : T} {L : ℕ → List T → A → Type 0} {joins then_joins : Option T → Bool} (chain : IsChain t L joins then_joins) (f : List A → B) where
  pub chained_done : {d : ℕ} {start ts : List T} {front : List A} → Front opens (later t L) (λ n. chained t f (L n)) then_joins f d start ts front → next ts ≢ Some t → Finds (λ n. chained t f (L n)) then_joins d start (f front) ts
  chained_done {ts = ts} so_far past = chain_done (chain_loop chain) so_far (λ n. avoids_then (word t) (λ _. L n) (next ts) alone (avoids_word t (next ts) alone past))
