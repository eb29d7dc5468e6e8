-- From the front of the tokens to all of them.
use Rattle.std.proofs.Common.{◌≡◌, ◌≢◌, ℕ, suc, ◌+◌, ◌-◌, Bool, false, List, [], ◌∷◌, ◌++◌, Option, Some, None, length, take, drop, refl, sym, ap, subst, ◌∙◌, append_assoc, length-append, arith}
use Rattle.std.proofs.lemmas.List.{append_cancel_left, append-nil, take_at, drop_at}
use Rattle.phrase_theory.specs.Reading.{Begins, Stays, Forces, Finds, IsStuck, IsSunk}
use Rattle.phrase_theory.specs.SequenceLaws.{Grows, stays_phrase}
use Rattle.phrase_theory.specs.FirstFault.{IsSoundTo, IsFirstSyntax, IsFirstTooDeep}

place : {T : Type 0} (taken rest ts : List T) → ts ≡ taken ++ rest → length ts - length rest ≡ length taken
place taken rest ts split = omega (arith, ap length split, length-append taken rest)

taken_is : {T : Type 0} (taken rest ts : List T) → ts ≡ taken ++ rest → take (length ts - length rest) ts ≡ taken
taken_is taken rest ts split = rw (place taken rest ts split, split) (take_at taken rest (length taken) refl)

rest_is : {T : Type 0} (taken rest ts : List T) → ts ≡ taken ++ rest → drop (length ts - length rest) ts ≡ rest
rest_is taken rest ts split = rw (place taken rest ts split, split) (drop_at taken rest (length taken) refl)

one_more : {T : Type 0} (taken more ts : List T) (t : T) → ts ≡ taken ++ t ∷ more → take (length ts - length (t ∷ more) + 1) ts ≡ taken ++ t ∷ []
one_more taken more ts t split =
    let regrouped : ts ≡ (taken ++ t ∷ []) ++ more = split ∙ sym (append_assoc taken (t ∷ []) more) in
    let n : length ts - length (t ∷ more) + 1 ≡ length (taken ++ t ∷ []) = omega (arith, place taken (t ∷ more) ts split, length-append taken (t ∷ []), ap length split, length-append taken (t ∷ more)) in
    rw (n, regrouped) (take_at (taken ++ t ∷ []) more (length (taken ++ t ∷ [])) refl)

module _ {T A : Type 0} {opens : T → Bool} (L : ℕ → List T → A → Type 0) (d : ℕ) (ts : List T) where
  sound_to : (taken rest : List T) → ts ≡ taken ++ rest → Begins (L (suc d)) taken → Stays opens (L d) taken → IsSoundTo opens L d ts (length ts - length rest)
  sound_to taken rest split possible stays = record {
    possible = (suc d, rw (taken_is taken rest ts split) possible);
    stays = rw (taken_is taken rest ts split) stays;
  }

module _ {T A : Type 0} (L : ℕ → List T → A → Type 0) (joins : Option T → Bool) (ends : joins None ≡ false) (d : ℕ) (ts : List T) where
  no_more : (n : ℕ) (taken more : List T) (t : T) → ts ≡ taken ++ t ∷ more → Forces (L n) joins taken (Some t) (λ us b. ⊥) → Begins (L n) (take (length ts - length (t ∷ more) + 1) ts) → ⊥
  no_more n taken more t split f b =
      let c = subst (λ (x : List T). Begins (L n) x) (one_more taken more ts t split) b in
      f.by ((taken ++ t ∷ []) ++ c.more) [] (t ∷ c.more) c.tree c.whole ends (append-nil ((taken ++ t ∷ []) ++ c.more) ∙ append_assoc taken (t ∷ []) c.more) refl

  -- the only phrase
  pub whole_is : (a : A) → Finds L joins d ts a [] → L d ts a × ((n : ℕ) (b : A) → L n ts b → b ≡ a)
  whole_is a p =
      let all : p.taken ≡ ts = sym (p.split ∙ append-nil p.taken) in
      (subst (λ (x : List T). L d x a) all p.phrase, λ n b q. ((p.only n).by ts [] [] b q ends (append-nil ts ∙ p.split) refl).1)

module _ {T A : Type 0} {opens : T → Bool} (L : ℕ → List T → A → Type 0) (joins : Option T → Bool) (ends : joins None ≡ false) (d : ℕ) (ts : List T) where
  pub stuck_is : (rest : List T) → IsStuck opens L joins d ts rest → IsFirstSyntax opens L d ts (length ts - length rest)
  stuck_is [] w = record {
    within = omega arith;
    sound = sound_to L d ts w.taken [] w.split w.possible w.stays;
    here = λ lt p. absurd (omega arith);
    at_end = λ e n a p. (w.refused n).by ts [] [] a p ends (append-nil ts ∙ w.split) refl;
  }
  stuck_is (t ∷ more) w = record {
    within = omega arith;
    sound = sound_to L d ts w.taken (t ∷ more) w.split w.possible w.stays;
    here = λ lt p. no_more L joins ends d ts p.0 w.taken more t w.split (w.refused p.0) p.1;
    at_end = λ e n a p. absurd (omega (arith, ap length w.split, length-append w.taken (t ∷ more)));
  }

  pub sunk_is : (rest : List T) → IsSunk opens L joins d ts rest → IsFirstTooDeep opens L d ts (length ts - length rest)
  sunk_is [] w = absurd w.opened
  sunk_is (t ∷ more) w = record {
    within = omega (arith, ap length w.split, length-append w.taken (t ∷ more));
    sound = sound_to L d ts w.taken (t ∷ more) w.split w.possible w.stays;
    here = λ b. no_more L joins ends d ts d w.taken more t w.split w.refused b;
    opened = rw (rest_is w.taken (t ∷ more) ts w.split) w.opened;
    possible = (suc d, rw (one_more w.taken more ts t w.split) w.deeper);
  }

  -- tokens are left behind a phrase that ends by itself
  pub left_over_is : (a : A) (rest : List T) → Finds L joins d ts a rest → rest ≢ [] → ((t : T) → joins (Some t) ≡ false) → Grows L → IsFirstSyntax opens L d ts (length ts - length rest)
  left_over_is a [] p some stops grows = absurd (some refl)
  left_over_is a (t ∷ more) p some stops grows = record {
    within = omega arith;
    sound = sound_to L d ts p.taken (t ∷ more) p.split (record { more = []; tree = a; whole = rw (append-nil p.taken) (grows d p.taken a p.phrase) }) (stays_phrase (L d) p.taken a p.phrase);
    here = λ lt q.
        let c = subst (λ (x : List T). Begins (L q.0) x) (one_more p.taken more ts t p.split) q.1 in
        let same = (p.only q.0).by ((p.taken ++ t ∷ []) ++ c.more) [] (t ∷ c.more) c.tree c.whole ends (append-nil ((p.taken ++ t ∷ []) ++ c.more) ∙ append_assoc p.taken (t ∷ []) c.more) refl in
        let none_left : t ∷ c.more ≡ [] = append_cancel_left p.taken (t ∷ c.more) [] (sym (append_assoc p.taken (t ∷ []) c.more) ∙ same.0 ∙ sym (append-nil p.taken)) in
        absurd cc;
    at_end = λ e n b q. absurd (omega (arith, ap length p.split, length-append p.taken (t ∷ more)));
  }
