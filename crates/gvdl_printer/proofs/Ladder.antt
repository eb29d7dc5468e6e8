-- Places of a tree, each of which takes fewer trees without parentheses than the one before it.
--
-- `P n k` are the phrases of place k with n levels, up to the last place, `top`. `spelt k a` is what is written of the
-- tree a at place k.
use Rattle.std.proofs.Common.{◌≡◌, ◌∙◌, ◌+◌, ◌-◌, ◌≤◌, ◌<◌, ℕ, zero, suc, Bool, List, [], ◌∷◌, ◌++◌, refl, sym, ap, subst, arith, inl, inr}
use Rattle.std.specs.Prelude.{nat_lt}
use Rattle.std.proofs.lemmas.Bool.{cases_lt, le-ltb, lt-ltb}
use Rattle.gvdl_tokens.specs.declared.token.Token.{Token}
use Rattle.gvdl_tokens.specs.declared.token.Token.TheVariants as t
use Rattle.gvdl_tokens.specs.declared.token.Sign.TheVariants as s
use Rattle.gvdl_tokens.specs.Printing.{ArePrintable}
use Rattle.phrase_theory.specs.LevelLaws.{Within}
use Rattle.gvdl_printer.specs.Layout.{Piece, tokens, sign}
use Rattle.gvdl_printer.specs.Canonical.{enclosed}
use Rattle.gvdl_printer.proofs.Better.{total, total-append, AreFewer, IsBetter, named, widened}

pub tokens-append : (xs ys : List Piece) → tokens (xs ++ ys) ≡ tokens xs ++ tokens ys
tokens-append [] ys = refl
tokens-append (x ∷ xs) ys = ap (λ (ts : List Token). x.token ∷ ts) (tokens-append xs ys)

abbrev pub parenthesized : List Token → List Token
parenthesized ts = t.Sign s.Open ∷ (ts ++ t.Sign s.Close ∷ [])

-- what is written stands without parentheses up to a place, and in parentheses behind it
pub record IsRanked {A : Type 0} (spelt : ℕ → A → List Token) (r : ℕ) (a : A) : Type 0 where
  pub same : (j : ℕ) → j ≤ r → spelt j a ≡ spelt 0 a
  pub more : (j : ℕ) → r < j → spelt j a ≡ parenthesized (spelt 0 a)

-- pieces that are enclosed behind a place
pub ranked : {A : Type 0} (pieces : A → ℕ → List Piece) (r : ℕ) (a : A) (xs : List Piece) → ((k : ℕ) → pieces a k ≡ enclosed (nat_lt r k) xs) → IsRanked (λ k b. tokens (pieces b k)) r a
ranked {A} pieces r a xs at = record { same = λ j le. bare j le ∙ sym (bare 0 (omega arith)); more = λ j lt. round j lt ∙ ap parenthesized (sym (bare 0 (omega arith))) } where
  bare : (j : ℕ) → j ≤ r → tokens (pieces a j) ≡ tokens xs
  bare j le = ap tokens (at j) ∙ ap (λ (x : Bool). tokens (enclosed x xs)) (le-ltb _ _ le)

  round : (j : ℕ) → r < j → tokens (pieces a j) ≡ parenthesized (tokens xs)
  round j lt = ap tokens (at j) ∙ ap (λ (x : Bool). tokens (enclosed x xs)) (lt-ltb _ _ lt) ∙ ap (λ (ts : List Token). t.Sign s.Open ∷ ts) (tokens-append xs (sign s.Close ∷ []))

module _ {A : Type 0} (spelt : ℕ → A → List Token) (top : ℕ) (P : ℕ → ℕ → List Token → A → Type 0) where
  -- each phrase of a place is one of the place before it
  pub record IsLadder (n : ℕ) : Type 0 where
    pub lower : (k : ℕ) → k < top → Within (P n (suc k)) (P n k)

  lowered_by : (n : ℕ) → IsLadder n → (d j k : ℕ) → j + d ≡ k → k ≤ top → Within (P n k) (P n j)
  lowered_by n ladder zero j k e le ts a p = let same : k ≡ j = omega (arith, e) in subst (λ (x : ℕ). P n x ts a) same p
  lowered_by n ladder (suc d) j k e le ts a p = ladder.lower j (omega (arith, e, le)) ts a (lowered_by n ladder d (suc j) k (omega (arith, e)) le ts a p)

  pub lowered : (n : ℕ) → IsLadder n → (j k : ℕ) → j ≤ k → k ≤ top → Within (P n k) (P n j)
  lowered n ladder j k below le = lowered_by n ladder (k - j) j k (omega (arith, below)) le

  -- what is written of a tree at a place and at each place before it
  pub record IsPlaced (n k : ℕ) (ts : List Token) (a : A) : Type 0 where
    pub by : (j : ℕ) → j ≤ k → IsBetter (P n j) ts (spelt j a) a

  pub chain_placed : (n r : ℕ) → IsLadder n → r ≤ top → (ts : List Token) (a : A) → IsRanked spelt r a → IsBetter (P n r) ts (spelt r a) a → IsPlaced n r ts a
  chain_placed n r ladder le ts a rank h = record {
    by = λ j below. widened (named h (rank.same r (omega arith) ∙ sym (rank.same j below))) (lowered n ladder j r below le (spelt j a) a);
  }

  -- what is no chain is written in one way
  pub plain_placed : (n : ℕ) → IsLadder n → (ts us : List Token) (a : A) → ((k : ℕ) → spelt k a ≡ us) → IsBetter (P n top) ts us a → IsPlaced n top ts a
  plain_placed n ladder ts us a at h = record { by = λ j below. widened (named h (sym (at j))) (lowered n ladder j top below (omega arith) (spelt j a) a) }

  -- each phrase of a place is written at it and before it
  abbrev pub ArePlaced : ℕ → ℕ → Type 0
  ArePlaced n k = (ts : List Token) (a : A) → P n k ts a → IsPlaced n k ts a

  -- a phrase at the last place that takes it without parentheses
  pub record IsSettled (n : ℕ) (ts : List Token) (a : A) : Type 0 where
    pub place : ℕ
    pub within : place ≤ top
    pub phrase : P n place ts a
    pub more : (j : ℕ) → place < j → j ≤ top → spelt j a ≡ parenthesized (spelt 0 a)

  pub settled_at : (n r : ℕ) → r ≤ top → (ts : List Token) (a : A) → P n r ts a → IsRanked spelt r a → IsSettled n ts a
  settled_at n r le ts a p rank = record { place = r; within = le; phrase = p; more = λ j lt at. rank.more j lt }

  pub settled_top : (n : ℕ) (ts : List Token) (a : A) → P n top ts a → IsSettled n ts a
  settled_top n ts a p = record { place = top; within = omega arith; phrase = p; more = λ j lt le. absurd (omega (arith, lt, le)) }

  module _ (n : ℕ) (ladder : IsLadder (suc n)) (grows : (k : ℕ) → Within (P n k) (P (suc n) k)) (opened : (ts : List Token) (a : A) → P n 0 ts a → P (suc n) top (parenthesized ts) a) (inside : (k : ℕ) → k ≤ top → ArePlaced n k) where
    enclosed_few : (us ts : List Token) → AreFewer us ts → AreFewer (parenthesized us) (parenthesized ts)
    enclosed_few us ts few f fair =
        let le : total f us ≤ total f ts = few f fair in
        let a : total f (us ++ t.Sign s.Close ∷ []) ≡ total f us + total f (t.Sign s.Close ∷ []) = total-append f us (t.Sign s.Close ∷ []) in
        let b : total f (ts ++ t.Sign s.Close ∷ []) ≡ total f ts + total f (t.Sign s.Close ∷ []) = total-append f ts (t.Sign s.Close ∷ []) in
        omega (arith, le, a, b)

    more_than : (us ts : List Token) → AreFewer us ts → AreFewer us (parenthesized ts)
    more_than us ts few f fair =
        let le : total f us ≤ total f ts = few f fair in
        let b : total f (ts ++ t.Sign s.Close ∷ []) ≡ total f ts + total f (t.Sign s.Close ∷ []) = total-append f ts (t.Sign s.Close ∷ []) in
        omega (arith, le, b)

    printable_inside : (ts : List Token) → ArePrintable (parenthesized ts) → ArePrintable ts
    printable_inside ts p = front ts p.1 where
      front : (xs : List Token) → ArePrintable (xs ++ t.Sign s.Close ∷ []) → ArePrintable xs
      front [] h = tt
      front (x ∷ xs) h = (h.0, front xs h.1)

    printable_round : (ts us : List Token) → ArePrintable (parenthesized ts) → ArePrintable us → ArePrintable (parenthesized us)
    printable_round ts us p q = (p.0, both us q) where
      last : (xs : List Token) → ArePrintable (xs ++ t.Sign s.Close ∷ []) → ArePrintable (t.Sign s.Close ∷ [])
      last [] h = h
      last (x ∷ xs) h = last xs h.1

      both : (xs : List Token) → ArePrintable xs → ArePrintable (xs ++ t.Sign s.Close ∷ [])
      both [] h = last ts p.1
      both (x ∷ xs) h = (h.0, both xs h.1)

    -- what stood in parentheses, at each place
    pub enclosed_placed : (ts : List Token) (a : A) → IsSettled n ts a → IsPlaced (suc n) top (parenthesized ts) a
    enclosed_placed ts a q = record { by = by } where
      placed : IsPlaced n q.place ts a
      placed = inside q.place q.within ts a q.phrase

      bare : (j : ℕ) → j ≤ q.place → IsBetter (P (suc n) j) (parenthesized ts) (spelt j a) a
      bare j below = let h = placed.by j below in record { phrase = grows j (spelt j a) a h.phrase; few = more_than (spelt j a) ts h.few; printable = λ p. h.printable (printable_inside ts p) }

      round : (j : ℕ) → q.place < j → j ≤ top → IsBetter (P (suc n) j) (parenthesized ts) (spelt j a) a
      round j lt le =
          let h = placed.by 0 (omega arith) in
          let phrase : P (suc n) j (parenthesized (spelt 0 a)) a = lowered (suc n) ladder j top le (omega arith) (parenthesized (spelt 0 a)) a (opened (spelt 0 a) a h.phrase) in
          let made : IsBetter (P (suc n) j) (parenthesized ts) (parenthesized (spelt 0 a)) a = record { phrase = phrase; few = enclosed_few (spelt 0 a) ts h.few; printable = λ p. printable_round ts (spelt 0 a) p (h.printable (printable_inside ts p)) } in
          named made (sym (q.more j lt le))

      by : (j : ℕ) → j ≤ top → IsBetter (P (suc n) j) (parenthesized ts) (spelt j a) a
      by j le = elim (cases_lt q.place j) [ inl lt ↦ round j lt le | inr below ↦ bare j below ]
