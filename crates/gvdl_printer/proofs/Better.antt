-- Tokens that take the place of others: a phrase with the same tree, which measures no more, and which can be spelled.
use Rattle.std.proofs.Common.{◌≡◌, ◌∙◌, ◌≤◌, ◌+◌, ℕ, true, false, List, [], ◌∷◌, ◌++◌, refl, ap, subst, arith, inl, inr}
use Rattle.std.specs.List.{flat_map}
use Rattle.std.proofs.lemmas.List.{append-nil}
use Rattle.gvdl_tokens.specs.declared.token.Token.{Token}
use Rattle.gvdl_tokens.specs.declared.token.Token.TheVariants as t
use Rattle.gvdl_tokens.specs.declared.word.Word.TheVariants as w
use Rattle.gvdl_tokens.specs.Printing.{ArePrintable}
use Rattle.phrase_theory.specs.Phrases.{one, word, pure, Then, Either, many, separated}
use Rattle.gvdl_printer.specs.Names.{is_name}

-- ---- measures

-- what tokens measure together
abbrev pub total : (Token → ℕ) → List Token → ℕ
total f [] = 0
total f (x ∷ xs) = f x + total f xs

pub total-append : (f : Token → ℕ) (xs ys : List Token) → total f (xs ++ ys) ≡ total f xs + total f ys
total-append f [] ys = omega arith
total-append f (x ∷ xs) ys = let more = total-append f xs ys in omega (arith, more)

-- a measure by which a token that is written in place of another is no more than that
pub record IsFair (f : Token → ℕ) : Type 0 where
  pub bare : (p : List ℕ) → is_name p ≡ true → f (t.Name p) ≤ f (t.Quoted p)
  pub quoted : (p : List ℕ) → is_name p ≡ false → f (t.Quoted p) ≤ f (t.Name p)
  pub rounds : f (t.Word w.Rounds) ≤ f (t.Word w.Round)

-- by each such measure, the first tokens are no more than the second
abbrev pub AreFewer : List Token → List Token → Type 0
AreFewer us ts = (f : Token → ℕ) → IsFair f → total f us ≤ total f ts

-- ---- tokens in place of others

pub record IsBetter {A : Type 0} (L : List Token → A → Type 0) (ts us : List Token) (a : A) : Type 0 where
  pub phrase : L us a
  pub few : AreFewer us ts
  pub printable : ArePrintable ts → ArePrintable us

-- what is written in place of each phrase
abbrev pub Writes : {A : Type 0} → (A → List Token) → (List Token → A → Type 0) → (List Token → A → Type 0) → Type 0
Writes {A} f L M = (ts : List Token) (a : A) → L ts a → IsBetter M ts (f a) a

printable_front : (xs ys : List Token) → ArePrintable (xs ++ ys) → ArePrintable xs
printable_front [] ys h = tt
printable_front (x ∷ xs) ys h = (h.0, printable_front xs ys h.1)

printable_back : (xs ys : List Token) → ArePrintable (xs ++ ys) → ArePrintable ys
printable_back [] ys h = h
printable_back (x ∷ xs) ys h = printable_back xs ys h.1

printable_both : (xs ys : List Token) → ArePrintable xs → ArePrintable ys → ArePrintable (xs ++ ys)
printable_both [] ys h k = k
printable_both (x ∷ xs) ys h k = (h.0, printable_both xs ys h.1 k)

-- other names for the same
pub named : {A : Type 0} {L : List Token → A → Type 0} {ts us vs : List Token} {a : A} → IsBetter L ts us a → us ≡ vs → IsBetter L ts vs a
named {A} {L} {ts} {us} {vs} {a} h e = subst (λ (x : List Token). IsBetter L ts x a) e h

-- the same phrase
pub itself : {A : Type 0} {L : List Token → A → Type 0} {ts : List Token} {a : A} → L ts a → IsBetter L ts ts a
itself {A} {L} {ts} {a} h = record { phrase = h; few = λ f fair. omega arith; printable = λ p. p }

-- a phrase of more kinds
pub widened : {A : Type 0} {L M : List Token → A → Type 0} {ts us : List Token} {a : A} → IsBetter L ts us a → (L us a → M us a) → IsBetter M ts us a
widened h g = record { phrase = g h.phrase; few = h.few; printable = h.printable }

pub pure_is : {A : Type 0} {c : A} {ts : List Token} {b : A} → pure c ts b → IsBetter (pure c) ts [] b
pure_is h = record { phrase = (refl, h.1); few = λ f fair. omega arith; printable = λ p. tt }

pub word_is : {w : Token} {ts : List Token} {u : Unit {0}} → word w ts u → IsBetter (word w) ts (w ∷ []) u
word_is {w} {ts} {u} h = subst (λ (x : List Token). IsBetter (word w) ts x u) h (itself h)

pub one_is : {A : Type 0} {f : A → Token} {ts : List Token} {a : A} → one f ts a → IsBetter (one f) ts (f a ∷ []) a
one_is {A} {f} {ts} {a} h = subst (λ (x : List Token). IsBetter (one f) ts x a) h (itself h)

-- one phrase behind the other
pub step : {A B : Type 0} {L L' : List Token → A → Type 0} {M M' : A → List Token → B → Type 0} {ts : List Token} {b : B} {us vs : List Token} (q : Then L M ts b) → IsBetter L' q.front us q.tree → IsBetter (M' q.tree) q.back vs b → IsBetter (Then L' M') ts (us ++ vs) b
step {A} {B} {L} {L'} {M} {M'} {ts} {b} {us} {vs} q h k = record {
  phrase = record { front = us; back = vs; tree = q.tree; split = refl; first = h.phrase; second = k.phrase };
  few = few;
  printable = λ p. let whole : ArePrintable (q.front ++ q.back) = subst ArePrintable q.split p in printable_both us vs (h.printable (printable_front q.front q.back whole)) (k.printable (printable_back q.front q.back whole));
} where
  few : AreFewer (us ++ vs) ts
  few f fair =
      let split : total f ts ≡ total f q.front + total f q.back = ap (total f) q.split ∙ total-append f q.front q.back in
      let made : total f (us ++ vs) ≡ total f us + total f vs = total-append f us vs in
      let first : total f us ≤ total f q.front = h.few f fair in
      let second : total f vs ≤ total f q.back = k.few f fair in
      omega (arith, first, second, split, made)

pub left : {A : Type 0} {L M : List Token → A → Type 0} {ts us : List Token} {a : A} → IsBetter L ts us a → IsBetter (Either L M) ts us a
left h = record { phrase = record { which = inl h.phrase }; few = h.few; printable = h.printable }

pub right : {A : Type 0} {L M : List Token → A → Type 0} {ts us : List Token} {a : A} → IsBetter M ts us a → IsBetter (Either L M) ts us a
right h = record { phrase = record { which = inr h.phrase }; few = h.few; printable = h.printable }

-- ---- any number of phrases

pub many_is : {A : Type 0} {L M : List Token → A → Type 0} {f : A → List Token} → Writes f L M → (ts : List Token) (xs : List A) → many L ts xs → IsBetter (many M) ts (flat_map f xs) xs
many_is {A} {L} {M} {f} each ts [] h = record { phrase = refl; few = λ g fair. omega arith; printable = λ p. tt }
many_is {A} {L} {M} {f} each ts (x ∷ xs) h =
    let first : IsBetter M h.0 (f x) x = each h.0 x h.3 in
    let others : IsBetter (many M) h.1 (flat_map f xs) xs = many_is each h.1 xs h.4 in
    let q : Then L (λ a. λ ts b. many L ts xs) ts xs = record { front = h.0; back = h.1; tree = x; split = h.2; first = h.3; second = h.4 } in
    let both : IsBetter (Then M (λ a. λ ts b. many M ts xs)) ts (f x ++ flat_map f xs) xs = step q first (record { phrase = others.phrase; few = others.few; printable = others.printable }) in
    record { phrase = (f x, flat_map f xs, refl, first.phrase, others.phrase); few = both.few; printable = both.printable }

-- the members of a chain behind the first, each behind its token
pub behind_token : {A : Type 0} {L M : List Token → A → Type 0} {f : A → List Token} (w : Token) → Writes f L M → Writes (λ a. w ∷ f a) (Then (word w) (λ _. L)) (Then (word w) (λ _. M))
behind_token {A} {L} {M} {f} w each ts a q = step q (word_is q.first) (each q.back a q.second)

-- what is written for the members of a chain
abbrev pub chain_tokens : {A : Type 0} → Token → (A → List Token) → A → List A → List Token
chain_tokens w f first others = f first ++ flat_map (λ a. w ∷ f a) others

pub separated_is : {A : Type 0} {L M : List Token → A → Type 0} {f : A → List Token} (w : Token) → Writes f L M → (ts : List Token) (first : A) (others : List A) → separated w L ts (first ∷ others) → IsBetter (separated w M) ts (chain_tokens w f first others) (first ∷ others)
separated_is {A} {L} {M} {f} w each ts first others q =
    let s = q.second in
    let same : first ∷ others ≡ q.tree ∷ s.tree = s.second.1 in
    let heads : q.tree ≡ first = cc in
    let tails : s.tree ≡ others = cc in
    let made : IsBetter (separated w M) ts (f q.tree ++ (flat_map (λ a. w ∷ f a) s.tree ++ [])) (first ∷ others) = step q (each q.front q.tree q.first) (step s (many_is (behind_token w each) s.front s.tree s.first) (pure_is s.second)) in
    named made (ap (λ (x : List Token). f q.tree ++ x) (append-nil (flat_map (λ a. w ∷ f a) s.tree)) ∙ ap (λ (a : A). f a ++ flat_map (λ a. w ∷ f a) s.tree) heads ∙ ap (λ (xs : List A). f first ++ flat_map (λ a. w ∷ f a) xs) tails)
