-- Chains: a lone member, or several with a token between each two.
use Rattle.std.proofs.Common.{◌≡◌, ◌∙◌, ◌⊎◌, List, [], ◌∷◌, ◌++◌, refl, sym, ap, subst, inl, inr}
use Rattle.std.specs.List.{flat_map}
use Rattle.std.proofs.lemmas.List.{append-nil}
use Rattle.gvdl_tokens.specs.declared.token.Token.{Token}
use Rattle.phrase_theory.specs.Phrases.{word, Then, many, chained, separated}
use Rattle.gvdl_printer.specs.Layout.{Piece, tokens}
use Rattle.gvdl_printer.specs.Canonical.{joined}
use Rattle.gvdl_printer.proofs.Better.{IsBetter, Writes, named, chain_tokens, separated_is}
use Rattle.gvdl_printer.proofs.Ladder.{tokens-append}

-- the tokens of parts one after the other
pub tokens-parts : {A : Type 0} (F : A → List Piece) (xs : List A) → tokens (flat_map F xs) ≡ flat_map (λ a. tokens (F a)) xs
tokens-parts F [] = refl
tokens-parts F (x ∷ xs) = tokens-append (F x) (flat_map F xs) ∙ ap (λ (ts : List Token). tokens (F x) ++ ts) (tokens-parts F xs)

-- the tokens of members with a piece between each two
pub tokens-joined : {A : Type 0} (x : Piece) (F : A → List Piece) (first : A) (others : List A) → tokens (joined x F (first ∷ others)) ≡ chain_tokens x.token (λ a. tokens (F a)) first others
tokens-joined x F first others = tokens-append (F first) (flat_map (λ a. x ∷ F a) others) ∙ ap (λ (ts : List Token). tokens (F first) ++ ts) (tokens-parts (λ a. x ∷ F a) others)

-- a chain of one member
pub chained_one : {A : Type 0} (w : Token) (f : List A → A) (L : List Token → A → Type 0) (ts : List Token) (a : A) → f (a ∷ []) ≡ a → L ts a → chained w f L ts a
chained_one w f L ts a alone h = record { front = ts; back = []; tree = a; split = sym (append-nil ts); first = h; second = record { front = []; back = []; tree = []; split = refl; first = refl; second = (refl, sym alone) } }

-- a chain of two members or more
pub record IsSeveral {A : Type 0} (w : Token) (f : List A → A) (L : List Token → A → Type 0) (ts : List Token) (a : A) : Type 0 where
  pub first : A
  pub second : A
  pub more : List A
  pub is : a ≡ f (first ∷ second ∷ more)
  pub phrase : separated w L ts (first ∷ second ∷ more)

module _ {A : Type 0} (w : Token) (f : List A → A) (L : List Token → A → Type 0) (alone : (a : A) → f (a ∷ []) ≡ a) where
  cases_by : (ts front back : List Token) (a first : A) (others : List A) → ts ≡ front ++ back → L front first → many (Then (word w) (λ _. L)) back others → a ≡ f (first ∷ others) → L ts a ⊎ IsSeveral w f L ts a
  cases_by ts front back a first [] split h m is =
      let whole : front ≡ ts = sym (split ∙ ap (λ (x : List Token). front ++ x) m ∙ append-nil front) in
      inl (subst (λ (x : A). L ts x) (sym (is ∙ alone first)) (subst (λ (x : List Token). L x first) whole h))
  cases_by ts front back a first (second ∷ more) split h m is =
      inr (record {
        first = first;
        second = second;
        more = more;
        is = is;
        phrase = record { front = front; back = back; tree = first; split = split; first = h; second = record { front = back; back = []; tree = second ∷ more; split = sym (append-nil back); first = m; second = (refl, refl) } };
      })

  pub chain_cases : (ts : List Token) (a : A) → chained w f L ts a → L ts a ⊎ IsSeveral w f L ts a
  chain_cases ts a q =
      let s = q.second in
      let whole : q.back ≡ s.front = s.split ∙ ap (λ (x : List Token). s.front ++ x) s.second.0 ∙ append-nil s.front in
      cases_by ts q.front s.front a q.tree s.tree (q.split ∙ ap (λ (x : List Token). q.front ++ x) whole) q.first s.first s.second.1

-- the tree of a list of members
pub chained_of : {A : Type 0} (w : Token) (f : List A → A) (L : List Token → A → Type 0) (ts : List Token) (members : List A) → separated w L ts members → chained w f L ts (f members)
chained_of w f L ts members q = let s = q.second in record {
  front = q.front;
  back = q.back;
  tree = q.tree;
  split = q.split;
  first = q.first;
  second = record { front = s.front; back = s.back; tree = s.tree; split = s.split; first = s.first; second = (s.second.0, ap f s.second.1) };
}

-- what is written of a chain of several members
pub several_is : {A : Type 0} {w : Token} {f : List A → A} {L M : List Token → A → Type 0} (g : A → List Token) → Writes g L M → (ts : List Token) (a : A) (q : IsSeveral w f L ts a) → IsBetter (chained w f M) ts (chain_tokens w g q.first (q.second ∷ q.more)) a
several_is {A} {w} {f} {L} {M} g each ts a q =
    let members : List A = q.first ∷ q.second ∷ q.more in
    let h = separated_is w each ts q.first (q.second ∷ q.more) q.phrase in
    let us : List Token = chain_tokens w g q.first (q.second ∷ q.more) in
    record { phrase = subst (λ (x : A). chained w f M us x) (sym q.is) (chained_of w f M us members h.phrase); few = h.few; printable = h.printable }

-- what is written of a list with a piece between each two
pub list_is : {A : Type 0} {L M : List Token → A → Type 0} (x : Piece) (F : A → List Piece) → Writes (λ a. tokens (F a)) L M → Writes (λ members. tokens (joined x F members)) (separated x.token L) (separated x.token M)
list_is {A} {L} {M} x F each ts members q = by_form q.second.second.1 where
  members_are : (first : A) (others : List A) → members ≡ first ∷ others → IsBetter (separated x.token M) ts (tokens (joined x F members)) members
  members_are first others e =
      let it : separated x.token L ts (first ∷ others) = subst (λ (ys : List A). separated x.token L ts ys) e q in
      subst (λ (ys : List A). IsBetter (separated x.token M) ts (tokens (joined x F ys)) ys) (sym e) (named (separated_is x.token each ts first others it) (sym (tokens-joined x F first others)))

  by_form : members ≡ q.tree ∷ q.second.tree → IsBetter (separated x.token M) ts (tokens (joined x F members)) members
  by_form e = members_are q.tree q.second.tree e
