-- Sums and products: a lone member, or one with others behind it, each behind a sign.
use Rattle.std.proofs.Common.{◌≡◌, ◌∙◌, ◌⊎◌, Bool, List, [], ◌∷◌, ◌++◌, refl, sym, ap, subst, inl, inr}
use Rattle.std.specs.List.{flat_map}
use Rattle.std.proofs.lemmas.List.{append-nil}
use Rattle.gvdl_tokens.specs.declared.token.Token.{Token}
use Rattle.gvdl_tree.specs.declared.expression.ExprTree.{ExprTree}
use Rattle.phrase_theory.specs.Phrases.{◌>>=◌, one, pure, Then, many}
use Rattle.gvdl_printer.proofs.Better.{IsBetter, Writes, named, one_is, pure_is, step, many_is}

-- a sign, and a member behind it
abbrev pub signed : (Bool → Token) → (List Token → ExprTree → Type 0) → List Token → Bool × ExprTree → Type 0
signed f L = do flag ← one f; a ← L; pure (flag, a)

-- a member, and others behind it
abbrev pub tailed : (Bool → Token) → (ExprTree → List (Bool × ExprTree) → ExprTree) → (List Token → ExprTree → Type 0) → List Token → ExprTree → Type 0
tailed f make L = do
  first ← L
  others ← many (signed f L)
  pure (make first others)

-- what is written of the others
abbrev pub tail_tokens : (Bool → Token) → (ExprTree → List Token) → List (Bool × ExprTree) → List Token
tail_tokens f g others = flat_map (λ other. f other.0 ∷ g other.1) others

signed_is : {f : Bool → Token} {L M : List Token → ExprTree → Type 0} {g : ExprTree → List Token} → Writes g L M → Writes (λ other. f other.0 ∷ g other.1) (signed f L) (signed f M)
signed_is {f} {L} {M} {g} each ts a q =
    let k = q.second in
    named (step q (one_is q.first) (step k (each k.front k.tree k.first) (pure_is k.second)))
    (ap (λ (x : List Token). f q.tree ∷ x) (append-nil (g k.tree)) ∙ ap (λ (x : Bool × ExprTree). f x.0 ∷ g x.1) (sym k.second.1))

-- some others
pub record HasTail (f : Bool → Token) (make : ExprTree → List (Bool × ExprTree) → ExprTree) (L : List Token → ExprTree → Type 0) (ts : List Token) (a : ExprTree) : Type 0 where
  pub first : ExprTree
  pub other : Bool × ExprTree
  pub others : List (Bool × ExprTree)
  pub is : a ≡ make first (other ∷ others)
  pub front : List Token
  pub back : List Token
  pub split : ts ≡ front ++ back
  pub head : L front first
  pub tail : many (signed f L) back (other ∷ others)

module _ (f : Bool → Token) (make : ExprTree → List (Bool × ExprTree) → ExprTree) (L : List Token → ExprTree → Type 0) (alone : (a : ExprTree) → make a [] ≡ a) where
  cases_by : (ts front back : List Token) (a first : ExprTree) (others : List (Bool × ExprTree)) → ts ≡ front ++ back → L front first → many (signed f L) back others → a ≡ make first others → L ts a ⊎ HasTail f make L ts a
  cases_by ts front back a first [] split h m is =
      let whole : front ≡ ts = sym (split ∙ ap (λ (x : List Token). front ++ x) m ∙ append-nil front) in
      inl (subst (λ (x : ExprTree). L ts x) (sym (is ∙ alone first)) (subst (λ (x : List Token). L x first) whole h))
  cases_by ts front back a first (other ∷ others) split h m is = inr (record { first = first; other = other; others = others; is = is; front = front; back = back; split = split; head = h; tail = m })

  pub tail_cases : (ts : List Token) (a : ExprTree) → tailed f make L ts a → L ts a ⊎ HasTail f make L ts a
  tail_cases ts a q =
      let s = q.second in
      let whole : q.back ≡ s.front = s.split ∙ ap (λ (x : List Token). s.front ++ x) s.second.0 ∙ append-nil s.front in
      cases_by ts q.front s.front a q.tree s.tree (q.split ∙ ap (λ (x : List Token). q.front ++ x) whole) q.first s.first s.second.1

  pub tailed_one : (ts : List Token) (a : ExprTree) → L ts a → tailed f make L ts a
  tailed_one ts a h = record { front = ts; back = []; tree = a; split = sym (append-nil ts); first = h; second = record { front = []; back = []; tree = []; split = refl; first = refl; second = (refl, sym (alone a)) } }

-- what is written of a member with others behind it
pub tail_is : {f : Bool → Token} {make : ExprTree → List (Bool × ExprTree) → ExprTree} {L M : List Token → ExprTree → Type 0} (g : ExprTree → List Token) → Writes g L M → (ts : List Token) (a : ExprTree) (q : HasTail f make L ts a) → IsBetter (tailed f make M) ts (g q.first ++ tail_tokens f g (q.other ∷ q.others)) a
tail_is {f} {make} {L} {M} g each ts a q =
    let all : List (Bool × ExprTree) = q.other ∷ q.others in
    let back : Then (many (signed f L)) (λ others. pure (make q.first others)) q.back a = record { front = q.back; back = []; tree = all; split = sym (append-nil q.back); first = q.tail; second = (refl, q.is) } in
    let whole : tailed f make L ts a = record { front = q.front; back = q.back; tree = q.first; split = q.split; first = q.head; second = back } in
    named (step whole (each q.front q.first q.head) (step back (many_is (signed_is each) q.back all q.tail) (pure_is back.second)))
    (ap (λ (x : List Token). g q.first ++ x) (append-nil (tail_tokens f g all)))
