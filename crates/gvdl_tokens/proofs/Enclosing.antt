-- What stands between quotes, character by character.
use Rattle.std.proofs.Common.{◌≡◌, ◌⊎◌, inl, inr, ℕ, Bool, true, false, List, [], ◌∷◌, ◌++◌, refl, sym, ap, subst, ◌∙◌, append_assoc, arith}
use Rattle.std.specs.Prelude.{◌==◌, if◌then◌else◌}
use Rattle.std.proofs.lemmas.Bool.Decides.{nat_tests}
use Rattle.gvdl_tokens.specs.Characters.{Stops}
use Rattle.gvdl_tokens.specs.Spelling.{doubled}
use Rattle.gvdl_tokens.specs.Reading.{Closes, IsUnclosed}
use Rattle.gvdl_tokens.proofs.Runs.{if_true, if_false}

pub decided : (x : Bool) → (x ≡ true) ⊎ (x ≡ false)
decided true = inl refl
decided false = inr refl

both_ways : {A : Type 0} (x : Bool) → x ≡ true → x ≡ false → A
both_ways true e f = absurd cc
both_ways false e f = absurd cc

pub is_quote : (b q : ℕ) → (b == q) ≡ true → b ≡ q
is_quote b q h = grind (arith, nat_tests)

pub is_itself : (q : ℕ) → (q == q) ≡ true
is_itself q = grind (arith, nat_tests)

module _ (q b : ℕ) (bs : List ℕ) where
  pub doubled_quote : (b == q) ≡ true → doubled q (b ∷ bs) ≡ b ∷ b ∷ doubled q bs
  doubled_quote h = if_true (b == q) (b ∷ b ∷ doubled q bs) (b ∷ doubled q bs) h

  pub doubled_other : (b == q) ≡ false → doubled q (b ∷ bs) ≡ b ∷ doubled q bs
  doubled_other h = if_false (b == q) (b ∷ b ∷ doubled q bs) (b ∷ doubled q bs) h

pub doubled-append : (q : ℕ) (xs ys : List ℕ) → doubled q (xs ++ ys) ≡ doubled q xs ++ doubled q ys
doubled-append q [] ys = refl
doubled-append q (x ∷ xs) ys = elim (decided (x == q)) [
  | inl h ↦ doubled_quote q x (xs ++ ys) h ∙ ap (λ (zs : List ℕ). x ∷ x ∷ zs) (doubled-append q xs ys) ∙ ap (λ (zs : List ℕ). zs ++ doubled q ys) (sym (doubled_quote q x xs h))
  | inr h ↦ doubled_other q x (xs ++ ys) h ∙ ap (λ (zs : List ℕ). x ∷ zs) (doubled-append q xs ys) ∙ ap (λ (zs : List ℕ). zs ++ doubled q ys) (sym (doubled_other q x xs h))
]

-- what is spelled from here on
abbrev spelled : ℕ → List ℕ → List ℕ → List ℕ
spelled q content rest = doubled q content ++ q ∷ rest

-- ---- one character

-- the content begins with the character that comes next
pub record Goes (q b : ℕ) (left more rest : List ℕ) : Type 0 where
  pub others : List ℕ
  pub is : more ≡ b ∷ others
  pub closes : Closes q left others rest

module _ (q b : ℕ) (left rest : List ℕ) (whole : Stops (λ c. c == q) rest) where
  -- the next character is the quote, twice
  twice : (more : List ℕ) → (b == q) ≡ true → b ∷ b ∷ left ≡ spelled q more rest → Goes q b left more rest
  twice [] h e = let rest_is : b ∷ left ≡ rest = cc in both_ways (b == q) h (subst (λ (x : List ℕ). Stops (λ c. c == q) x) (sym rest_is) whole)
  twice (x ∷ xs) h e = elim (decided (x == q)) [
    | inl k ↦
        let f : b ∷ b ∷ left ≡ x ∷ x ∷ spelled q xs rest = e ∙ ap (λ (zs : List ℕ). zs ++ q ∷ rest) (doubled_quote q x xs k) in
        let same : b ≡ x = cc in
        let tails : left ≡ spelled q xs rest = cc in
        record { others = xs; is = ap (λ (y : ℕ). y ∷ xs) (sym same); closes = record { split = tails; whole = whole } }
    | inr k ↦
        let f : b ∷ b ∷ left ≡ x ∷ spelled q xs rest = e ∙ ap (λ (zs : List ℕ). zs ++ q ∷ rest) (doubled_other q x xs k) in
        let same : b ≡ x = cc in
        both_ways (x == q) (subst (λ (y : ℕ). (y == q) ≡ true) same h) k
  ]

  -- the next character is another
  once : (more : List ℕ) → (b == q) ≡ false → b ∷ left ≡ spelled q more rest → Goes q b left more rest
  once [] h e = let same : b ≡ q = cc in both_ways (q == q) (is_itself q) (subst (λ (y : ℕ). (y == q) ≡ false) same h)
  once (x ∷ xs) h e = elim (decided (x == q)) [
    | inl k ↦
        let f : b ∷ left ≡ x ∷ x ∷ spelled q xs rest = e ∙ ap (λ (zs : List ℕ). zs ++ q ∷ rest) (doubled_quote q x xs k) in
        let same : b ≡ x = cc in
        both_ways (x == q) k (subst (λ (y : ℕ). (y == q) ≡ false) same h)
    | inr k ↦
        let f : b ∷ left ≡ x ∷ spelled q xs rest = e ∙ ap (λ (zs : List ℕ). zs ++ q ∷ rest) (doubled_other q x xs k) in
        let same : b ≡ x = cc in
        let tails : left ≡ spelled q xs rest = cc in
        record { others = xs; is = ap (λ (y : ℕ). y ∷ xs) (sym same); closes = record { split = tails; whole = whole } }
  ]

goes : (q b : ℕ) (bytes left more rest : List ℕ) → bytes ≡ doubled q (b ∷ []) ++ left → Closes q bytes more rest → Goes q b left more rest
goes q b bytes left more rest e c = elim (decided (b == q)) [
  | inl h ↦ twice q b left rest c.whole more h (sym (e ∙ ap (λ (x : List ℕ). x ++ left) (doubled_quote q b [] h)) ∙ c.split)
  | inr h ↦ once q b left rest c.whole more h (sym (e ∙ ap (λ (x : List ℕ). x ++ left) (doubled_other q b [] h)) ∙ c.split)
]

-- ---- so far

-- This content was read from the bytes, up to the rest.
pub record IsReadSo (q : ℕ) (bytes content rest : List ℕ) : Type 0 where
  pub split : bytes ≡ doubled q content ++ rest
  pub only : (whole behind : List ℕ) → Closes q bytes whole behind → (more : List ℕ) × (whole ≡ content ++ more) × Closes q rest more behind

pub none_read : (q : ℕ) (bytes : List ℕ) → IsReadSo q bytes [] bytes
none_read q bytes = record { split = refl; only = λ whole behind c. (whole, refl, c) }

pub one_read : (q b : ℕ) (bytes content rest longer left : List ℕ) → IsReadSo q bytes content rest → rest ≡ doubled q (b ∷ []) ++ left → longer ≡ content ++ b ∷ [] → IsReadSo q bytes longer left
one_read q b bytes content rest longer left so e f = record {
  split = so.split ∙ ap (λ (x : List ℕ). doubled q content ++ x) e ∙ sym (append_assoc (doubled q content) (doubled q (b ∷ [])) left)
      ∙ ap (λ (x : List ℕ). x ++ left) (sym (doubled-append q content (b ∷ []))) ∙ ap (λ (x : List ℕ). doubled q x ++ left) (sym f);
  only = λ whole behind c.
      let before = so.only whole behind c in
      let g = goes q b rest left before.0 behind e before.2 in
      (g.others, before.1 ∙ ap (λ (x : List ℕ). content ++ x) g.is ∙ sym (append_assoc content (b ∷ []) g.others) ∙ ap (λ (x : List ℕ). x ++ g.others) (sym f), g.closes);
}

pub closed : (q : ℕ) (bytes content rest left : List ℕ) → IsReadSo q bytes content rest → rest ≡ q ∷ left → Stops (λ c. c == q) left → Closes q bytes content left
closed q bytes content rest left so e whole = record { split = so.split ∙ ap (λ (x : List ℕ). doubled q content ++ x) e; whole = whole }

never_closed : (q : ℕ) (more rest : List ℕ) → [] ≡ spelled q more rest → ⊥
never_closed q [] rest e = absurd cc
never_closed q (x ∷ xs) rest e = elim (decided (x == q)) [
  | inl k ↦ let f : [] ≡ x ∷ x ∷ spelled q xs rest = e ∙ ap (λ (zs : List ℕ). zs ++ q ∷ rest) (doubled_quote q x xs k) in absurd cc
  | inr k ↦ let f : [] ≡ x ∷ spelled q xs rest = e ∙ ap (λ (zs : List ℕ). zs ++ q ∷ rest) (doubled_other q x xs k) in absurd cc
]

pub unclosed : (q : ℕ) (bytes content rest : List ℕ) → IsReadSo q bytes content rest → rest ≡ [] → IsUnclosed q bytes
unclosed q bytes content rest so e whole behind c =
    let more = so.only whole behind c in
    let last = more.2 in
    never_closed q more.0 behind (sym e ∙ last.split)

-- ---- at most one

-- the content that the bytes begin with; the flag says that a quote came just before, which may be the closing one
abbrev pub content_at : ℕ → Bool → List ℕ → List ℕ
content_at q p [] = []
content_at q true (b ∷ bs) = if b == q then b ∷ content_at q false bs else []
content_at q false (b ∷ bs) = if b == q then content_at q true bs else b ∷ content_at q false bs

at_closing : (q : ℕ) (rest : List ℕ) → Stops (λ c. c == q) rest → content_at q true rest ≡ []
at_closing q [] h = refl
at_closing q (x ∷ xs) h = if_false (x == q) (x ∷ content_at q false xs) [] h

pub content_of : (q : ℕ) (content rest : List ℕ) → Stops (λ c. c == q) rest → content_at q false (doubled q content ++ q ∷ rest) ≡ content
content_of q [] rest whole = if_true (q == q) (content_at q true rest) (q ∷ content_at q false rest) (is_itself q) ∙ at_closing q rest whole
content_of q (x ∷ xs) rest whole = elim (decided (x == q)) [
  | inl h ↦
      ap (λ (zs : List ℕ). content_at q false (zs ++ q ∷ rest)) (doubled_quote q x xs h)
      ∙ if_true (x == q) (content_at q true (x ∷ spelled q xs rest)) (x ∷ content_at q false (x ∷ spelled q xs rest)) h
      ∙ if_true (x == q) (x ∷ content_at q false (spelled q xs rest)) [] h
      ∙ ap (λ (zs : List ℕ). x ∷ zs) (content_of q xs rest whole)
  | inr h ↦
      ap (λ (zs : List ℕ). content_at q false (zs ++ q ∷ rest)) (doubled_other q x xs h)
      ∙ if_false (x == q) (content_at q true (spelled q xs rest)) (x ∷ content_at q false (spelled q xs rest)) h
      ∙ ap (λ (zs : List ℕ). x ∷ zs) (content_of q xs rest whole)
]
