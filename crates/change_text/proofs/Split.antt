-- Lists that are cut at the first or at the last of one byte.
use Rattle.std.proofs.Common.{◌≡◌, ◌≢◌, ◌∙◌, ℕ, suc, ◌<◌, Bool, true, false, List, [], ◌∷◌, ◌++◌, length, take, drop, get_or, refl, sym, ap, subst, arith, drop-cons, take-append-drop, ◌==◌, eqb, eq-eqb, eqb-true, true≢false, ◌||◌}
use Rattle.std.specs.List.{list_any}
use Rattle.std.specs.Str.{bytes_eq}
use Rattle.std.proofs.lemmas.Slice.Eq.{bytes_eq-Decides}
use Rattle.std.proofs.lemmas.List.Elements.{All-append, All-cons, All-head, All-nil, All-tail}
use Rattle.change_text.specs.Inside.{Lacks}

module _ {X : Type 0} where
  pub same_head : {x y : X} {xs ys : List X} → x ∷ xs ≡ y ∷ ys → x ≡ y
  same_head e = cc

  pub same_tail : {x y : X} {xs ys : List X} → x ∷ xs ≡ y ∷ ys → xs ≡ ys
  same_tail e = cc

  pub same_cons : {x y : X} {xs ys : List X} → x ≡ y → xs ≡ ys → x ∷ xs ≡ y ∷ ys
  same_cons p q = cc

pub lacks_head : (s b : ℕ) (bs : List ℕ) → Lacks s (b ∷ bs) → b ≢ s
lacks_head s b bs h = All-head (λ (x : ℕ). x ≢ s) b bs h

pub lacks_tail : (s b : ℕ) (bs : List ℕ) → Lacks s (b ∷ bs) → Lacks s bs
lacks_tail s b bs h = All-tail (λ (x : ℕ). x ≢ s) b bs h

pub lacks_cons : (s b : ℕ) (bs : List ℕ) → b ≢ s → Lacks s bs → Lacks s (b ∷ bs)
lacks_cons s b bs p h = All-cons (λ (x : ℕ). x ≢ s) b bs p h

pub lacks_nil : (s : ℕ) → Lacks s []
lacks_nil s = All-nil (λ (x : ℕ). x ≢ s)

pub lacks_append : (s : ℕ) (xs ys : List ℕ) → Lacks s xs → Lacks s ys → Lacks s (xs ++ ys)
lacks_append s xs ys p q = All-append (λ (x : ℕ). x ≢ s) xs ys p q

pub lacks_same : (s : ℕ) (xs ys : List ℕ) → xs ≡ ys → Lacks s xs → Lacks s ys
lacks_same s xs ys e h = subst (λ (zs : List ℕ). Lacks s zs) e h

pub lacks_front : (s : ℕ) (xs ys : List ℕ) → Lacks s (xs ++ ys) → Lacks s xs
lacks_front s [] ys h = lacks_nil s
lacks_front s (x ∷ xs) ys h = lacks_cons s x xs (lacks_head s x (xs ++ ys) h) (lacks_front s xs ys (lacks_tail s x (xs ++ ys) h))

pub lacks_back : (s : ℕ) (xs ys : List ℕ) → Lacks s (xs ++ ys) → Lacks s ys
lacks_back s [] ys h = h
lacks_back s (x ∷ xs) ys h = lacks_back s xs ys (lacks_tail s x (xs ++ ys) h)

-- a list that has the byte doesn't lack it
pub has : (s : ℕ) (xs ys zs : List ℕ) → Lacks s zs → zs ≡ xs ++ s ∷ ys → ⊥
has s xs ys zs h e = lacks_head s s ys (lacks_back s xs (s ∷ ys) (lacks_same s zs (xs ++ s ∷ ys) e h)) refl

-- one of the bytes is told by a test
one_lacks : (s b : ℕ) (bs : List ℕ) → (eqb b s ≡ false → Lacks s bs → Lacks s (b ∷ bs))
one_lacks s b bs e h = lacks_cons s b bs (λ f. true≢false (sym (eq-eqb b s f) ∙ e)) h

no_or : (x y : Bool) → (x || y) ≡ false → (x ≡ false) × (y ≡ false)
no_or true y e = absurd cc
no_or false y e = (refl, e)

pub lacks_by_test : (s : ℕ) (bs : List ℕ) → list_any (λ b. eqb b s) bs ≡ false → Lacks s bs
lacks_by_test s [] e = lacks_nil s
lacks_by_test s (b ∷ bs) e = let k = no_or (eqb b s) (list_any (λ c. eqb c s) bs) e in one_lacks s b bs k.0 (lacks_by_test s bs k.1)

pub first_split : (s : ℕ) (a b x y : List ℕ) → Lacks s a → Lacks s b → a ++ s ∷ x ≡ b ++ s ∷ y → (a ≡ b) × (x ≡ y)
first_split s [] [] x y p q e = (refl, same_tail e)
first_split s [] (c ∷ b) x y p q e = absurd (lacks_head s c b q (sym (same_head e)))
first_split s (c ∷ a) [] x y p q e = absurd (lacks_head s c a p (same_head e))
first_split s (c ∷ a) (d ∷ b) x y p q e =
    let r = first_split s a b x y (lacks_tail s c a p) (lacks_tail s d b q) (same_tail e) in (same_cons (same_head e) r.0, r.1)

pub last_split : (s : ℕ) (a b x y : List ℕ) → Lacks s x → Lacks s y → a ++ s ∷ x ≡ b ++ s ∷ y → (a ≡ b) × (x ≡ y)
last_split s [] [] x y p q e = (refl, same_tail e)
last_split s [] (c ∷ b) x y p q e = absurd (has s b y x p (same_tail e))
last_split s (c ∷ a) [] x y p q e = absurd (has s a x y q (sym (same_tail e)))
last_split s (c ∷ a) (d ∷ b) x y p q e = let r = last_split s a b x y p q (same_tail e) in (same_cons (same_head e) r.0, r.1)

-- ---- what a search found

pub cut_at : (s i : ℕ) (bytes : List ℕ) → i < length bytes → get_or bytes i 0 ≡ s → bytes ≡ take i bytes ++ s ∷ drop (suc i) bytes
cut_at s i bytes lt is =
    sym (take-append-drop i bytes) ∙ ap (λ (rest : List ℕ). take i bytes ++ rest) (drop-cons bytes i 0 lt ∙ ap (λ (b : ℕ). b ∷ drop (suc i) bytes) is)

-- ---- what a comparison says

pub some_items : {X : Type 0} (xs : List X) → (length xs == 0) ≡ false → 0 < length xs
some_items [] e = absurd cc
some_items (x ∷ xs) e = omega arith

pub no_items : {X : Type 0} (xs : List X) → (length xs == 0) ≡ true → length xs ≡ 0
no_items xs e = eqb-true (length xs) 0 e

pub is_text : (xs ys zs : List ℕ) → true ≡ bytes_eq xs ys → ys ≡ zs → xs ≡ zs
is_text xs ys zs e f = (bytes_eq-Decides xs ys).0 (sym e) ∙ f

pub other_text : (xs ys zs : List ℕ) → false ≡ bytes_eq xs ys → ys ≡ zs → xs ≡ zs → ⊥
other_text xs ys zs e f g = true≢false (sym ((bytes_eq-Decides xs ys).1 (g ∙ sym f)) ∙ sym e)
