-- The run of bytes at the front of a list that pass a test.
use Rattle.std.proofs.Common.{◌≡◌, ◌≢◌, ◌⊎◌, inl, inr, ◌+◌, ℕ, suc, Bool, true, false, cond, List, [], ◌∷◌, ◌++◌, length, take, drop, refl, ap, ◌∙◌, arith}
use Rattle.std.proofs.lemmas.Bool.Decides.{nat_tests}
use Rattle.std.specs.Prelude.{◌&&◌, ◌||◌, ◌==◌, if◌then◌else◌}
use Rattle.std.specs.List.{list_all, prefix_len}
use Rattle.std.proofs.lemmas.List.{take_at, drop_at}
use Rattle.gvdl_tokens.specs.Characters.{Stops}

pub both : (x y : Bool) → (x && y) ≡ true → (x ≡ true) × (y ≡ true)
both true y e = (refl, e)
both false y e = absurd cc

pub one_of : (x y : Bool) → (x || y) ≡ true → (x ≡ true) ⊎ (y ≡ true)
one_of true y e = inl refl
one_of false y e = inr e

pub if_true : {A : Type 0} (x : Bool) (a b : A) → x ≡ true → (if x then a else b) ≡ a
if_true true a b e = refl
if_true false a b e = absurd cc

pub if_false : {A : Type 0} (x : Bool) (a b : A) → x ≡ false → (if x then a else b) ≡ b
if_false true a b e = absurd cc
if_false false a b e = refl

pub one_more : (n : ℕ) → 1 + n ≡ suc n
one_more n = omega arith

passing : (x : Bool) (p : ℕ → Bool) (b : ℕ) (bs : List ℕ) (n : ℕ) → p b ≡ x → list_all p (take n bs) ≡ true → list_all p (take (cond x (1 + n) 0) (b ∷ bs)) ≡ true
passing true p b bs n e h = rw (one_more, e) h
passing false p b bs n e h = refl

pub run_passes : (p : ℕ → Bool) (bs : List ℕ) → list_all p (take (prefix_len p bs) bs) ≡ true
run_passes p [] = refl
run_passes p (b ∷ bs) = passing (p b) p b bs (prefix_len p bs) refl (run_passes p bs)

stopping : (x : Bool) (p : ℕ → Bool) (b : ℕ) (bs : List ℕ) (n : ℕ) → p b ≡ x → Stops p (drop n bs) → Stops p (drop (cond x (1 + n) 0) (b ∷ bs))
stopping true p b bs n e h = rw one_more h
stopping false p b bs n e h = e

pub run_stops : (p : ℕ → Bool) (bs : List ℕ) → Stops p (drop (prefix_len p bs) bs)
run_stops p [] = tt
run_stops p (b ∷ bs) = stopping (p b) p b bs (prefix_len p bs) refl (run_stops p bs)

pub cond_true : (x : Bool) (m n : ℕ) → x ≡ true → cond x m n ≡ m
cond_true true m n e = refl
cond_true false m n e = absurd cc

pub cond_false : (x : Bool) (m n : ℕ) → x ≡ false → cond x m n ≡ n
cond_false true m n e = absurd cc
cond_false false m n e = refl

-- bytes that pass, and then one that does not, or the end
pub run_is : (p : ℕ → Bool) (s r : List ℕ) → list_all p s ≡ true → Stops p r → prefix_len p (s ++ r) ≡ length s
run_is p [] [] h stops = refl
run_is p [] (b ∷ r) h stops = cond_false (p b) (1 + prefix_len p r) 0 stops
run_is p (b ∷ s) r h stops =
    let k = both (p b) (list_all p s) h in
    cond_true (p b) (1 + prefix_len p (s ++ r)) 0 k.0 ∙ one_more (prefix_len p (s ++ r)) ∙ ap suc (run_is p s r k.1 stops)

module _ (p : ℕ → Bool) (bytes s r : List ℕ) (split : bytes ≡ s ++ r) (passes : list_all p s ≡ true) (stops : Stops p r) where
  run_len : prefix_len p bytes ≡ length s
  run_len = ap (prefix_len p) split ∙ run_is p s r passes stops

  pub run_of : take (prefix_len p bytes) bytes ≡ s
  run_of = rw (run_len, split) (take_at s r (length s) refl)

  pub behind_run : drop (prefix_len p bytes) bytes ≡ r
  behind_run = rw (run_len, split) (drop_at s r (length s) refl)

pub empty : {A : Type 0} (xs : List A) → (length xs == 0) ≡ true → xs ≡ []
empty [] e = refl
empty (x ∷ xs) e = absurd (grind (arith, nat_tests))

pub not_empty : {A : Type 0} (xs : List A) → (length xs == 0) ≡ false → xs ≢ []
not_empty [] e f = absurd cc
not_empty (x ∷ xs) e f = let no_way : x ∷ xs ≡ [] = f in absurd cc
