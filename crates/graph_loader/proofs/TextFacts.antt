-- A field that spells a number or a truth value is text.
use Rattle.std.proofs.Common.{◌≡◌, refl, ℕ, zero, suc, ◌<◌, ◌^◌, Bool, true, false, ◌&&◌, ◌||◌, ◌==◌, List, [], ◌∷◌, length, Option, Some, None, option_map, if◌then◌else◌, arith, lit<}
use Rattle.std.specs.Prelude.{ℤ, pos, neg_ℤ, codes, nat_le, nat_lt}
use Rattle.std.specs.Char.{is_ascii_digit}
use Rattle.std.specs.List.{list_all}
use Rattle.std.specs.Str.{IsUtf8, IsAscii, is_utf8, bytes_eq}
use Rattle.std.proofs.lemmas.Str.{IsUtf8-from_is_utf8, is_utf8-from_IsUtf8, IsUtf8-from_ascii}
use Rattle.std.proofs.lemmas.Bool.Decides.{nat_tests}
use Rattle.std.proofs.lemmas.Slice.Eq.{bytes_eq-Decides}
use Rattle.graph_loader.specs.Spelling.{id_spelled, int_spelled, bool_spelled, is_number, is_true_word, is_false_word, decimal, minus_sign}

pub no-text : (field : List ℕ) → (IsUtf8 field → ⊥) → is_utf8 field ≡ false
no-text field h = cases (is_utf8 field) refl where
  cases : (t : Bool) → is_utf8 field ≡ t → is_utf8 field ≡ false
  cases true e = absurd (h (IsUtf8-from_is_utf8 field e))
  cases false e = e

both : (a b : Bool) → (a && b) ≡ true → (a ≡ true) × (b ≡ true)
both true b e = (refl, e)
both false b e = absurd (cc)

-- ---- ASCII

ascii-cons : (x : ℕ) (xs : List ℕ) → x < 128 → IsAscii xs → IsAscii (x ∷ xs)
ascii-cons x xs lt h zero = lt
ascii-cons x xs lt h (suc i) = h i

digit-small : (x : ℕ) → is_ascii_digit x ≡ true → x < 128
digit-small x e = let h = both (nat_le 48 x) (nat_le x 57) e in small h.1 where
  small : nat_le x 57 ≡ true → x < 128
  small t = grind (arith, nat_tests)

digits-ascii : (xs : List ℕ) → list_all is_ascii_digit xs ≡ true → IsAscii xs
digits-ascii [] e = λ i. lit< tt
digits-ascii (x ∷ xs) e = let h = both (is_ascii_digit x) (list_all is_ascii_digit xs) e in ascii-cons x xs (digit-small x h.0) (digits-ascii xs h.1)

number-ascii : (xs : List ℕ) → is_number xs ≡ true → IsAscii xs
number-ascii xs e =
    let h = both (nat_le 1 (length xs) && nat_le (length xs) 19 && list_all is_ascii_digit xs) (nat_lt (decimal xs) (2 ^ 63)) e in
    digits-ascii xs (both (nat_le 1 (length xs) && nat_le (length xs) 19) (list_all is_ascii_digit xs) h.0).1

ascii-text : (xs : List ℕ) → IsAscii xs → is_utf8 xs ≡ true
ascii-text xs h = is_utf8-from_IsUtf8 xs (IsUtf8-from_ascii xs h)

small-ascii : (xs : List ℕ) → list_all (λ x. nat_lt x 128) xs ≡ true → IsAscii xs
small-ascii [] e = λ i. lit< tt
small-ascii (x ∷ xs) e = let h = both (nat_lt x 128) (list_all (λ x. nat_lt x 128) xs) e in ascii-cons x xs (below h.0) (small-ascii xs h.1) where
  below : nat_lt x 128 ≡ true → x < 128
  below t = grind (arith, nat_tests)

-- ---- numbers

spelled : {A B : Type 0} (f : ℕ → A) (g : A → B) (t : Bool) (n : ℕ) (y : B) → option_map g (option_map f (if t then Some n else None)) ≡ Some y → t ≡ true
spelled f g true n y e = refl
spelled f g false n y e = absurd (cc)

int-ascii : (field : List ℕ) (cell : Option ℤ) → int_spelled field ≡ Some cell → IsAscii field
int-ascii [] cell e = λ i. lit< tt
int-ascii (b ∷ rest) cell e = cases (b == minus_sign) refl e where
  small : (b == minus_sign) ≡ true → b < 128
  small t = grind (arith, nat_tests)

  cases : (t : Bool) → (b == minus_sign) ≡ t → option_map (λ z. Some z) (if t then option_map (λ n. neg_ℤ (pos n)) (id_spelled rest) else option_map (λ n. pos n) (id_spelled (b ∷ rest))) ≡ Some cell → IsAscii (b ∷ rest)
  cases true t e = ascii-cons b rest (small t) (number-ascii rest (spelled (λ n. neg_ℤ (pos n)) (λ z. Some z) (is_number rest) (decimal rest) cell e))
  cases false t e = number-ascii (b ∷ rest) (spelled (λ n. pos n) (λ z. Some z) (is_number (b ∷ rest)) (decimal (b ∷ rest)) cell e)

pub int-text : (field : List ℕ) (cell : Option ℤ) → int_spelled field ≡ Some cell → is_utf8 field ≡ true
int-text field cell e = ascii-text field (int-ascii field cell e)

-- ---- truth values

one-of : (a b c : Bool) (P : Type 0) → (a ≡ true → P) → (b ≡ true → P) → (c ≡ true → P) → (a || b || c) ≡ true → P
one-of true b c P f g h e = f refl
one-of false true c P f g h e = g refl
one-of false false true P f g h e = h refl
one-of false false false P f g h e = absurd (cc)

word-ascii : (word field : List ℕ) → list_all (λ x. nat_lt x 128) word ≡ true → bytes_eq field word ≡ true → IsAscii field
word-ascii word field small e = let same : field ≡ word = (bytes_eq-Decides field word).0 e in rw same (small-ascii word small)

true-ascii : (field : List ℕ) → is_true_word field ≡ true → IsAscii field
true-ascii field e =
    one-of (bytes_eq field (codes "true")) (bytes_eq field (codes "True")) (bytes_eq field (codes "TRUE")) (IsAscii field)
    (word-ascii (codes "true") field refl) (word-ascii (codes "True") field refl) (word-ascii (codes "TRUE") field refl) e

false-ascii : (field : List ℕ) → is_false_word field ≡ true → IsAscii field
false-ascii field e =
    one-of (bytes_eq field (codes "false")) (bytes_eq field (codes "False")) (bytes_eq field (codes "FALSE")) (IsAscii field)
    (word-ascii (codes "false") field refl) (word-ascii (codes "False") field refl) (word-ascii (codes "FALSE") field refl) e

bool-ascii : (field : List ℕ) (cell : Option Bool) → bool_spelled field ≡ Some cell → IsAscii field
bool-ascii [] cell e = λ i. lit< tt
bool-ascii (b ∷ rest) cell e = cases (is_true_word (b ∷ rest)) (is_false_word (b ∷ rest)) refl refl e where
  cases : (t f : Bool) → is_true_word (b ∷ rest) ≡ t → is_false_word (b ∷ rest) ≡ f
      → ◌≡◌ {A = Option (Option Bool)} (if t then Some (Some true) else if f then Some (Some false) else None) (Some cell) → IsAscii (b ∷ rest)
  cases true f p q e = true-ascii (b ∷ rest) p
  cases false true p q e = false-ascii (b ∷ rest) q
  cases false false p q e = absurd (cc)

pub bool-text : (field : List ℕ) (cell : Option Bool) → bool_spelled field ≡ Some cell → is_utf8 field ≡ true
bool-text field cell e = ascii-text field (bool-ascii field cell e)
