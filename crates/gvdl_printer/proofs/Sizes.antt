-- How long the canonical text of a script is: at most twice as long as a text that is the script.
use Rattle.std.proofs.Common.{◌≡◌, ◌∙◌, ◌+◌, ◌*◌, ◌≤◌, ◌<◌, ◌^◌, inl, inr, ℕ, Bool, true, false, List, [], ◌∷◌, ◌++◌, length, drop, refl, sym, ap, subst, length-append, arith}
use Rattle.std.specs.Prelude.{◌||◌, ◌==◌, nat_eq, if◌then◌else◌}
use Rattle.std.specs.List.{flat_map, list_all, starts_with}
use Rattle.std.specs.Fmt.{decimal}
use Rattle.std.specs.Char.{digit_value}
use Rattle.std.specs.Str.Parse.{digits_value, AllDigits}
use Rattle.std.proofs.lemmas.Bool.Decides.{nat_tests}
use Rattle.std.proofs.lemmas.List.{length-drop}
use Rattle.std.proofs.lemmas.Fmt.{length-decimal-le}
use Rattle.std.proofs.lemmas.Int.Digits.{digits_value-lt}
use Rattle.gvdl_tokens.specs.declared.token.Token.{Token}
use Rattle.gvdl_tokens.specs.declared.token.Token.TheVariants as t
use Rattle.gvdl_tokens.specs.declared.token.Sign.{Sign}
use Rattle.gvdl_tokens.specs.declared.token.Sign.TheVariants as s
use Rattle.gvdl_tokens.specs.declared.place.Place.{Place}
use Rattle.gvdl_tokens.specs.declared.tokens.Ending.{Ending}
use Rattle.gvdl_tokens.specs.declared.tokens.Tokens.{Tokens}
use Rattle.gvdl_tokens.specs.Characters.{is_digit}
use Rattle.gvdl_tokens.specs.Spelling.{word_spelling, sign_spelling, IsName, IsDigits, doubled, enclosed, Spells}
use Rattle.gvdl_tokens.specs.Tokens.{Lexes, HasTokens, byte_order_mark, unmarked}
use Rattle.gvdl_tokens.specs.Printing.{spell}
use Rattle.gvdl_printer.specs.Names.{reserved_words, is_spelled, is_name}
use Rattle.gvdl_printer.specs.Layout.{Piece, tokens, space_unless, starts_close, ends_close, laid, line}
use Rattle.gvdl_printer.proofs.NameTests.{decided, both, each_spelled, name_is}
use Rattle.gvdl_printer.proofs.Better.{total, total-append, IsFair}
use Rattle.gvdl_printer.proofs.Layouts.{Starts}

-- ---- what a token takes in a canonical text, with a byte between it and the next

-- `rounds` is written in place of `round`, which has 5 letters and is one shorter
abbrev word_size : ℕ → ℕ
word_size k = if k == 5 then 7 else k + 1

-- a name stands in quotes where it is none
abbrev name_size : Bool → List ℕ → ℕ
name_size bare p = if bare then length p + 1 else length (enclosed 34 p) + 1

abbrev pub size : Token → ℕ
size (t.Name p) = name_size (is_name p) p
size (t.Quoted p) = length (enclosed 34 p) + 1
size (t.Number n) = length (decimal n) + 1
size (t.Str text) = length (enclosed 39 text) + 1
size (t.Word w) = word_size (length (word_spelling w))
size (t.Sign s) = length (sign_spelling s) + 1
size t.End = 1

doubled_longer : (q : ℕ) (p : List ℕ) → length p ≤ length (doubled q p)
doubled_longer q [] = omega arith
doubled_longer q (b ∷ p) = elim (decided (b == q)) [
  | inl e ↦ let more = doubled_longer q p in subst (λ (x : Bool). length (b ∷ p) ≤ length (if x then b ∷ b ∷ doubled q p else b ∷ doubled q p)) (sym e) (omega (arith, more))
  | inr e ↦ let more = doubled_longer q p in subst (λ (x : Bool). length (b ∷ p) ≤ length (if x then b ∷ b ∷ doubled q p else b ∷ doubled q p)) (sym e) (omega (arith, more))
]

enclosed_longer : (q : ℕ) (p : List ℕ) → length p + 2 ≤ length (enclosed q p)
enclosed_longer q p = let more = doubled_longer q p in let whole : length (doubled q p ++ q ∷ []) ≡ length (doubled q p) + 1 = length-append (doubled q p) (q ∷ []) in omega (arith, more, whole)

pub size_fair : IsFair size
size_fair = record {
  bare = λ p e. let longer = enclosed_longer 34 p in subst (λ (x : Bool). name_size x p ≤ length (enclosed 34 p) + 1) (sym e) (omega (arith, longer));
  quoted = λ p e. subst (λ (x : Bool). length (enclosed 34 p) + 1 ≤ name_size x p) (sym e) (omega arith);
  rounds = omega arith;
}

pub one_fair : IsFair (λ x. 1)
one_fair = record { bare = λ p e. omega arith; quoted = λ p e. omega arith; rounds = omega arith }

pub total-ones : (ts : List Token) → total (λ x. 1) ts ≡ length ts
total-ones [] = refl
total-ones (x ∷ ts) = let more = total-ones ts in omega (arith, more)

-- ---- a token's own spelling is no longer than that

word_least : (k : ℕ) → k + 1 ≤ word_size k
word_least k = grind (arith, nat_tests)

name_least : (bare : Bool) (p : List ℕ) → length p + 1 ≤ name_size bare p
name_least true p = omega arith
name_least false p = let longer = enclosed_longer 34 p in omega (arith, longer)

spelled_within : (x : Token) → length (spell x) + 1 ≤ size x
spelled_within (t.Name p) = name_least (is_name p) p
spelled_within (t.Quoted p) = omega arith
spelled_within (t.Number n) = omega arith
spelled_within (t.Str text) = omega arith
spelled_within (t.Word w) = word_least (length (word_spelling w))
spelled_within (t.Sign s) = omega arith
spelled_within t.End = omega arith

-- ---- that is no more than twice the bytes of any spelling

word_most : (k : ℕ) → 0 < k → word_size k ≤ 2 * k
word_most k some = grind (arith, nat_tests, some)

word_some : (bytes : List ℕ) → is_spelled reserved_words bytes ≡ true → 0 < length bytes
word_some [] h = absurd cc
word_some (b ∷ bytes) h = omega arith

name_some : (bytes : List ℕ) → IsName bytes → 0 < length bytes
name_some [] h = absurd h.0
name_some (b ∷ bytes) h = omega arith

sign_some : (s : Sign) → 0 < length (sign_spelling s)
sign_some s.Semicolon = omega arith
sign_some s.Comma = omega arith
sign_some s.Colon = omega arith
sign_some s.Dot = omega arith
sign_some s.Open = omega arith
sign_some s.Close = omega arith
sign_some s.OpenBracket = omega arith
sign_some s.CloseBracket = omega arith
sign_some s.OpenBrace = omega arith
sign_some s.CloseBrace = omega arith
sign_some s.Plus = omega arith
sign_some s.Minus = omega arith
sign_some s.Star = omega arith
sign_some s.Slash = omega arith
sign_some s.Equal = omega arith
sign_some s.NotEqual = omega arith
sign_some s.Less = omega arith
sign_some s.AtMost = omega arith
sign_some s.Greater = omega arith
sign_some s.AtLeast = omega arith

digit_below : (b : ℕ) → is_digit b ≡ true → digit_value b < 10
digit_below b h = grind (arith, nat_tests)

all_digits : (ds : List ℕ) → list_all is_digit ds ≡ true → AllDigits 10 ds
all_digits [] h = tt
all_digits (b ∷ ds) h = let k = both (is_digit b) (list_all is_digit ds) h in (digit_below b k.0, all_digits ds k.1)

-- the digits of a number without leading zeros are no more than any that say it
number_most : (n : ℕ) (bytes : List ℕ) → IsDigits bytes → n ≡ digits_value 10 bytes → n < 2 ^ 63 → length (decimal n) + 1 ≤ 2 * length bytes
number_most n [] h is small = absurd h
number_most n (b ∷ ds) h is small =
    let below : digits_value 10 (b ∷ ds) < 10 ^ length (b ∷ ds) = digits_value-lt 10 (b ∷ ds) (digit_below b h.0, all_digits ds h.1) in
    let le : length (decimal n) ≤ length (b ∷ ds) = length-decimal-le (length (b ∷ ds)) n (omega arith) (subst (λ (x : ℕ). x < 10 ^ length (b ∷ ds)) (sym is) below) (omega (arith, small)) in
    omega (arith, le)

size_within : (x : Token) (bytes : List ℕ) → Spells x bytes → size x ≤ 2 * length bytes
size_within (t.Name p) bytes h =
    let some : 0 < length bytes = name_some bytes h.1 in
    let same : length bytes ≡ length p = ap (λ (x : List ℕ). length x) h.0 in
    subst (λ (x : Bool). name_size x p ≤ 2 * length bytes) (sym (ap is_name (sym h.0) ∙ name_is bytes h.1)) (omega (arith, some, same))
size_within (t.Quoted p) bytes h = let longer = enclosed_longer 34 p in let same : length bytes ≡ length (enclosed 34 p) = ap (λ (x : List ℕ). length x) h.0 in omega (arith, longer, same)
size_within (t.Number n) bytes h = number_most n bytes h.0 h.1 h.2
size_within (t.Str text) bytes h = let longer = enclosed_longer 39 text in let same : length bytes ≡ length (enclosed 39 text) = ap (λ (x : List ℕ). length x) h in omega (arith, longer, same)
size_within (t.Word w) bytes h = subst (λ (x : List ℕ). word_size (length (word_spelling w)) ≤ 2 * length x) (sym h) (word_most (length (word_spelling w)) (word_some (word_spelling w) (each_spelled w)))
size_within (t.Sign s) bytes h = let some = sign_some s in let same : length bytes ≡ length (sign_spelling s) = ap (λ (x : List ℕ). length x) h in omega (arith, some, same)
size_within t.End bytes h = absurd h

-- ---- the tokens of a text

lexed_within : (before bytes : List ℕ) (ts : List Token) (places : List Place) (end : Ending) → Lexes before bytes ts places end → total size ts ≤ 2 * length bytes
lexed_within before bytes [] places end l = omega arith
lexed_within before bytes (x ∷ ts) [] end l = absurd l
lexed_within before bytes (x ∷ ts) (p ∷ places) end l =
    let n = l.1 in
    let first : size x ≤ 2 * length n.front.spelling = size_within x n.front.spelling n.front.spells in
    let more : total size ts ≤ 2 * length l.0 = lexed_within (before ++ n.gap ++ n.front.spelling) l.0 ts places end l.3 in
    let whole : length bytes ≡ length n.gap + length n.behind = ap (λ (y : List ℕ). length y) n.split ∙ length-append n.gap n.behind in
    let front : length n.behind ≡ length n.front.spelling + length l.0 = ap (λ (y : List ℕ). length y) n.front.split ∙ length-append n.front.spelling l.0 in
    omega (arith, first, more, whole, front)

unmarked_within : (text : List ℕ) → length (unmarked text) ≤ length text
unmarked_within text = by_mark (starts_with nat_eq text byte_order_mark) where
  by_mark : (marked : Bool) → length (if marked then drop 3 text else text) ≤ length text
  by_mark true = let cut = length-drop 3 text in omega (arith, cut)
  by_mark false = omega arith

pub tokens_within : (text : List ℕ) (all : Tokens) → HasTokens text all → total size all.tokens ≤ 2 * length text
tokens_within text all has =
    let some = unmarked_within text in
    let le = lexed_within [] (unmarked text) all.tokens all.places all.ending has.lexed in
    omega (arith, some, le)

-- ---- lines

space_within : (close : Bool) → length (space_unless close) ≤ 1
space_within true = omega arith
space_within false = omega arith

laid_within : (close : Bool) (pieces : List Piece) → length (laid close pieces) ≤ total size (tokens pieces)
laid_within close [] = omega arith
laid_within close (x ∷ more) =
    let space : List ℕ = space_unless (close || starts_close x.token x.tight) in
    let rest : List ℕ = laid (ends_close x.token x.tight) more in
    let a : length (space ++ (spell x.token ++ rest)) ≡ length space + length (spell x.token ++ rest) = length-append space (spell x.token ++ rest) in
    let b : length (spell x.token ++ rest) ≡ length (spell x.token) + length rest = length-append (spell x.token) rest in
    let one : length space ≤ 1 = space_within (close || starts_close x.token x.tight) in
    let le = spelled_within x.token in
    let more_le : length rest ≤ total size (tokens more) = laid_within (ends_close x.token x.tight) more in
    omega (arith, a, b, one, le, more_le)

-- the end of a line stands in place of the space before its first token
pub line_within : (pieces : List Piece) → Starts pieces → length (line pieces) ≤ total size (tokens pieces)
unfolding Starts
line_within [] some = absurd some
line_within (x ∷ more) some =
    let rest : List ℕ = laid (ends_close x.token x.tight) more in
    let a : length ((spell x.token ++ rest) ++ 10 ∷ []) ≡ length (spell x.token ++ rest) + 1 = length-append (spell x.token ++ rest) (10 ∷ []) in
    let b : length (spell x.token ++ rest) ≡ length (spell x.token) + length rest = length-append (spell x.token) rest in
    let le = spelled_within x.token in
    let more_le : length rest ≤ total size (tokens more) = laid_within (ends_close x.token x.tight) more in
    omega (arith, a, b, le, more_le)

pub lines_within : {A : Type 0} (f : A → List Piece) (starts : (x : A) → Starts (f x)) (xs : List A) → length (flat_map (λ x. line (f x)) xs) ≤ total size (flat_map (λ x. tokens (f x)) xs)
lines_within f starts [] = omega arith
lines_within {A} f starts (x ∷ xs) =
    let bytes : List ℕ = flat_map (λ (x : A). line (f x)) xs in
    let ts : List Token = flat_map (λ (x : A). tokens (f x)) xs in
    let first = line_within (f x) (starts x) in
    let others : length bytes ≤ total size ts = lines_within f starts xs in
    let a : length (line (f x) ++ bytes) ≡ length (line (f x)) + length bytes = length-append (line (f x)) bytes in
    let b : total size (tokens (f x) ++ ts) ≡ total size (tokens (f x)) + total size ts = total-append size (tokens (f x)) ts in
    omega (arith, first, others, a, b)
