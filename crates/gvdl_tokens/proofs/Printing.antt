-- Tokens that are spelled one after the other are read as themselves.
use Rattle.std.proofs.Common.{◌≡◌, ◌≢◌, inl, inr, ◌<◌, ◌^◌, ℕ, Bool, true, false, List, [], ◌∷◌, ◌++◌, length, take, drop, refl, sym, ap, subst, ◌∙◌, lit<, arith}
use Rattle.std.specs.Prelude.{◌&&◌, ◌||◌, ◌==◌, nat_eq, map}
use Rattle.std.specs.List.{concat, list_all, starts_with}
use Rattle.std.specs.Str.{IsUtf8}
use Rattle.std.specs.Str.Parse.{digits_value}
use Rattle.std.specs.Fmt.{decimal}
use Rattle.std.proofs.lemmas.Bool.Decides.{nat_tests}
use Rattle.std.proofs.lemmas.List.{take_at}
use Rattle.std.proofs.lemmas.Str.{IsUtf8-append, IsUtf8-take, IsUtf8-from_ascii, IsCharBoundary-at_seam}
use Rattle.std.proofs.lemmas.Fmt.{digits_decimal, digits_value-decimal, decimal_nonempty, IsAscii-decimal}
use Rattle.std.proofs.lemmas.Str.Parse.{IsDigitsTest, IsNumeralModel, numerals_by_value}
use Rattle.gvdl_tokens.specs.declared.token.Token.{Token}
use Rattle.gvdl_tokens.specs.declared.token.Token.TheVariants as t
use Rattle.gvdl_tokens.specs.declared.token.Sign.{Sign}
use Rattle.gvdl_tokens.specs.declared.token.Sign.TheVariants as sign
use Rattle.gvdl_tokens.specs.declared.place.Place.{Place}
use Rattle.gvdl_tokens.specs.declared.tokens.Ending.{Ending}
use Rattle.gvdl_tokens.specs.declared.tokens.Ending.TheVariants as ending
use Rattle.gvdl_tokens.specs.Characters.{is_blank, is_digit, in_name, begins_name, Stops, IsSkipped, AreSkipped, IsGap, IsLastGap, place_behind}
use Rattle.gvdl_tokens.specs.Spelling.{word_spelling, sign_spelling, IsName, IsWordShaped, IsDigits, Spells, goes_on}
use Rattle.gvdl_tokens.specs.Tokens.{IsAtFront, IsNext, Lexes, byte_order_mark, unmarked}
use Rattle.gvdl_tokens.specs.Printing.{spell, IsPrintable, ArePrintable, first_passes, needs_gap, Laid, text_of, IsApart, IsLayout, IsLast, IsReadAgain, stands_close, is_closed}
use Rattle.gvdl_tokens.proofs.Runs.{both, if_false}
use Rattle.gvdl_tokens.proofs.Enclosing.{decided}
use Rattle.gvdl_tokens.proofs.Words.{word_shaped}
use Rattle.gvdl_tokens.proofs.Fronts.{is_skipped, spells_some}
use Rattle.gvdl_tokens.proofs.Utf8.{marked, past_gap, past_token}

-- ---- a token is spelled by its own spelling

digits_test : IsDigitsTest (λ ds. list_all is_digit ds ≡ true)
digits_test = record {
  empty = refl;
  parts = λ c cs h. let k = both (is_digit c) (list_all is_digit cs) h in (grind (arith, nat_tests, k.0), k.1);
  more = λ c cs r h. both_true (is_digit c) (list_all is_digit cs) (grind (arith, nat_tests, r)) h;
} where
  both_true : (x y : Bool) → x ≡ true → y ≡ true → (x && y) ≡ true
  both_true true y e f = f
  both_true false y e f = absurd cc

digits_own : IsNumeralModel (λ ds. list_all is_digit ds ≡ true) (digits_value 10)
digits_own = numerals_by_value (λ ds. list_all is_digit ds ≡ true) digits_test

are_digits : (ds : List ℕ) → 0 < length ds → list_all is_digit ds ≡ true → IsDigits ds
are_digits [] some h = absurd (omega arith)
are_digits (d ∷ ds) some h = both (is_digit d) (list_all is_digit ds) h

number_spelled : (n : ℕ) → n < 2 ^ 63 → Spells (t.Number n) (decimal n)
number_spelled n small =
    let fits : n < 2 ^ 64 = omega arith in
    (are_digits (decimal n) (decimal_nonempty n fits) (digits_decimal digits_own n fits), sym (digits_value-decimal digits_own n fits), small)

pub spells_again : (token : Token) (bytes : List ℕ) → Spells token bytes → Spells token (spell token)
spells_again (t.Name name) bytes h = (refl, subst IsName h.0 h.1)
spells_again (t.Quoted name) bytes h = (refl, h.1)
spells_again (t.Number n) bytes h = number_spelled n h.2
spells_again (t.Str s) bytes h = refl
spells_again (t.Word w) bytes h = refl
spells_again (t.Sign s) bytes h = refl
spells_again t.End bytes h = absurd h

-- ---- what follows a token

sign_stops : (s : Sign) (b : ℕ) → is_skipped b ≡ true → goes_on (t.Sign s) b ≡ false
sign_stops sign.Semicolon b h = refl
sign_stops sign.Comma b h = refl
sign_stops sign.Colon b h = refl
sign_stops sign.Dot b h = refl
sign_stops sign.Open b h = refl
sign_stops sign.Close b h = refl
sign_stops sign.OpenBracket b h = refl
sign_stops sign.CloseBracket b h = refl
sign_stops sign.OpenBrace b h = refl
sign_stops sign.CloseBrace b h = refl
sign_stops sign.Plus b h = refl
sign_stops sign.Minus b h = refl
sign_stops sign.Star b h = refl
sign_stops sign.Slash b h = refl
sign_stops sign.Equal b h = refl
sign_stops sign.NotEqual b h = refl
sign_stops sign.Less b h = grind (arith, nat_tests)
sign_stops sign.AtMost b h = refl
sign_stops sign.Greater b h = grind (arith, nat_tests)
sign_stops sign.AtLeast b h = refl

-- no token goes on with a blank or a comment
stopped : (token : Token) (b : ℕ) → is_skipped b ≡ true → goes_on token b ≡ false
stopped (t.Name name) b h = grind (arith, nat_tests)
stopped (t.Quoted name) b h = grind (arith, nat_tests)
stopped (t.Number n) b h = grind (arith, nat_tests)
stopped (t.Str s) b h = grind (arith, nat_tests)
stopped (t.Word w) b h = grind (arith, nat_tests)
stopped (t.Sign s) b h = sign_stops s b h
stopped t.End b h = refl

-- the first byte is skipped, where there is one
abbrev Skips : List ℕ → Type 0
Skips [] = Unit {0}
Skips (b ∷ bs) = is_skipped b ≡ true

or_true : (x y : Bool) → x ≡ true → (x || y) ≡ true
or_true true y e = refl
or_true false y e = absurd cc

piece_skips : (piece rest : List ℕ) → IsSkipped piece → Skips (piece ++ rest)
piece_skips piece rest (inl x) = subst (λ (y : List ℕ). Skips (y ++ rest)) (sym x.1) (or_true (is_blank x.0) (x.0 == 35) x.2)
piece_skips piece rest (inr x) =
    let c = x.2 in
    subst (λ (y : List ℕ). Skips (y ++ rest)) (sym (x.1 ∙ ap (λ (y : List ℕ). y ++ 10 ∷ []) c.1)) refl

pieces_skip : (pieces : List (List ℕ)) → AreSkipped pieces → Skips (concat pieces)
pieces_skip [] h = tt
pieces_skip (piece ∷ pieces) h = piece_skips piece (concat pieces) h.0

pub gap_skips : (gap : List ℕ) → IsGap gap → Skips gap
gap_skips gap g = subst Skips (sym g.whole) (pieces_skip g.pieces g.skipped)

more_skips : (gap rest : List ℕ) → Skips gap → Skips rest → Skips (gap ++ rest)
more_skips [] rest h k = k
more_skips (b ∷ gap) rest h k = h

pub last_skips : (last : List ℕ) → IsLastGap last → Skips last
last_skips last (inl g) = gap_skips last g
last_skips last (inr x) =
    let c = x.4 in
    subst Skips (sym x.2) (more_skips x.0 x.1 (gap_skips x.0 x.3) (subst Skips (sym c.1) refl))

skips_stop : (token : Token) (bytes : List ℕ) → Skips bytes → Stops (goes_on token) bytes
skips_stop token [] h = tt
skips_stop token (b ∷ bs) h = stopped token b h

first_stops : (test : ℕ → Bool) (bytes rest : List ℕ) → bytes ≢ [] → first_passes test bytes ≡ false → Stops test (bytes ++ rest)
first_stops test [] rest some h = absurd (some refl)
first_stops test (b ∷ bs) rest some h = h

-- what is laid out behind a token does not go on with it
behind_gap_stops : (token next : Token) (bytes gap rest : List ℕ) → Spells next bytes → IsGap gap → (gap ≡ [] → needs_gap token next ≡ false) → Stops (goes_on token) (gap ++ (spell next ++ rest))
behind_gap_stops token next bytes [] rest h g apart =
    first_stops (goes_on token) (spell next) rest (λ e. spells_some next (subst (Spells next) e (spells_again next bytes h))) (apart refl)
behind_gap_stops token next bytes (b ∷ gap) rest h g apart = stopped token b (gap_skips (b ∷ gap) g)

layout_stops : (token : Token) (laid : List Laid) (last : List ℕ) → IsApart token laid → IsLayout laid → IsLastGap last → Stops (goes_on token) (text_of laid last)
layout_stops token [] last apart h k = skips_stop token last (last_skips last k)
layout_stops token (x ∷ more) last apart h k = let s = h.2 in behind_gap_stops token x.token s.bytes x.gap (text_of more last) s.spelled h.0 apart

-- ---- all tokens

abbrev next_of : (x : Laid) (rest bytes : List ℕ) → IsGap x.gap → Spells x.token bytes → Stops (goes_on x.token) rest → IsNext x.token (x.gap ++ (spell x.token ++ rest)) rest
next_of x rest bytes g h stops = record {
  gap = x.gap;
  behind = spell x.token ++ rest;
  split = refl;
  skipped = g;
  front = record { spelling = spell x.token; split = refl; spells = spells_again x.token bytes h; longest = stops };
}

read_from : (before : List ℕ) (laid : List Laid) (last : List ℕ) → IsLayout laid → IsLastGap last → (places : List Place) × (end : Place) × Lexes before (text_of laid last) (map (λ x. x.token) laid) places (ending.End end)
read_from before [] last h k = ([], place_behind (before ++ last), (k, refl))
read_from before (x ∷ more) last h k =
    let later = read_from (before ++ x.gap ++ spell x.token) more last h.4 k in
    let s = h.2 in
    (place_behind (before ++ x.gap) ∷ later.0, later.1, (text_of more last, next_of x (text_of more last) s.bytes h.0 s.spelled (layout_stops x.token more last h.3 h.4 k), refl, later.2))

text_utf8 : (laid : List Laid) (last : List ℕ) → IsLayout laid → IsUtf8 last → IsUtf8 (text_of laid last)
text_utf8 [] last h u = u
text_utf8 (x ∷ more) last h u = let s = h.2 in IsUtf8-append x.gap (spell x.token ++ text_of more last) h.1 (IsUtf8-append (spell x.token) (text_of more last) s.utf8 (text_utf8 more last h.4 u))

-- ---- no such text begins with a byte order mark

-- the first byte is ASCII, where there is one
abbrev Plain : List ℕ → Type 0
Plain [] = Unit {0}
Plain (b ∷ bs) = b < 128

name_small : (b : ℕ) → begins_name b ≡ true → b < 128
name_small b h = grind (arith, nat_tests)

digit_small : (b : ℕ) → is_digit b ≡ true → b < 128
digit_small b h = grind (arith, nat_tests)

skipped_small : (b : ℕ) → is_skipped b ≡ true → b < 128
skipped_small b h = grind (arith, nat_tests)

shaped_plain : (bytes : List ℕ) → IsWordShaped bytes → Plain bytes
shaped_plain [] h = tt
shaped_plain (b ∷ bs) h = name_small b h.0

digits_plain : (bytes : List ℕ) → IsDigits bytes → Plain bytes
digits_plain [] h = tt
digits_plain (b ∷ bs) h = digit_small b h.0

sign_plain : (s : Sign) → Plain (sign_spelling s)
sign_plain sign.Semicolon = lit< tt
sign_plain sign.Comma = lit< tt
sign_plain sign.Colon = lit< tt
sign_plain sign.Dot = lit< tt
sign_plain sign.Open = lit< tt
sign_plain sign.Close = lit< tt
sign_plain sign.OpenBracket = lit< tt
sign_plain sign.CloseBracket = lit< tt
sign_plain sign.OpenBrace = lit< tt
sign_plain sign.CloseBrace = lit< tt
sign_plain sign.Plus = lit< tt
sign_plain sign.Minus = lit< tt
sign_plain sign.Star = lit< tt
sign_plain sign.Slash = lit< tt
sign_plain sign.Equal = lit< tt
sign_plain sign.NotEqual = lit< tt
sign_plain sign.Less = lit< tt
sign_plain sign.AtMost = lit< tt
sign_plain sign.Greater = lit< tt
sign_plain sign.AtLeast = lit< tt

token_plain : (token : Token) (bytes : List ℕ) → Spells token bytes → Plain bytes
token_plain (t.Name name) bytes h = let n = h.1 in shaped_plain bytes n.0
token_plain (t.Quoted name) bytes h = subst Plain (sym h.0) (lit< tt)
token_plain (t.Number n) bytes h = digits_plain bytes h.0
token_plain (t.Str s) bytes h = subst Plain (sym h) (lit< tt)
token_plain (t.Word w) bytes h = subst Plain (sym h) (shaped_plain (word_spelling w) (word_shaped w))
token_plain (t.Sign s) bytes h = subst Plain (sym h) (sign_plain s)
token_plain t.End bytes h = absurd h

skips_plain : (bytes : List ℕ) → Skips bytes → Plain bytes
skips_plain [] h = tt
skips_plain (b ∷ bs) h = skipped_small b h

both_plain : (xs ys : List ℕ) → Plain xs → Plain ys → Plain (xs ++ ys)
both_plain [] ys h k = k
both_plain (x ∷ xs) ys h k = h

text_plain : (laid : List Laid) (last : List ℕ) → IsLayout laid → IsLastGap last → Plain (text_of laid last)
text_plain [] last h k = skips_plain last (last_skips last k)
text_plain (x ∷ more) last h k =
    let s = h.2 in
    both_plain x.gap (spell x.token ++ text_of more last) (skips_plain x.gap (gap_skips x.gap h.0))
    (both_plain (spell x.token) (text_of more last) (token_plain x.token (spell x.token) (spells_again x.token s.bytes s.spelled)) (text_plain more last h.4 k))

unmarked_is : (text : List ℕ) → Plain text → unmarked text ≡ text
unmarked_is text h = elim (decided (starts_with nat_eq text byte_order_mark)) [
  | inl k ↦ let no_way : 239 < 128 = subst Plain (marked text k) h in absurd (omega arith)
  | inr k ↦ if_false (starts_with nat_eq text byte_order_mark) (drop 3 text) text k
]

pub read_again : (laid : List Laid) (last : List ℕ) → IsLayout laid → IsLast last → IsReadAgain laid last
read_again laid last h k =
    let r = read_from [] laid last h k.0 in
    record {
      places = r.0;
      end = r.1;
      has = record {
        utf8 = text_utf8 laid last h k.1;
        lexed = subst (λ (x : List ℕ). Lexes [] x (map (λ x. x.token) laid) r.0 (ending.End r.1)) (sym (unmarked_is (text_of laid last) (text_plain laid last h k.0))) r.2;
      };
    }

-- ---- what is read can be spelled

spell_utf8 : (token : Token) (spelling : List ℕ) → Spells token spelling → IsUtf8 spelling → IsUtf8 (spell token)
spell_utf8 (t.Name name) spelling h u = subst IsUtf8 h.0 u
spell_utf8 (t.Quoted name) spelling h u = subst IsUtf8 h.0 u
spell_utf8 (t.Number n) spelling h u = let small : n < 2 ^ 63 = h.2 in IsUtf8-from_ascii (decimal n) (IsAscii-decimal n (omega arith))
spell_utf8 (t.Str s) spelling h u = subst IsUtf8 h u
spell_utf8 (t.Word w) spelling h u = subst IsUtf8 h u
spell_utf8 (t.Sign s) spelling h u = subst IsUtf8 h u
spell_utf8 t.End spelling h u = absurd h

front_utf8 : (token : Token) (bytes rest : List ℕ) (f : IsAtFront token bytes rest) → IsUtf8 bytes → IsUtf8 f.spelling
front_utf8 token bytes rest f u =
    subst IsUtf8 (ap (take (length f.spelling)) f.split ∙ take_at f.spelling rest (length f.spelling) refl)
    (IsUtf8-take bytes (length f.spelling) u (IsCharBoundary-at_seam bytes f.spelling rest f.split (past_token token bytes rest f u)))

printable : (token : Token) (bytes rest : List ℕ) → IsAtFront token bytes rest → IsUtf8 bytes → IsPrintable token
printable token bytes rest f u = record { bytes = f.spelling; spelled = f.spells; utf8 = spell_utf8 token f.spelling f.spells (front_utf8 token bytes rest f u) }

pub are_printable : (before bytes : List ℕ) (tokens : List Token) (places : List Place) (end : Ending) → IsUtf8 bytes → Lexes before bytes tokens places end → ArePrintable tokens
are_printable before bytes [] places end u l = tt
are_printable before bytes (token ∷ tokens) [] end u l = absurd l
are_printable before bytes (token ∷ tokens) (p ∷ places) end u l =
    let n = l.1 in
    let v : IsUtf8 n.behind = past_gap bytes n.gap n.behind n.split n.skipped u in
    (printable token n.behind l.0 n.front v, are_printable (before ++ n.gap ++ n.front.spelling) l.0 tokens places end (past_token token n.behind l.0 n.front v) l.3)

-- ---- where no gap is needed

in_name_apart : (s : Sign) → stands_close s ≡ true → first_passes in_name (sign_spelling s) ≡ false
in_name_apart sign.Semicolon h = refl
in_name_apart sign.Comma h = refl
in_name_apart sign.Colon h = refl
in_name_apart sign.Dot h = refl
in_name_apart sign.Open h = refl
in_name_apart sign.Close h = refl
in_name_apart sign.OpenBracket h = refl
in_name_apart sign.CloseBracket h = refl
in_name_apart sign.OpenBrace h = refl
in_name_apart sign.CloseBrace h = refl
in_name_apart sign.Plus h = refl
in_name_apart sign.Minus h = absurd cc
in_name_apart sign.Star h = refl
in_name_apart sign.Slash h = refl
in_name_apart sign.Equal h = absurd cc
in_name_apart sign.NotEqual h = refl
in_name_apart sign.Less h = refl
in_name_apart sign.AtMost h = refl
in_name_apart sign.Greater h = refl
in_name_apart sign.AtLeast h = refl

digit_apart : (s : Sign) → stands_close s ≡ true → first_passes is_digit (sign_spelling s) ≡ false
digit_apart sign.Semicolon h = refl
digit_apart sign.Comma h = refl
digit_apart sign.Colon h = refl
digit_apart sign.Dot h = refl
digit_apart sign.Open h = refl
digit_apart sign.Close h = refl
digit_apart sign.OpenBracket h = refl
digit_apart sign.CloseBracket h = refl
digit_apart sign.OpenBrace h = refl
digit_apart sign.CloseBrace h = refl
digit_apart sign.Plus h = refl
digit_apart sign.Minus h = absurd cc
digit_apart sign.Star h = refl
digit_apart sign.Slash h = refl
digit_apart sign.Equal h = absurd cc
digit_apart sign.NotEqual h = refl
digit_apart sign.Less h = refl
digit_apart sign.AtMost h = refl
digit_apart sign.Greater h = refl
digit_apart sign.AtLeast h = refl

quote_apart : (s : Sign) → stands_close s ≡ true → first_passes (λ b. b == 34) (sign_spelling s) ≡ false
quote_apart sign.Semicolon h = refl
quote_apart sign.Comma h = refl
quote_apart sign.Colon h = refl
quote_apart sign.Dot h = refl
quote_apart sign.Open h = refl
quote_apart sign.Close h = refl
quote_apart sign.OpenBracket h = refl
quote_apart sign.CloseBracket h = refl
quote_apart sign.OpenBrace h = refl
quote_apart sign.CloseBrace h = refl
quote_apart sign.Plus h = refl
quote_apart sign.Minus h = absurd cc
quote_apart sign.Star h = refl
quote_apart sign.Slash h = refl
quote_apart sign.Equal h = absurd cc
quote_apart sign.NotEqual h = refl
quote_apart sign.Less h = refl
quote_apart sign.AtMost h = refl
quote_apart sign.Greater h = refl
quote_apart sign.AtLeast h = refl

single_apart : (s : Sign) → stands_close s ≡ true → first_passes (λ b. b == 39) (sign_spelling s) ≡ false
single_apart sign.Semicolon h = refl
single_apart sign.Comma h = refl
single_apart sign.Colon h = refl
single_apart sign.Dot h = refl
single_apart sign.Open h = refl
single_apart sign.Close h = refl
single_apart sign.OpenBracket h = refl
single_apart sign.CloseBracket h = refl
single_apart sign.OpenBrace h = refl
single_apart sign.CloseBrace h = refl
single_apart sign.Plus h = refl
single_apart sign.Minus h = absurd cc
single_apart sign.Star h = refl
single_apart sign.Slash h = refl
single_apart sign.Equal h = absurd cc
single_apart sign.NotEqual h = refl
single_apart sign.Less h = refl
single_apart sign.AtMost h = refl
single_apart sign.Greater h = refl
single_apart sign.AtLeast h = refl

equal_apart : (s : Sign) → stands_close s ≡ true → first_passes (λ b. b == 61) (sign_spelling s) ≡ false
equal_apart sign.Semicolon h = refl
equal_apart sign.Comma h = refl
equal_apart sign.Colon h = refl
equal_apart sign.Dot h = refl
equal_apart sign.Open h = refl
equal_apart sign.Close h = refl
equal_apart sign.OpenBracket h = refl
equal_apart sign.CloseBracket h = refl
equal_apart sign.OpenBrace h = refl
equal_apart sign.CloseBrace h = refl
equal_apart sign.Plus h = refl
equal_apart sign.Minus h = absurd cc
equal_apart sign.Star h = refl
equal_apart sign.Slash h = refl
equal_apart sign.Equal h = absurd cc
equal_apart sign.NotEqual h = refl
equal_apart sign.Less h = refl
equal_apart sign.AtMost h = refl
equal_apart sign.Greater h = refl
equal_apart sign.AtLeast h = refl

never_apart : (s : Sign) → first_passes (λ _. false) (sign_spelling s) ≡ false
never_apart sign.Semicolon = refl
never_apart sign.Comma = refl
never_apart sign.Colon = refl
never_apart sign.Dot = refl
never_apart sign.Open = refl
never_apart sign.Close = refl
never_apart sign.OpenBracket = refl
never_apart sign.CloseBracket = refl
never_apart sign.OpenBrace = refl
never_apart sign.CloseBrace = refl
never_apart sign.Plus = refl
never_apart sign.Minus = refl
never_apart sign.Star = refl
never_apart sign.Slash = refl
never_apart sign.Equal = refl
never_apart sign.NotEqual = refl
never_apart sign.Less = refl
never_apart sign.AtMost = refl
never_apart sign.Greater = refl
never_apart sign.AtLeast = refl

sign_sign_apart : (r s : Sign) → stands_close s ≡ true → needs_gap (t.Sign r) (t.Sign s) ≡ false
sign_sign_apart sign.Semicolon s h = never_apart s
sign_sign_apart sign.Comma s h = never_apart s
sign_sign_apart sign.Colon s h = never_apart s
sign_sign_apart sign.Dot s h = never_apart s
sign_sign_apart sign.Open s h = never_apart s
sign_sign_apart sign.Close s h = never_apart s
sign_sign_apart sign.OpenBracket s h = never_apart s
sign_sign_apart sign.CloseBracket s h = never_apart s
sign_sign_apart sign.OpenBrace s h = never_apart s
sign_sign_apart sign.CloseBrace s h = never_apart s
sign_sign_apart sign.Plus s h = never_apart s
sign_sign_apart sign.Minus s h = never_apart s
sign_sign_apart sign.Star s h = never_apart s
sign_sign_apart sign.Slash s h = never_apart s
sign_sign_apart sign.Equal s h = never_apart s
sign_sign_apart sign.NotEqual s h = never_apart s
sign_sign_apart sign.Less s h = equal_apart s h
sign_sign_apart sign.AtMost s h = never_apart s
sign_sign_apart sign.Greater s h = equal_apart s h
sign_sign_apart sign.AtLeast s h = never_apart s

end_apart : (s : Sign) → stands_close s ≡ true → needs_gap t.End (t.Sign s) ≡ false
end_apart s h = never_apart s

pub sign_apart : (token : Token) (s : Sign) → stands_close s ≡ true → needs_gap token (t.Sign s) ≡ false
sign_apart (t.Name name) s h = in_name_apart s h
sign_apart (t.Quoted name) s h = quote_apart s h
sign_apart (t.Number n) s h = digit_apart s h
sign_apart (t.Str str) s h = single_apart s h
sign_apart (t.Word w) s h = in_name_apart s h
sign_apart (t.Sign r) s h = sign_sign_apart r s h
sign_apart t.End s h = end_apart s h

never_passes : (bytes : List ℕ) → first_passes (λ _. false) bytes ≡ false
never_passes [] = refl
never_passes (b ∷ bs) = refl

pub closed_apart : (s : Sign) (token : Token) → is_closed s ≡ true → needs_gap (t.Sign s) token ≡ false
closed_apart sign.Semicolon token h = never_passes (spell token)
closed_apart sign.Comma token h = never_passes (spell token)
closed_apart sign.Colon token h = never_passes (spell token)
closed_apart sign.Dot token h = never_passes (spell token)
closed_apart sign.Open token h = never_passes (spell token)
closed_apart sign.Close token h = never_passes (spell token)
closed_apart sign.OpenBracket token h = never_passes (spell token)
closed_apart sign.CloseBracket token h = never_passes (spell token)
closed_apart sign.OpenBrace token h = never_passes (spell token)
closed_apart sign.CloseBrace token h = never_passes (spell token)
closed_apart sign.Plus token h = never_passes (spell token)
closed_apart sign.Minus token h = never_passes (spell token)
closed_apart sign.Star token h = never_passes (spell token)
closed_apart sign.Slash token h = never_passes (spell token)
closed_apart sign.Equal token h = never_passes (spell token)
closed_apart sign.NotEqual token h = never_passes (spell token)
closed_apart sign.Less token h = absurd cc
closed_apart sign.AtMost token h = never_passes (spell token)
closed_apart sign.Greater token h = absurd cc
closed_apart sign.AtLeast token h = never_passes (spell token)
