-- The token at the front, by what the bytes begin with.
use Rattle.std.proofs.Common.{◌≡◌, ◌≢◌, ◌+◌, ◌-◌, ◌≤◌, ◌<◌, ◌^◌, ℕ, Bool, true, false, cond, List, [], ◌∷◌, ◌++◌, length, take, drop, refl, sym, ap, subst, ◌∙◌, length-append, arith}
use Rattle.std.specs.Prelude.{◌==◌}
use Rattle.std.specs.List.{list_all, prefix_len}
use Rattle.std.specs.Str.Parse.{digits_value}
use Rattle.std.proofs.lemmas.List.{take-append-drop, drop_at}
use Rattle.std.proofs.lemmas.List.Sums.{prefix_len-le-length}
use Rattle.std.proofs.lemmas.Bool.Decides.{nat_tests}
use Rattle.gvdl_tokens.specs.declared.token.Token.{Token}
use Rattle.gvdl_tokens.specs.declared.token.Token.TheVariants as t
use Rattle.gvdl_tokens.specs.declared.word.Word.{Word}
use Rattle.gvdl_tokens.specs.declared.token.Sign.{Sign}
use Rattle.gvdl_tokens.specs.declared.token.Sign.TheVariants as sign
use Rattle.gvdl_tokens.specs.Characters.{is_digit, begins_name, in_name, Stops, StandsOut}
use Rattle.gvdl_tokens.specs.Spelling.{word_spelling, sign_spelling, IsWordShaped, IsDigits, IsNotReserved, doubled, enclosed, Spells, goes_on}
use Rattle.gvdl_tokens.specs.Tokens.{IsAtFront, IsTooLarge, IsNoToken}
use Rattle.gvdl_tokens.specs.Reading.{Starts, is_next, BeginsSign, Closes, IsUnclosed, IsLexeme}
use Rattle.gvdl_tokens.proofs.Runs.{both, run_passes, run_stops, one_more}
use Rattle.gvdl_tokens.proofs.Enclosing.{content_at, content_of}
use Rattle.gvdl_tokens.proofs.Words.{word_shaped}
use Rattle.gvdl_tokens.proofs.Fronts.{in_name_too, begins_as, begins_digit, heads, front_is, regrouped}

-- ---- runs

-- a token that the run at the front spells
module _ (p : ℕ → Bool) (bytes : List ℕ) where
  run_lexeme : (token : Token) → Spells token (take (prefix_len p bytes) bytes) → ((left : List ℕ) → Stops p left → Stops (goes_on token) left) → IsLexeme bytes token (prefix_len p bytes)
  run_lexeme token h stops = record {
    within = prefix_len-le-length p bytes;
    front = record {
      spelling = take (prefix_len p bytes) bytes;
      split = sym (take-append-drop (prefix_len p bytes) bytes);
      spells = h;
      longest = stops (drop (prefix_len p bytes) bytes) (run_stops p bytes);
    };
  }

starting : (x : Bool) (p : ℕ → Bool) (b : ℕ) (bs : List ℕ) (m : ℕ) → x ≡ true → p b ≡ true → Starts p (take (cond x (1 + m) 0) (b ∷ bs))
starting true p b bs m e h = rw one_more h
starting false p b bs m e h = absurd cc

-- the run begins as the bytes do
run_starts : (p q : ℕ → Bool) → ((b : ℕ) → p b ≡ true → q b ≡ true) → (bytes : List ℕ) → Starts p bytes → Starts p (take (prefix_len q bytes) bytes)
run_starts p q weaker [] h = absurd h
run_starts p q weaker (b ∷ bs) h = starting (q b) p b bs (prefix_len q bs) (weaker b h) h

word_shape : (s : List ℕ) → Starts begins_name s → list_all in_name s ≡ true → IsWordShaped s
word_shape [] h k = absurd h
word_shape (b ∷ s) h k = let both_of = both (in_name b) (list_all in_name s) k in (h, both_of.1)

digits_shape : (s : List ℕ) → Starts is_digit s → list_all is_digit s ≡ true → IsDigits s
digits_shape [] h k = absurd h
digits_shape (b ∷ s) h k = let both_of = both (is_digit b) (list_all is_digit s) k in (h, both_of.1)

-- ---- names and words

module _ (bytes : List ℕ) (begins : Starts begins_name bytes) where
  run_shaped : IsWordShaped (take (prefix_len in_name bytes) bytes)
  run_shaped =
      word_shape (take (prefix_len in_name bytes) bytes) (run_starts begins_name in_name (λ b h. in_name_too (begins_name b) (is_digit b) (b == 45) h) bytes begins) (run_passes in_name bytes)

  pub word_lexeme : (w : Word) → take (prefix_len in_name bytes) bytes ≡ word_spelling w → IsLexeme bytes (t.Word w) (prefix_len in_name bytes)
  word_lexeme w e = run_lexeme in_name bytes (t.Word w) e (λ left h. h)

  pub name_lexeme : (name : List ℕ) → name ≡ take (prefix_len in_name bytes) bytes → IsNotReserved (take (prefix_len in_name bytes) bytes) → IsLexeme bytes (t.Name name) (prefix_len in_name bytes)
  name_lexeme name e h = run_lexeme in_name bytes (t.Name name) (sym e, (run_shaped, h)) (λ left k. k)

-- ---- numbers

digits_run : (bytes : List ℕ) → Starts is_digit bytes → IsDigits (take (prefix_len is_digit bytes) bytes)
digits_run bytes begins = digits_shape (take (prefix_len is_digit bytes) bytes) (run_starts is_digit is_digit (λ b h. h) bytes begins) (run_passes is_digit bytes)

pub number_lexeme : (bytes : List ℕ) → Starts is_digit bytes → (n : ℕ) → n ≡ digits_value 10 (take (prefix_len is_digit bytes) bytes) → n < 2 ^ 63 → IsLexeme bytes (t.Number n) (prefix_len is_digit bytes)
number_lexeme bytes begins n e lt = run_lexeme is_digit bytes (t.Number n) (digits_run bytes begins, e, lt) (λ left h. h)

pub large_number : (bytes : List ℕ) → Starts is_digit bytes → 2 ^ 63 ≤ digits_value 10 (take (prefix_len is_digit bytes) bytes) → IsTooLarge bytes
large_number bytes begins large = record {
  digits = take (prefix_len is_digit bytes) bytes;
  rest = drop (prefix_len is_digit bytes) bytes;
  split = sym (take-append-drop (prefix_len is_digit bytes) bytes);
  run = digits_run bytes begins;
  whole = run_stops is_digit bytes;
  large = large;
}

-- ---- what stands between quotes

spelled_lexeme : (token : Token) (bytes spelling rest : List ℕ) (n : ℕ) → bytes ≡ spelling ++ rest → Spells token spelling → Stops (goes_on token) rest → n + length rest ≡ length bytes → IsLexeme bytes token n
spelled_lexeme token bytes spelling rest n e h stops size = record {
  within = omega arith;
  front = record { spelling = spelling; split = e ∙ ap (λ (x : List ℕ). spelling ++ x) (sym behind); spells = h; longest = subst (Stops (goes_on token)) (sym behind) stops };
} where
  len : length spelling ≡ n
  len = omega (arith, ap length e, length-append spelling rest)

  behind : drop n bytes ≡ rest
  behind = ap (drop n) e ∙ drop_at spelling rest n len

closing : (q : ℕ) (bs content rest : List ℕ) → Closes q bs content rest → q ∷ bs ≡ enclosed q content ++ rest
closing q bs content rest c = ap (λ (x : List ℕ). q ∷ x) c.split ∙ sym (regrouped q content rest)

rest_within : (q : ℕ) (bs content rest : List ℕ) → Closes q bs content rest → length rest ≤ length bs
rest_within q bs content rest c = omega (arith, ap length c.split, length-append (doubled q content) (q ∷ rest))

pub string_lexeme : (bs s rest : List ℕ) → Closes 39 bs s rest → IsLexeme (39 ∷ bs) (t.Str s) (1 + length bs - length rest)
string_lexeme bs s rest c =
    spelled_lexeme (t.Str s) (39 ∷ bs) (enclosed 39 s) rest (1 + length bs - length rest) (closing 39 bs s rest c) refl c.whole (omega (arith, rest_within 39 bs s rest c))

pub quoted_lexeme : (bs s rest : List ℕ) → s ≢ [] → Closes 34 bs s rest → IsLexeme (34 ∷ bs) (t.Quoted s) (1 + length bs - length rest)
quoted_lexeme bs s rest some c =
    spelled_lexeme (t.Quoted s) (34 ∷ bs) (enclosed 34 s) rest (1 + length bs - length rest) (closing 34 bs s rest c) (refl, some) c.whole (omega (arith, rest_within 34 bs s rest c))

no_digit : (b : ℕ) (bs : List ℕ) → is_digit b ≡ false → IsTooLarge (b ∷ bs) → ⊥
no_digit b bs h f = let no_way : true ≡ false = sym (begins_digit b bs f.rest f.digits f.split f.run) ∙ h in absurd cc

-- a token behind an opening quote is closed
opened : (q : ℕ) (bs content rest : List ℕ) → q ∷ bs ≡ enclosed q content ++ rest → Stops (λ b. b == q) rest → Closes q bs content rest
opened q bs content rest e whole = record { split = tails (e ∙ regrouped q content rest); whole = whole } where
  tails : q ∷ bs ≡ q ∷ (doubled q content ++ q ∷ rest) → bs ≡ doubled q content ++ q ∷ rest
  tails f = cc

pub no_string : (bs : List ℕ) → IsUnclosed 39 bs → IsNoToken (39 ∷ bs)
no_string bs unclosed = record { stands = refl; none = none; small = no_digit 39 bs refl } where
  none : (token : Token) (rest : List ℕ) → IsAtFront token (39 ∷ bs) rest → ⊥
  none token rest f =
      let s : List ℕ = content_at 39 false bs in
      let g : IsAtFront (t.Str s) (39 ∷ bs) rest = subst (λ (x : Token). IsAtFront x (39 ∷ bs) rest) (sym (front_is 39 bs rest token f)) f in
      unclosed s rest (opened 39 bs s rest (g.split ∙ ap (λ (x : List ℕ). x ++ rest) g.spells) g.longest)

module _ (bs : List ℕ) (refused : (content rest : List ℕ) → content ≢ [] → Closes 34 bs content rest → ⊥) where
  pub no_quoted : IsNoToken (34 ∷ bs)
  no_quoted = record { stands = refl; none = none; small = no_digit 34 bs refl } where
    none : (token : Token) (rest : List ℕ) → IsAtFront token (34 ∷ bs) rest → ⊥
    none token rest f =
        let s : List ℕ = content_at 34 false bs in
        let g : IsAtFront (t.Quoted s) (34 ∷ bs) rest = subst (λ (x : Token). IsAtFront x (34 ∷ bs) rest) (sym (front_is 34 bs rest token f)) f in
        let h = g.spells in
        refused s rest h.1 (opened 34 bs s rest (g.split ∙ ap (λ (x : List ℕ). x ++ rest) h.0) g.longest)

content_is : (q : ℕ) (bs content rest : List ℕ) → Closes q bs content rest → content_at q false bs ≡ content
content_is q bs content rest c = ap (content_at q false) c.split ∙ content_of q content rest c.whole

pub not_empty_name : (bs content rest : List ℕ) → Closes 34 bs content rest → content ≡ [] → IsNoToken (34 ∷ bs)
not_empty_name bs content rest c e = no_quoted bs (λ other left some d. some (sym (content_is 34 bs other left d) ∙ content_is 34 bs content rest c ∙ e))

pub not_closed : (bs : List ℕ) → IsUnclosed 34 bs → IsNoToken (34 ∷ bs)
not_closed bs unclosed = no_quoted bs (λ content rest some c. unclosed content rest c)

-- ---- signs

never : (left : List ℕ) → Stops (λ _. false) left
never [] = tt
never (x ∷ xs) = refl

no_equals : (left : List ℕ) → is_next 61 left ≡ false → Stops (λ b. b == 61) left
no_equals [] h = tt
no_equals (x ∷ xs) h = h

equals : (b : ℕ) → (b == 61) ≡ true → b ≡ 61
equals b h = grind (arith, nat_tests)

one_sign : (s : Sign) (b x : ℕ) (bs : List ℕ) → b ≡ x → sign_spelling s ≡ x ∷ [] → Stops (goes_on (t.Sign s)) bs → IsLexeme (b ∷ bs) (t.Sign s) 1
one_sign s b x bs e spelled stops = record {
  within = omega arith;
  front = record { spelling = b ∷ []; split = refl; spells = ap (λ (y : ℕ). y ∷ []) e ∙ sym spelled; longest = stops };
}

two_signs : (s : Sign) (b x : ℕ) (bs : List ℕ) → b ≡ x → sign_spelling s ≡ x ∷ 61 ∷ [] → is_next 61 bs ≡ true → ((left : List ℕ) → Stops (goes_on (t.Sign s)) left) → IsLexeme (b ∷ bs) (t.Sign s) 2
two_signs s b x [] e spelled h stops = absurd cc
two_signs s b x (y ∷ bs) e spelled h stops = record {
  within = omega arith;
  front = record { spelling = b ∷ y ∷ []; split = refl; spells = ap (λ (z : ℕ). z ∷ y ∷ []) e ∙ ap (λ (z : ℕ). x ∷ z ∷ []) (equals y h) ∙ sym spelled; longest = stops bs };
}

pub sign_lexeme : (s : Sign) (b : ℕ) (bs : List ℕ) → BeginsSign s b (is_next 61 bs) → IsLexeme (b ∷ bs) (t.Sign s) (length (sign_spelling s))
sign_lexeme sign.Semicolon b bs h = one_sign sign.Semicolon b 59 bs h refl (never bs)
sign_lexeme sign.Comma b bs h = one_sign sign.Comma b 44 bs h refl (never bs)
sign_lexeme sign.Colon b bs h = one_sign sign.Colon b 58 bs h refl (never bs)
sign_lexeme sign.Dot b bs h = one_sign sign.Dot b 46 bs h refl (never bs)
sign_lexeme sign.Open b bs h = one_sign sign.Open b 40 bs h refl (never bs)
sign_lexeme sign.Close b bs h = one_sign sign.Close b 41 bs h refl (never bs)
sign_lexeme sign.OpenBracket b bs h = one_sign sign.OpenBracket b 91 bs h refl (never bs)
sign_lexeme sign.CloseBracket b bs h = one_sign sign.CloseBracket b 93 bs h refl (never bs)
sign_lexeme sign.OpenBrace b bs h = one_sign sign.OpenBrace b 123 bs h refl (never bs)
sign_lexeme sign.CloseBrace b bs h = one_sign sign.CloseBrace b 125 bs h refl (never bs)
sign_lexeme sign.Plus b bs h = one_sign sign.Plus b 43 bs h refl (never bs)
sign_lexeme sign.Minus b bs h = one_sign sign.Minus b 45 bs h refl (never bs)
sign_lexeme sign.Star b bs h = one_sign sign.Star b 42 bs h refl (never bs)
sign_lexeme sign.Slash b bs h = one_sign sign.Slash b 47 bs h refl (never bs)
sign_lexeme sign.Equal b bs h = one_sign sign.Equal b 61 bs h refl (never bs)
sign_lexeme sign.NotEqual b bs h = two_signs sign.NotEqual b 33 bs h.0 refl h.1 never
sign_lexeme sign.Less b bs h = one_sign sign.Less b 60 bs h.0 refl (no_equals bs h.1)
sign_lexeme sign.AtMost b bs h = two_signs sign.AtMost b 60 bs h.0 refl h.1 never
sign_lexeme sign.Greater b bs h = one_sign sign.Greater b 62 bs h.0 refl (no_equals bs h.1)
sign_lexeme sign.AtLeast b bs h = two_signs sign.AtLeast b 62 bs h.0 refl h.1 never

module _ (b : ℕ) (bs rest : List ℕ) where
  tail_of : (x : ℕ) (xs : List ℕ) → b ∷ bs ≡ x ∷ xs → bs ≡ xs
  tail_of x xs e = cc

  unfollowed : (left : List ℕ) → Stops (λ c. c == 61) left → is_next 61 left ≡ false
  unfollowed [] h = refl
  unfollowed (x ∷ xs) h = h

  begins_sign : (s : Sign) → b ∷ bs ≡ sign_spelling s ++ rest → Stops (goes_on (t.Sign s)) rest → BeginsSign s b (is_next 61 bs)
  begins_sign sign.Semicolon e h = heads b bs rest 59 [] e
  begins_sign sign.Comma e h = heads b bs rest 44 [] e
  begins_sign sign.Colon e h = heads b bs rest 58 [] e
  begins_sign sign.Dot e h = heads b bs rest 46 [] e
  begins_sign sign.Open e h = heads b bs rest 40 [] e
  begins_sign sign.Close e h = heads b bs rest 41 [] e
  begins_sign sign.OpenBracket e h = heads b bs rest 91 [] e
  begins_sign sign.CloseBracket e h = heads b bs rest 93 [] e
  begins_sign sign.OpenBrace e h = heads b bs rest 123 [] e
  begins_sign sign.CloseBrace e h = heads b bs rest 125 [] e
  begins_sign sign.Plus e h = heads b bs rest 43 [] e
  begins_sign sign.Minus e h = heads b bs rest 45 [] e
  begins_sign sign.Star e h = heads b bs rest 42 [] e
  begins_sign sign.Slash e h = heads b bs rest 47 [] e
  begins_sign sign.Equal e h = heads b bs rest 61 [] e
  begins_sign sign.NotEqual e h = (heads b bs rest 33 (61 ∷ []) e, ap (is_next 61) (tail_of 33 (61 ∷ rest) e))
  begins_sign sign.Less e h = (heads b bs rest 60 [] e, ap (is_next 61) (tail_of 60 rest e) ∙ unfollowed rest h)
  begins_sign sign.AtMost e h = (heads b bs rest 60 (61 ∷ []) e, ap (is_next 61) (tail_of 60 (61 ∷ rest) e))
  begins_sign sign.Greater e h = (heads b bs rest 62 [] e, ap (is_next 61) (tail_of 62 rest e) ∙ unfollowed rest h)
  begins_sign sign.AtLeast e h = (heads b bs rest 62 (61 ∷ []) e, ap (is_next 61) (tail_of 62 (61 ∷ rest) e))

module _ (b : ℕ) (bs : List ℕ) (string : b ≢ 39) (quoted : b ≢ 34) (name : begins_name b ≡ false) (digit : is_digit b ≡ false) (signs : (s : Sign) → BeginsSign s b (is_next 61 bs) → ⊥) where
  no_name : (s rest : List ℕ) → b ∷ bs ≡ s ++ rest → IsWordShaped s → ⊥
  no_name s rest e h = let no_way : true ≡ false = sym (begins_as b bs rest s e h) ∙ name in absurd cc

  none : (token : Token) (rest : List ℕ) → IsAtFront token (b ∷ bs) rest → ⊥
  none (t.Name x) rest f = let h = f.spells in let n = h.1 in no_name f.spelling rest f.split n.0
  none (t.Quoted s) rest f = let h = f.spells in quoted (heads b bs rest 34 (doubled 34 s ++ 34 ∷ []) (f.split ∙ ap (λ (x : List ℕ). x ++ rest) h.0))
  none (t.Number n) rest f = let h = f.spells in let no_way : true ≡ false = sym (begins_digit b bs rest f.spelling f.split h.0) ∙ digit in absurd cc
  none (t.Str s) rest f = string (heads b bs rest 39 (doubled 39 s ++ 39 ∷ []) (f.split ∙ ap (λ (x : List ℕ). x ++ rest) f.spells))
  none (t.Word w) rest f = no_name (word_spelling w) rest (f.split ∙ ap (λ (x : List ℕ). x ++ rest) f.spells) (word_shaped w)
  none (t.Sign s) rest f = signs s (begins_sign b bs rest s (f.split ∙ ap (λ (x : List ℕ). x ++ rest) f.spells) f.longest)
  none t.End rest f = absurd f.spells

  pub no_sign : StandsOut (b ∷ bs) → IsNoToken (b ∷ bs)
  no_sign stands = record { stands = stands; none = none; small = no_digit b bs digit }
