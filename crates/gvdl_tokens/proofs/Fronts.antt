-- There is at most one token at the front of some bytes.
use Rattle.std.proofs.Common.{◌≡◌, ◌≢◌, ℕ, Bool, true, false, List, [], ◌∷◌, ◌++◌, take, refl, sym, ap, subst, ◌∙◌, append_assoc, arith}
use Rattle.std.specs.Prelude.{◌&&◌, ◌||◌, ◌==◌, if◌then◌else◌}
use Rattle.std.specs.List.{list_all, prefix_len}
use Rattle.std.specs.Str.Parse.{digits_value}
use Rattle.std.proofs.lemmas.Bool.Decides.{nat_tests}
use Rattle.std.proofs.lemmas.List.{append_cancel_left}
use Rattle.gvdl_tokens.specs.declared.token.Token.{Token}
use Rattle.gvdl_tokens.specs.declared.token.Token.TheVariants as t
use Rattle.gvdl_tokens.specs.declared.token.Sign.{Sign}
use Rattle.gvdl_tokens.specs.declared.token.Sign.TheVariants as sign
use Rattle.gvdl_tokens.specs.Characters.{is_blank, is_digit, begins_name, in_name, Stops, StandsOut}
use Rattle.gvdl_tokens.specs.Spelling.{word_spelling, sign_spelling, IsWordShaped, IsDigits, doubled, enclosed, Spells, goes_on}
use Rattle.gvdl_tokens.specs.Tokens.{IsAtFront, IsTooLarge}
use Rattle.gvdl_tokens.specs.Reading.{is_next}
use Rattle.gvdl_tokens.proofs.Runs.{if_true, if_false, run_of}
use Rattle.gvdl_tokens.proofs.Enclosing.{content_at, content_of}
use Rattle.gvdl_tokens.proofs.Words.{all_words, word_in, word_in_all, is_spelled, not_spelled, word_spelled, word_shaped}

-- ---- kinds of characters exclude one another

-- a blank, or the character that begins a comment
abbrev pub is_skipped : ℕ → Bool
is_skipped b = is_blank b || b == 35

pub digit_no_name : (b : ℕ) → is_digit b ≡ true → begins_name b ≡ false
digit_no_name b h = grind (arith, nat_tests)

pub name_stands : (b : ℕ) → begins_name b ≡ true → is_skipped b ≡ false
name_stands b h = grind (arith, nat_tests)

pub digit_stands : (b : ℕ) → is_digit b ≡ true → is_skipped b ≡ false
digit_stands b h = grind (arith, nat_tests)

-- a name goes on with what may begin one
pub in_name_too : (x y z : Bool) → x ≡ true → (x || y || z) ≡ true
in_name_too true y z e = refl
in_name_too false y z e = absurd cc

-- ---- the token that bytes begin with, as far as there is one

abbrev pub run_at : List ℕ → Token
run_at run = if is_spelled run all_words then t.Word (word_in run all_words) else t.Name run

abbrev pub sign_at : ℕ → List ℕ → Token
sign_at b bs = if b == 59 then t.Sign sign.Semicolon else (if b == 44 then t.Sign sign.Comma else (if b == 58 then t.Sign sign.Colon else (
    if b == 46 then t.Sign sign.Dot else (if b == 40 then t.Sign sign.Open else (if b == 41 then t.Sign sign.Close else (
    if b == 91 then t.Sign sign.OpenBracket else (if b == 93 then t.Sign sign.CloseBracket else (if b == 123 then t.Sign sign.OpenBrace else (
    if b == 125 then t.Sign sign.CloseBrace else (if b == 43 then t.Sign sign.Plus else (if b == 45 then t.Sign sign.Minus else (
    if b == 42 then t.Sign sign.Star else (if b == 47 then t.Sign sign.Slash else (if b == 61 then t.Sign sign.Equal else (
    if b == 33 then t.Sign sign.NotEqual
    else (if b == 60 then t.Sign (if is_next 61 bs then sign.AtMost else sign.Less) else t.Sign (if is_next 61 bs then sign.AtLeast else sign.Greater)))))))))))))))))

abbrev pub token_at : List ℕ → Token
token_at [] = t.End
token_at (b ∷ bs) = if begins_name b then run_at (take (prefix_len in_name (b ∷ bs)) (b ∷ bs)) else (if is_digit b then t.Number (digits_value 10 (take (prefix_len is_digit (b ∷ bs)) (b ∷ bs)))
    else (if b == 39 then t.Str (content_at 39 false bs) else (if b == 34 then t.Quoted (content_at 34 false bs) else sign_at b bs)))

-- ---- at most one

and_true : (x y : Bool) → x ≡ true → y ≡ true → (x && y) ≡ true
and_true true y e f = f
and_true false y e f = absurd cc

pub all_in_name : (s : List ℕ) → IsWordShaped s → list_all in_name s ≡ true
all_in_name [] h = absurd h
all_in_name (b ∷ s) h = and_true (in_name b) (list_all in_name s) (in_name_too (begins_name b) (is_digit b) (b == 45) h.0) h.1

pub all_digits : (s : List ℕ) → IsDigits s → list_all is_digit s ≡ true
all_digits [] h = absurd h
all_digits (x ∷ xs) h = and_true (is_digit x) (list_all is_digit xs) h.0 h.1

-- what is behind the closing quote
pub regrouped : (q : ℕ) (content rest : List ℕ) → enclosed q content ++ rest ≡ q ∷ (doubled q content ++ q ∷ rest)
regrouped q content rest = ap (λ (x : List ℕ). q ∷ x) (append_assoc (doubled q content) (q ∷ []) rest)

-- the bytes of a token begin as its kind does
module _ (b : ℕ) (bs rest : List ℕ) where
  pub heads : (x : ℕ) (xs : List ℕ) → b ∷ bs ≡ (x ∷ xs) ++ rest → b ≡ x
  heads x xs e = cc

  pub begins_as : (s : List ℕ) → b ∷ bs ≡ s ++ rest → IsWordShaped s → begins_name b ≡ true
  begins_as [] e h = absurd h
  begins_as (x ∷ xs) e h = ap begins_name (heads x xs e) ∙ h.0

  pub begins_digit : (s : List ℕ) → b ∷ bs ≡ s ++ rest → IsDigits s → is_digit b ≡ true
  begins_digit [] e h = absurd h
  begins_digit (x ∷ xs) e h = ap is_digit (heads x xs e) ∙ h.0

  -- a name or a word is the whole run
  run_token : (s : List ℕ) → b ∷ bs ≡ s ++ rest → IsWordShaped s → Stops in_name rest → token_at (b ∷ bs) ≡ run_at s
  run_token s e h stops =
      if_true (begins_name b) _ _ (begins_as s e h) ∙ ap run_at (run_of in_name (b ∷ bs) s rest e (all_in_name s h) stops)

  number_token : (s : List ℕ) → b ∷ bs ≡ s ++ rest → IsDigits s → Stops is_digit rest → token_at (b ∷ bs) ≡ t.Number (digits_value 10 s)
  number_token s e h stops =
      let digit = begins_digit s e h in
      if_false (begins_name b) _ _ (digit_no_name b digit) ∙ if_true (is_digit b) _ _ digit
      ∙ ap (λ (x : List ℕ). t.Number (digits_value 10 x)) (run_of is_digit (b ∷ bs) s rest e (all_digits s h) stops)

  string_token : (s : List ℕ) → b ∷ bs ≡ enclosed 39 s ++ rest → Stops (λ c. c == 39) rest → token_at (b ∷ bs) ≡ t.Str s
  string_token s e h = ap token_at (e ∙ regrouped 39 s rest) ∙ ap t.Str (content_of 39 s rest h)

  quoted_token : (s : List ℕ) → b ∷ bs ≡ enclosed 34 s ++ rest → Stops (λ c. c == 34) rest → token_at (b ∷ bs) ≡ t.Quoted s
  quoted_token s e h = ap token_at (e ∙ regrouped 34 s rest) ∙ ap t.Quoted (content_of 34 s rest h)

  stops_next : (left : List ℕ) → Stops (λ c. c == 61) left → is_next 61 left ≡ false
  stops_next [] h = refl
  stops_next (x ∷ xs) h = h

  sign_token : (s : Sign) → b ∷ bs ≡ sign_spelling s ++ rest → Stops (goes_on (t.Sign s)) rest → token_at (b ∷ bs) ≡ t.Sign s
  sign_token sign.Semicolon e h = ap token_at e
  sign_token sign.Comma e h = ap token_at e
  sign_token sign.Colon e h = ap token_at e
  sign_token sign.Dot e h = ap token_at e
  sign_token sign.Open e h = ap token_at e
  sign_token sign.Close e h = ap token_at e
  sign_token sign.OpenBracket e h = ap token_at e
  sign_token sign.CloseBracket e h = ap token_at e
  sign_token sign.OpenBrace e h = ap token_at e
  sign_token sign.CloseBrace e h = ap token_at e
  sign_token sign.Plus e h = ap token_at e
  sign_token sign.Minus e h = ap token_at e
  sign_token sign.Star e h = ap token_at e
  sign_token sign.Slash e h = ap token_at e
  sign_token sign.Equal e h = ap token_at e
  sign_token sign.NotEqual e h = ap token_at e
  sign_token sign.Less e h = ap token_at e ∙ ap (λ (x : Bool). t.Sign (if x then sign.AtMost else sign.Less)) (stops_next rest h)
  sign_token sign.AtMost e h = ap token_at e
  sign_token sign.Greater e h = ap token_at e ∙ ap (λ (x : Bool). t.Sign (if x then sign.AtLeast else sign.Greater)) (stops_next rest h)
  sign_token sign.AtLeast e h = ap token_at e

  -- the token is the one that the bytes begin with
  pub front_is : (token : Token) → IsAtFront token (b ∷ bs) rest → token_at (b ∷ bs) ≡ token
  front_is (t.Name name) f =
      let h = f.spells in
      let n = h.1 in
      run_token f.spelling f.split n.0 f.longest ∙ if_false (is_spelled f.spelling all_words) _ _ (not_spelled f.spelling all_words n.1) ∙ ap t.Name h.0
  front_is (t.Quoted name) f = let h = f.spells in quoted_token name (f.split ∙ ap (λ (x : List ℕ). x ++ rest) h.0) f.longest
  front_is (t.Number n) f = let h = f.spells in number_token f.spelling f.split h.0 f.longest ∙ ap t.Number (sym h.1)
  front_is (t.Str s) f = string_token s (f.split ∙ ap (λ (x : List ℕ). x ++ rest) f.spells) f.longest
  front_is (t.Word w) f =
      let e = f.spells in
      run_token (word_spelling w) (f.split ∙ ap (λ (x : List ℕ). x ++ rest) e) (word_shaped w) f.longest
      ∙ if_true (is_spelled (word_spelling w) all_words) _ _ (word_spelled w) ∙ ap t.Word (word_in_all w)
  front_is (t.Sign s) f = sign_token s (f.split ∙ ap (λ (x : List ℕ). x ++ rest) f.spells) f.longest
  front_is t.End f = absurd f.spells

-- ---- the bytes of a token

sign_some : (s : Sign) → [] ≢ sign_spelling s
sign_some sign.Semicolon e = absurd cc
sign_some sign.Comma e = absurd cc
sign_some sign.Colon e = absurd cc
sign_some sign.Dot e = absurd cc
sign_some sign.Open e = absurd cc
sign_some sign.Close e = absurd cc
sign_some sign.OpenBracket e = absurd cc
sign_some sign.CloseBracket e = absurd cc
sign_some sign.OpenBrace e = absurd cc
sign_some sign.CloseBrace e = absurd cc
sign_some sign.Plus e = absurd cc
sign_some sign.Minus e = absurd cc
sign_some sign.Star e = absurd cc
sign_some sign.Slash e = absurd cc
sign_some sign.Equal e = absurd cc
sign_some sign.NotEqual e = absurd cc
sign_some sign.Less e = absurd cc
sign_some sign.AtMost e = absurd cc
sign_some sign.Greater e = absurd cc
sign_some sign.AtLeast e = absurd cc

pub spells_some : (token : Token) → Spells token [] → ⊥
spells_some (t.Name name) h = let n = h.1 in n.0
spells_some (t.Quoted name) h = let e : [] ≡ enclosed 34 name = h.0 in absurd cc
spells_some (t.Number n) h = h.0
spells_some (t.Str s) h = let e : [] ≡ enclosed 39 s = h in absurd cc
spells_some (t.Word w) h = subst IsWordShaped (sym h) (word_shaped w)
spells_some (t.Sign s) h = sign_some s h
spells_some t.End h = h

empty_front : (s rest : List ℕ) → [] ≡ s ++ rest → s ≡ []
empty_front [] rest e = refl
empty_front (x ∷ s) rest e = absurd cc

pub none_in_nothing : (token : Token) (rest : List ℕ) → IsAtFront token [] rest → ⊥
none_in_nothing token rest f = spells_some token (subst (Spells token) (empty_front f.spelling rest f.split) f.spells)

sign_stands : (b : ℕ) (bs rest : List ℕ) (s : Sign) → b ∷ bs ≡ sign_spelling s ++ rest → is_skipped b ≡ false
sign_stands b bs rest sign.Semicolon e = ap is_skipped (heads b bs rest 59 [] e)
sign_stands b bs rest sign.Comma e = ap is_skipped (heads b bs rest 44 [] e)
sign_stands b bs rest sign.Colon e = ap is_skipped (heads b bs rest 58 [] e)
sign_stands b bs rest sign.Dot e = ap is_skipped (heads b bs rest 46 [] e)
sign_stands b bs rest sign.Open e = ap is_skipped (heads b bs rest 40 [] e)
sign_stands b bs rest sign.Close e = ap is_skipped (heads b bs rest 41 [] e)
sign_stands b bs rest sign.OpenBracket e = ap is_skipped (heads b bs rest 91 [] e)
sign_stands b bs rest sign.CloseBracket e = ap is_skipped (heads b bs rest 93 [] e)
sign_stands b bs rest sign.OpenBrace e = ap is_skipped (heads b bs rest 123 [] e)
sign_stands b bs rest sign.CloseBrace e = ap is_skipped (heads b bs rest 125 [] e)
sign_stands b bs rest sign.Plus e = ap is_skipped (heads b bs rest 43 [] e)
sign_stands b bs rest sign.Minus e = ap is_skipped (heads b bs rest 45 [] e)
sign_stands b bs rest sign.Star e = ap is_skipped (heads b bs rest 42 [] e)
sign_stands b bs rest sign.Slash e = ap is_skipped (heads b bs rest 47 [] e)
sign_stands b bs rest sign.Equal e = ap is_skipped (heads b bs rest 61 [] e)
sign_stands b bs rest sign.NotEqual e = ap is_skipped (heads b bs rest 33 (61 ∷ []) e)
sign_stands b bs rest sign.Less e = ap is_skipped (heads b bs rest 60 [] e)
sign_stands b bs rest sign.AtMost e = ap is_skipped (heads b bs rest 60 (61 ∷ []) e)
sign_stands b bs rest sign.Greater e = ap is_skipped (heads b bs rest 62 [] e)
sign_stands b bs rest sign.AtLeast e = ap is_skipped (heads b bs rest 62 (61 ∷ []) e)

at_front : (b : ℕ) (bs rest : List ℕ) (token : Token) → IsAtFront token (b ∷ bs) rest → is_skipped b ≡ false
at_front b bs rest (t.Name name) f = let h = f.spells in let n = h.1 in name_stands b (begins_as b bs rest f.spelling f.split n.0)
at_front b bs rest (t.Quoted s) f = let h = f.spells in ap is_skipped (heads b bs rest 34 (doubled 34 s ++ 34 ∷ []) (f.split ∙ ap (λ (x : List ℕ). x ++ rest) h.0))
at_front b bs rest (t.Number n) f = let h = f.spells in digit_stands b (begins_digit b bs rest f.spelling f.split h.0)
at_front b bs rest (t.Str s) f = ap is_skipped (heads b bs rest 39 (doubled 39 s ++ 39 ∷ []) (f.split ∙ ap (λ (x : List ℕ). x ++ rest) f.spells))
at_front b bs rest (t.Word w) f = name_stands b (begins_as b bs rest (word_spelling w) (f.split ∙ ap (λ (x : List ℕ). x ++ rest) f.spells) (word_shaped w))
at_front b bs rest (t.Sign s) f = sign_stands b bs rest s (f.split ∙ ap (λ (x : List ℕ). x ++ rest) f.spells)
at_front b bs rest t.End f = absurd f.spells

-- a token stands out
pub front_stands : (bytes rest : List ℕ) (token : Token) → IsAtFront token bytes rest → StandsOut bytes
front_stands [] rest token f = absurd (none_in_nothing token rest f)
front_stands (b ∷ bs) rest token f = at_front b bs rest token f

-- a number that is too large stands out
pub large_stands : (bytes : List ℕ) → IsTooLarge bytes → StandsOut bytes
large_stands [] f = absurd (subst IsDigits (empty_front f.digits f.rest f.split) f.run)
large_stands (b ∷ bs) f = digit_stands b (begins_digit b bs f.rest f.digits f.split f.run)

-- ---- at most one

same_spelling : (bytes s r s' r' : List ℕ) → bytes ≡ s ++ r → bytes ≡ s' ++ r' → s ≡ s' → r ≡ r'
same_spelling bytes s r s' r' e e' same = append_cancel_left s r r' (sym e ∙ e' ∙ ap (λ (x : List ℕ). x ++ r') (sym same))

-- the spelling of a token at the front
pub spelling_is : (token : Token) (bytes r r' : List ℕ) (f : IsAtFront token bytes r) (g : IsAtFront token bytes r') → f.spelling ≡ g.spelling
spelling_is (t.Name name) bytes r r' f g = let h = f.spells in let k = g.spells in h.0 ∙ sym k.0
spelling_is (t.Quoted name) bytes r r' f g = let h = f.spells in let k = g.spells in h.0 ∙ sym k.0
spelling_is (t.Number n) bytes r r' f g =
    let h = f.spells in
    let k = g.spells in
    sym (run_of is_digit bytes f.spelling r f.split (all_digits f.spelling h.0) f.longest) ∙ run_of is_digit bytes g.spelling r' g.split (all_digits g.spelling k.0) g.longest
spelling_is (t.Str s) bytes r r' f g = f.spells ∙ sym g.spells
spelling_is (t.Word w) bytes r r' f g = f.spells ∙ sym g.spells
spelling_is (t.Sign s) bytes r r' f g = f.spells ∙ sym g.spells
spelling_is t.End bytes r r' f g = absurd f.spells

pub rest_is : (token : Token) (bytes r r' : List ℕ) → IsAtFront token bytes r → IsAtFront token bytes r' → r ≡ r'
rest_is token bytes r r' f g = same_spelling bytes f.spelling r g.spelling r' f.split g.split (spelling_is token bytes r r' f g)

pub token_is : (bytes r r' : List ℕ) (token other : Token) → IsAtFront token bytes r → IsAtFront other bytes r' → other ≡ token
token_is [] r r' token other f g = absurd (none_in_nothing token r f)
token_is (b ∷ bs) r r' token other f g = sym (front_is b bs r' other g) ∙ front_is b bs r token f

-- a number that is too large is no token
large_number : (b : ℕ) (bs rest : List ℕ) (token : Token) → IsTooLarge (b ∷ bs) → IsAtFront token (b ∷ bs) rest → ⊥
large_number b bs rest token f g =
    let same : token ≡ t.Number (digits_value 10 f.digits) = sym (front_is b bs rest token g) ∙ number_token b bs f.rest f.digits f.split f.run f.whole in
    let n : IsAtFront (t.Number (digits_value 10 f.digits)) (b ∷ bs) rest = subst (λ (x : Token). IsAtFront x (b ∷ bs) rest) same g in
    let h = n.spells in
    absurd (omega (arith, h.2, f.large))

pub large_no_token : (bytes rest : List ℕ) (token : Token) → IsTooLarge bytes → IsAtFront token bytes rest → ⊥
large_no_token [] rest token f g = none_in_nothing token rest g
large_no_token (b ∷ bs) rest token f g = large_number b bs rest token f g
