-- The spelling of a token that a printer writes, and tokens that are laid out one after the other.
use Rattle.std.specs.Prelude.{◌≡◌, ℕ, Bool, true, false, List, [], ◌∷◌, ◌++◌, map}
use Rattle.std.specs.Fmt.{decimal}
use Rattle.std.specs.Str.{IsUtf8}
use Rattle.gvdl_tokens.specs.declared.token.Token.{Token}
use Rattle.gvdl_tokens.specs.declared.token.Token.TheVariants as t
use Rattle.gvdl_tokens.specs.declared.token.Sign.{Sign}
use Rattle.gvdl_tokens.specs.declared.token.Sign.TheVariants as sign
use Rattle.gvdl_tokens.specs.declared.place.Place.{Place}
use Rattle.gvdl_tokens.specs.declared.tokens.Ending.TheVariants as ending
use Rattle.gvdl_tokens.specs.Characters.{IsGap, IsLastGap}
use Rattle.gvdl_tokens.specs.Spelling.{word_spelling, sign_spelling, enclosed, Spells, goes_on}
use Rattle.gvdl_tokens.specs.Tokens.{HasTokens}

-- the spelling that a printer writes: numbers without leading zeros
abbrev pub spell : Token → List ℕ
spell (t.Name name) = name
spell (t.Quoted name) = enclosed 34 name
spell (t.Number n) = decimal n
spell (t.Str s) = enclosed 39 s
spell (t.Word w) = word_spelling w
spell (t.Sign s) = sign_spelling s
spell t.End = []

-- Some characters spell the token, and its own spelling is UTF-8.
pub record IsPrintable (token : Token) : Type 0 where
  pub bytes : List ℕ
  pub spelled : Spells token bytes
  pub utf8 : IsUtf8 (spell token)

abbrev pub ArePrintable : List Token → Type 0
ArePrintable [] = Unit {0}
ArePrintable (token ∷ tokens) = IsPrintable token × ArePrintable tokens

-- whether the first byte passes the test
abbrev pub first_passes : (ℕ → Bool) → List ℕ → Bool
first_passes test [] = false
first_passes test (b ∷ bs) = test b

-- whether the second token, right after the first, would change what the first is read as
abbrev pub needs_gap : Token → Token → Bool
needs_gap first second = first_passes (goes_on first) (spell second)

-- ---- tokens with gaps between them

-- a token, and the blanks and comments before it
pub record Laid : Type 0 where
  pub gap : List ℕ
  pub token : Token

-- the text of such tokens, with a gap at its end
abbrev pub text_of : List Laid → List ℕ → List ℕ
text_of [] last = last
text_of (x ∷ more) last = x.gap ++ (spell x.token ++ text_of more last)

-- no gap is left out between this token and the next where one is needed
abbrev pub IsApart : Token → List Laid → Type 0
IsApart token [] = Unit {0}
IsApart token (x ∷ more) = x.gap ≡ [] → needs_gap token x.token ≡ false

abbrev pub IsLayout : List Laid → Type 0
IsLayout [] = Unit {0}
IsLayout (x ∷ more) = IsGap x.gap × IsUtf8 x.gap × IsPrintable x.token × IsApart x.token more × IsLayout more

-- a gap at the end of a text, in UTF-8
abbrev pub IsLast : List ℕ → Type 0
IsLast last = IsLastGap last × IsUtf8 last

-- Tokens that are laid out are read as themselves, up to the end of the text.
pub record IsReadAgain (laid : List Laid) (last : List ℕ) : Type 0 where
  pub places : List Place
  pub end : Place
  pub has : HasTokens (text_of laid last) (record { tokens = map (λ x. x.token) laid; places = places; ending = ending.End end })

-- ---- where no gap is needed

-- a sign that no token goes on with
abbrev pub stands_close : Sign → Bool
stands_close sign.Equal = false
stands_close sign.Minus = false
stands_close s = true

-- a sign that goes on with nothing
abbrev pub is_closed : Sign → Bool
is_closed sign.Less = false
is_closed sign.Greater = false
is_closed s = true
