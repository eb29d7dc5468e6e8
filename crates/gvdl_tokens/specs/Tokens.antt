-- The tokens of a script, one after the other, with their places.
use Rattle.std.specs.Prelude.{◌≡◌, ℕ, ◌≤◌, ◌^◌, List, [], ◌∷◌, ◌++◌, if◌then◌else◌, drop, nat_eq}
use Rattle.std.specs.List.{starts_with}
use Rattle.std.specs.Str.{IsUtf8}
use Rattle.std.specs.Str.Parse.{digits_value}
use Rattle.gvdl_tokens.specs.declared.token.Token.{Token}
use Rattle.gvdl_tokens.specs.declared.token.Token.TheVariants as t
use Rattle.gvdl_tokens.specs.declared.token.Kind.{Kind}
use Rattle.gvdl_tokens.specs.declared.token.Kind.TheVariants as kind
use Rattle.gvdl_tokens.specs.declared.place.Place.{Place}
use Rattle.gvdl_tokens.specs.declared.tokens.Ending.{Ending}
use Rattle.gvdl_tokens.specs.declared.tokens.Ending.TheVariants as ending
use Rattle.gvdl_tokens.specs.declared.tokens.Tokens.{Tokens}
use Rattle.gvdl_tokens.specs.Characters.{is_digit, Stops, IsGap, IsLastGap, StandsOut, place_behind}
use Rattle.gvdl_tokens.specs.Spelling.{IsDigits, Spells, goes_on}

-- the token without what it carries
abbrev pub kind_of : Token → Kind
kind_of (t.Name name) = kind.Name
kind_of (t.Quoted name) = kind.Quoted
kind_of (t.Number n) = kind.Number
kind_of (t.Str s) = kind.Str
kind_of (t.Word w) = kind.Word w
kind_of (t.Sign s) = kind.Sign s
kind_of t.End = kind.End

-- The bytes are the spelling of the token and the rest, and the token is as long as it can be.
pub record IsAtFront (token : Token) (bytes rest : List ℕ) : Type 0 where
  pub spelling : List ℕ
  pub split : bytes ≡ spelling ++ rest
  pub spells : Spells token spelling
  pub longest : Stops (goes_on token) rest

-- The bytes are a gap, the token and the rest.
pub record IsNext (token : Token) (bytes rest : List ℕ) : Type 0 where
  pub gap : List ℕ
  pub behind : List ℕ
  pub split : bytes ≡ gap ++ behind
  pub skipped : IsGap gap
  pub front : IsAtFront token behind rest

-- The bytes begin with a run of digits whose value is above the greatest number.
pub record IsTooLarge (bytes : List ℕ) : Type 0 where
  pub digits : List ℕ
  pub rest : List ℕ
  pub split : bytes ≡ digits ++ rest
  pub run : IsDigits digits
  pub whole : Stops is_digit rest
  pub large : 2 ^ 63 ≤ digits_value 10 digits

-- Something stands at the front of the bytes that is no token: no blank, no comment, no token and no run of digits.
pub record IsNoToken (bytes : List ℕ) : Type 0 where
  pub stands : StandsOut bytes
  pub none : (token : Token) (rest : List ℕ) → IsAtFront token bytes rest → ⊥
  pub small : IsTooLarge bytes → ⊥

-- The bytes are a gap and something of this kind, at this place.
pub record Meets (P : List ℕ → Type 0) (before bytes : List ℕ) (place : Place) : Type 0 where
  pub gap : List ℕ
  pub behind : List ℕ
  pub split : bytes ≡ gap ++ behind
  pub skipped : IsGap gap
  pub here : P behind
  pub place_is : place ≡ place_behind (before ++ gap)

-- What the bytes that come after `before` hold, where no token comes next: the end of the text, or a lexical fault.
abbrev pub EndsSo : List ℕ → List ℕ → Ending → Type 0
EndsSo before bytes (ending.End place) = IsLastGap bytes × (place ≡ place_behind (before ++ bytes))
EndsSo before bytes (ending.Syntax place) = Meets IsNoToken before bytes place
EndsSo before bytes (ending.NumberTooLarge place) = Meets IsTooLarge before bytes place

-- The tokens of the bytes that come after `before`, each with its place, up to the end or the first lexical fault.
abbrev pub Lexes : List ℕ → List ℕ → List Token → List Place → Ending → Type 0
Lexes before bytes [] [] end = EndsSo before bytes end
Lexes before bytes [] (place ∷ places) end = ⊥
Lexes before bytes (token ∷ tokens) [] end = ⊥
Lexes before bytes (token ∷ tokens) (place ∷ places) end =
    (rest : List ℕ) × (next : IsNext token bytes rest) × (place ≡ place_behind (before ++ next.gap)) × Lexes (before ++ next.gap ++ next.front.spelling) rest tokens places end

-- the bytes EF BB BF
abbrev pub byte_order_mark : List ℕ
byte_order_mark = 0xEF ∷ 0xBB ∷ 0xBF ∷ []

-- what follows one byte order mark at the start, where there is one
abbrev pub unmarked : List ℕ → List ℕ
unmarked text = if starts_with nat_eq text byte_order_mark then drop 3 text else text

-- The text is UTF-8, and these are its tokens.
pub record HasTokens (text : List ℕ) (all : Tokens) : Type 0 where
  pub utf8 : IsUtf8 text
  pub lexed : Lexes [] (unmarked text) all.tokens all.places all.ending
