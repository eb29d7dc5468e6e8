-- Tokens with what is said of the space around them, and how they are laid out in a line.
use Rattle.std.specs.Prelude.{ℕ, Bool, true, false, ◌||◌, if◌then◌else◌, List, [], ◌∷◌, ◌++◌, map}
use Rattle.gvdl_tokens.specs.declared.token.Token.{Token}
use Rattle.gvdl_tokens.specs.declared.token.Token.TheVariants as t
use Rattle.gvdl_tokens.specs.declared.token.Sign.{Sign}
use Rattle.gvdl_tokens.specs.declared.token.Sign.TheVariants as s
use Rattle.gvdl_tokens.specs.declared.word.Word.{Word}
use Rattle.gvdl_tokens.specs.Printing.{spell}

-- ---- pieces

-- a token, and whether it is a ( or a - that belongs to its neighbour: the ( of a call, of a program's parameters, of min
-- or of max, and the - that subtracts nothing
pub record Piece : Type 0 where
  pub token : Token
  pub tight : Bool

-- any other token
abbrev pub plain : Token → Piece
plain token = record { token = token; tight = false }

abbrev pub word : Word → Piece
word w = plain (t.Word w)

abbrev pub sign : Sign → Piece
sign s = plain (t.Sign s)

abbrev pub call_open : Piece
call_open = record { token = t.Sign s.Open; tight = true }

abbrev pub negative_sign : Piece
negative_sign = record { token = t.Sign s.Minus; tight = true }

-- the tokens of pieces
abbrev pub tokens : List Piece → List Token
tokens pieces = map (λ piece. piece.token) pieces

-- ---- spaces

-- no space stands before ; , ) ] : . and a tight (
abbrev pub is_close_before : Sign → Bool → Bool
is_close_before s.Semicolon tight = true
is_close_before s.Comma tight = true
is_close_before s.Close tight = true
is_close_before s.CloseBracket tight = true
is_close_before s.Colon tight = true
is_close_before s.Dot tight = true
is_close_before s.Open tight = tight
is_close_before s tight = false

-- no space stands behind ( [ . and a tight -
abbrev pub is_close_behind : Sign → Bool → Bool
is_close_behind s.Open tight = true
is_close_behind s.OpenBracket tight = true
is_close_behind s.Dot tight = true
is_close_behind s.Minus tight = tight
is_close_behind s tight = false

abbrev pub starts_close : Token → Bool → Bool
starts_close (t.Sign s) tight = is_close_before s tight
starts_close token tight = false

abbrev pub ends_close : Token → Bool → Bool
ends_close (t.Sign s) tight = is_close_behind s tight
ends_close token tight = false

-- ---- lines

abbrev pub space_unless : Bool → List ℕ
space_unless close = if close then [] else 32 ∷ []

-- pieces with one space between each two that don't stand close; and whether the first stands close to what is before it
abbrev pub laid : Bool → List Piece → List ℕ
laid close [] = []
laid close (x ∷ more) = space_unless (close || starts_close x.token x.tight) ++ (spell x.token ++ laid (ends_close x.token x.tight) more)

-- pieces that nothing stands before
abbrev pub laid_out : List Piece → List ℕ
laid_out pieces = laid true pieces

-- the same, as a line
abbrev pub line : List Piece → List ℕ
line pieces = laid_out pieces ++ 10 ∷ []
