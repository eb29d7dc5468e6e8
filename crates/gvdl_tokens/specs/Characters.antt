-- Kinds of characters, by their codes, and places in a text.
use Rattle.std.specs.Prelude.{◌≡◌, ◌⊎◌, ℕ, ◌+◌, Bool, true, false, not, ◌&&◌, ◌||◌, nat_le, ◌==◌, if◌then◌else◌, List, [], ◌∷◌, ◌++◌, length, count_by}
use Rattle.std.specs.List.{concat, list_all, list_any}
use Rattle.gvdl_tokens.specs.declared.place.Place.{Place}

-- space, tab, CR or LF
abbrev pub is_blank : ℕ → Bool
is_blank b = b == 32 || b == 9 || b == 13 || b == 10

abbrev pub is_digit : ℕ → Bool
is_digit b = nat_le 48 b && nat_le b 57

-- an ASCII letter or _
abbrev pub begins_name : ℕ → Bool
begins_name b = (nat_le 65 b && nat_le b 90) || (nat_le 97 b && nat_le b 122) || b == 95

-- one of these, a digit or -
abbrev pub in_name : ℕ → Bool
in_name b = begins_name b || is_digit b || b == 45

-- LF, which ends a line
abbrev pub is_line_end : ℕ → Bool
is_line_end b = b == 10

-- any other character
abbrev pub in_line : ℕ → Bool
in_line b = not (b == 10)

-- no byte that passes the test comes first
abbrev pub Stops : (ℕ → Bool) → List ℕ → Type 0
Stops test [] = Unit {0}
Stops test (b ∷ bs) = test b ≡ false

-- ---- what stands between tokens

-- # and what follows on its line
abbrev pub IsComment : List ℕ → Type 0
IsComment bytes = (words : List ℕ) × (bytes ≡ 35 ∷ words) × (list_all in_line words ≡ true)

-- a blank, or a comment with the LF that ends it
abbrev pub IsSkipped : List ℕ → Type 0
IsSkipped bytes = ((b : ℕ) × (bytes ≡ b ∷ []) × (is_blank b ≡ true)) ⊎ ((comment : List ℕ) × (bytes ≡ comment ++ 10 ∷ []) × IsComment comment)

abbrev pub AreSkipped : List (List ℕ) → Type 0
AreSkipped [] = Unit {0}
AreSkipped (piece ∷ pieces) = IsSkipped piece × AreSkipped pieces

-- any number of blanks and of comments with the LF that ends them
pub record IsGap (bytes : List ℕ) : Type 0 where
  pub pieces : List (List ℕ)
  pub whole : bytes ≡ concat pieces
  pub skipped : AreSkipped pieces

-- such a gap, at the end of a text: the text may end in a comment
abbrev pub IsLastGap : List ℕ → Type 0
IsLastGap bytes = IsGap bytes ⊎ ((gap : List ℕ) × (comment : List ℕ) × (bytes ≡ gap ++ comment) × IsGap gap × IsComment comment)

-- there is a byte, and it is no blank and begins no comment
abbrev pub StandsOut : List ℕ → Type 0
StandsOut [] = ⊥
StandsOut (b ∷ bs) = (is_blank b || b == 35) ≡ false

-- ---- places

-- what follows the last LF
abbrev pub last_line : List ℕ → List ℕ
last_line [] = []
last_line (b ∷ bs) = if list_any is_line_end (b ∷ bs) then last_line bs else b ∷ bs

-- the place behind these bytes, which are those of a text from its start on
abbrev pub place_behind : List ℕ → Place
place_behind bytes = record { line = 1 + count_by is_line_end bytes; column = 1 + length (last_line bytes) }
