-- What one field of a data file spells. A field is a list of bytes.
use Rattle.std.specs.Prelude.{ℕ, ℤ, pos, neg_ℤ, ◌-◌, ◌^◌, Bool, true, false, not, ◌&&◌, ◌||◌, ◌==◌, nat_le, nat_lt, List, [], ◌∷◌, length, map, codes, Option, Some, None, option_map, option_and_then, if◌then◌else◌}
use Rattle.std.specs.Char.{is_ascii_digit}
use Rattle.std.specs.List.{list_all}
use Rattle.std.specs.Int.Digits.{number_from_digits}
use Rattle.std.specs.Str.{bytes_eq}
use Rattle.graph_model.specs.declared.cell.Kind.{Kind}
use Rattle.graph_model.specs.declared.cell.Kind.TheVariants as kind
use Rattle.graph_model.specs.declared.cell.Column.{Column}

-- ---- numbers

-- the number that digits stand for in base ten
abbrev pub decimal : List ℕ → ℕ
decimal digits = number_from_digits 10 (map (λ b. b - 48) digits)

-- 1 to 19 digits, of value up to 2^63 - 1
abbrev pub is_number : List ℕ → Bool
is_number field = nat_le 1 (length field) && nat_le (length field) 19 && list_all is_ascii_digit field && nat_lt (decimal field) (2 ^ 63)

-- the id of a node
abbrev pub id_spelled : List ℕ → Option ℕ
id_spelled field = if is_number field then Some (decimal field) else None

abbrev pub minus_sign : ℕ
minus_sign = 45

-- a number with or without a minus sign
abbrev pub signed_spelled : List ℕ → Option ℤ
signed_spelled [] = None
signed_spelled (b ∷ rest) =
    if b == minus_sign then option_map (λ n. neg_ℤ (pos n)) (id_spelled rest) else option_map (λ n. pos n) (id_spelled (b ∷ rest))

-- a cell of a column of whole numbers: the empty field is an absent cell
abbrev pub int_spelled : List ℕ → Option (Option ℤ)
int_spelled [] = Some None
int_spelled (b ∷ rest) = option_map (λ z. Some z) (signed_spelled (b ∷ rest))

-- ---- truth values

abbrev pub is_true_word : List ℕ → Bool
is_true_word field = bytes_eq field (codes "true") || bytes_eq field (codes "True") || bytes_eq field (codes "TRUE")

abbrev pub is_false_word : List ℕ → Bool
is_false_word field = bytes_eq field (codes "false") || bytes_eq field (codes "False") || bytes_eq field (codes "FALSE")

-- a cell of a column of truth values: the empty field is an absent cell
abbrev pub bool_spelled : List ℕ → Option (Option Bool)
bool_spelled [] = Some None
bool_spelled (b ∷ rest) = if is_true_word (b ∷ rest) then Some (Some true) else if is_false_word (b ∷ rest) then Some (Some false) else None

-- ---- the header

abbrev pub colon : ℕ
colon = 58

-- what stands before and after the last colon of `b ∷ rest`, from that of `rest`
abbrev pub cut_with : ℕ → List ℕ → Option (List ℕ × List ℕ) → Option (List ℕ × List ℕ)
cut_with b rest None = if b == colon then Some ([], rest) else None
cut_with b rest (Some p) = Some (b ∷ p.0, p.1)

-- what stands before and after the last colon
abbrev pub cut_at_last_colon : List ℕ → Option (List ℕ × List ℕ)
cut_at_last_colon [] = None
cut_at_last_colon (b ∷ rest) = cut_with b rest (cut_at_last_colon rest)

abbrev pub is_printing : ℕ → Bool
is_printing b = nat_le 32 b && not (b == 127)

-- a name that a property may have
abbrev pub is_property : List ℕ → Bool
is_property name =
    nat_le 1 (length name) && not (bytes_eq name (codes "id")) && not (bytes_eq name (codes "src")) && not (bytes_eq name (codes "dst")) && list_all is_printing name

abbrev pub kind_spelled : List ℕ → Option Kind
kind_spelled word =
    if bytes_eq word (codes "int") then Some kind.Int
    else if bytes_eq word (codes "str") then Some kind.Str
    else if bytes_eq word (codes "bool") then Some kind.Bool
    else None

-- the column of this name and this kind, if it may have this name
abbrev pub column_named : List ℕ → Kind → Option Column
column_named name k = if is_property name then Some (record { name = name; kind = k }) else None

-- the column of a property, from its field in the header, which is text: name, colon, kind
abbrev pub column_spelled : List ℕ → Option Column
column_spelled field = option_and_then (λ p. option_and_then (column_named p.0) (kind_spelled p.1)) (cut_at_last_colon field)
