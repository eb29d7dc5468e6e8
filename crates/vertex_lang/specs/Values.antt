-- Arithmetic of values: exact, and then brought into the range of values.
use Rattle.std.specs.Prelude.{ℤ, pos, negsuc, ◌+ℤ◌, ◌-ℤ◌, ◌*ℤ◌, neg_ℤ, int_lt, int_le, Bool, true, false, not, if◌then◌else◌, List, [], ◌∷◌}
use Rattle.std.specs.Ordering.{int_eq}
use Rattle.std.specs.Int.{int_min, int_max}
use Rattle.std.specs.Int.RustNames.{int_div}
use Rattle.graph_model.specs.GraphData.{Cell}
use Rattle.graph_model.specs.declared.value.Val.{Val}
use Rattle.graph_model.specs.declared.value.Val.TheVariants.{Nil, Num}
use Rattle.vertex_lang.specs.declared.program.Cmp.{Cmp}
use Rattle.vertex_lang.specs.declared.program.Cmp.TheVariants as cmp

-- the ends of the range: 2^63 - 1, and the same below zero
abbrev pub greatest : ℤ
greatest = pos 9_223_372_036_854_775_807

abbrev pub least : ℤ
least = negsuc 9_223_372_036_854_775_806

-- the number -(2^63), which is outside the range although the code's numbers hold it
abbrev pub lowest_number : ℤ
lowest_number = negsuc 9_223_372_036_854_775_807

abbrev pub lowest : Val
lowest = Num lowest_number

abbrev pub clamped : ℤ → ℤ
clamped z = if int_lt greatest z then greatest else (if int_lt z least then least else z)

-- ---- operations

-- the sum (true) or the difference (false)
abbrev pub exact_sum : Bool → ℤ → ℤ → ℤ
exact_sum true a b = a +ℤ b
exact_sum false a b = a -ℤ b

-- of none it is none
abbrev pub added : Bool → Val → Val → Val
added plus Nil y = Nil
added plus (Num a) Nil = Nil
added plus (Num a) (Num b) = Num (clamped (exact_sum plus a b))

-- the product of two values; of none it is none
abbrev pub multiplied : Val → Val → Val
multiplied Nil y = Nil
multiplied (Num a) Nil = Nil
multiplied (Num a) (Num b) = Num (clamped (a *ℤ b))

-- the quotient of two values, cut towards zero; of none it is none, and by 0 too
abbrev pub divided : Val → Val → Val
divided Nil y = Nil
divided (Num a) Nil = Nil
divided (Num a) (Num b) = if int_eq b (pos 0) then Nil else Num (clamped (int_div a b))

-- the product (true) or the quotient (false)
abbrev pub scaled : Bool → Val → Val → Val
scaled true x y = multiplied x y
scaled false x y = divided x y

-- with the other sign; of none it is none
abbrev pub negated : Val → Val
negated Nil = Nil
negated (Num a) = Num (clamped (neg_ℤ a))

-- the first of some values that isn't none, and else none
abbrev pub first_given : List Val → Val
first_given [] = Nil
first_given (Nil ∷ vs) = first_given vs
first_given (Num a ∷ vs) = Num a

-- the lesser of two values, where none isn't counted
abbrev pub lesser : Val → Val → Val
lesser Nil y = y
lesser (Num a) Nil = Num a
lesser (Num a) (Num b) = Num (int_min a b)

-- the greater of two values, where none isn't counted
abbrev pub greater : Val → Val → Val
greater Nil y = y
greater (Num a) Nil = Num a
greater (Num a) (Num b) = Num (int_max a b)

abbrev pub in_range : Val → Val
in_range Nil = Nil
in_range (Num a) = Num (clamped a)

-- ---- comparisons

abbrev pub number_compares : Cmp → ℤ → ℤ → Bool
number_compares cmp.Eq a b = int_eq a b
number_compares cmp.Ne a b = not (int_eq a b)
number_compares cmp.Lt a b = int_lt a b
number_compares cmp.Le a b = int_le a b
number_compares cmp.Gt a b = int_lt b a
number_compares cmp.Ge a b = int_le b a

-- with none on either side it is false
abbrev pub compares : Cmp → Val → Val → Bool
compares sign Nil y = false
compares sign (Num a) Nil = false
compares sign (Num a) (Num b) = number_compares sign a b

abbrev pub is_nil : Val → Bool
is_nil Nil = true
is_nil (Num a) = false

-- ---- what is read

-- what a cell holds, as a value: none where it is absent
abbrev pub value_of_cell : Cell → Val
value_of_cell Cell.absent = Nil
value_of_cell (Cell.int z) = Num z
value_of_cell (Cell.str bytes) = Nil
value_of_cell (Cell.bool b) = Nil
