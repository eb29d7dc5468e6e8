-- Numbers that stand for values, of four bytes each or of eight.
use Rattle.std.specs.Prelude.{ℤ, negsuc, if◌then◌else◌, List, map}
use Rattle.std.specs.Ordering.{int_eq}
use Rattle.vertex_lang.specs.Values.{lowest_number}
use Rattle.value_codes.specs.declared.codes.Held.{Held}
use Rattle.value_codes.specs.declared.codes.Held.TheVariants as held

-- the lowest number of four bytes
abbrev pub lowest_short : ℤ
lowest_short = negsuc 2_147_483_647

-- the number for which one of four bytes stands: the lowest one stands for none
abbrev pub widened : ℤ → ℤ
widened z = if int_eq z lowest_short then lowest_number else z

-- the numbers, however they are held
abbrev pub codes_in : Held → List ℤ
codes_in (held.Short list) = map widened list.items
codes_in (held.Long list) = list.items
