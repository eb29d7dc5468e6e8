-- Whole numbers as they are spelled.
use Rattle.std.proofs.Common.{◌≡◌, ◌≢◌, ◌∙◌, ℕ, zero, suc, ◌+◌, ◌-◌, ◌*◌, ◌<◌, ◌≤◌, ◌^◌, ◌&&◌, Bool, true, false, ℤ, pos, negsuc, List, [], ◌∷◌, length, drop, get_or, Option, Some, None, refl, sym, ap, subst, arith, add-one, drop-cons, decimal, IfSome, IfNone}
use Rattle.std.specs.Fmt.{signed_decimal}
use Rattle.std.specs.Char.{digit_value, is_ascii_digit}
use Rattle.std.specs.Int.{IsInRange}
use Rattle.std.specs.Str.{all_ascii_digits}
use Rattle.std.specs.Str.Parse.{digits_value, digits_value_after}
use Rattle.std.proofs.lemmas.Bool.Decides.{nat_tests}
use Rattle.std.proofs.lemmas.Fmt.{decimal-digits_value, decimal_digit, decimal_injective, decimal_nonempty, digits_decimal, digits_value-decimal, first_decimal}
use Rattle.std.proofs.lemmas.List.Elements.{All-from_get_or}
use Rattle.std.proofs.lemmas.Str.Parse.{IsNumeralModel, not_in_digits, numerals_by_value, tells_all_ascii_digits}
use Rattle.graph_model.specs.declared.value.Val.{Val}
use Rattle.graph_model.specs.declared.value.Val.TheVariants.{Nil, Num}
use Rattle.result_tables.specs.TableText.{value_text}
use Rattle.change_text.specs.Blocks.{IsValue}
use Rattle.change_text.specs.Inside.{Lacks, ReadsNumber, ReadsRounds, ReadsValue}
use Rattle.change_text.proofs.Split.{same_head, same_tail, lacks_cons}

own : IsNumeralModel (λ ds. all_ascii_digits ds ≡ true) (digits_value 10)
own = numerals_by_value (λ ds. all_ascii_digits ds ≡ true) tells_all_ascii_digits

-- ---- a loop over digits

both : (x y : Bool) → (x && y) ≡ true → (x ≡ true) × (y ≡ true)
both true y e = (refl, e)
both false y e = absurd cc

digit_is : (b : ℕ) → is_ascii_digit b ≡ true → digit_value b ≡ b - 48
digit_is b h = grind (arith, nat_tests)

grows : (v : ℕ) (ds : List ℕ) → v ≤ digits_value_after 10 v ds
grows v [] = omega arith
grows v (d ∷ ds) = let k : v * 10 + digit_value d ≤ digits_value_after 10 (v * 10 + digit_value d) ds = grows (v * 10 + digit_value d) ds in omega (arith, k)

-- the first of what is left is no digit
pub no_digit : (i : ℕ) (ds : List ℕ) → i < length ds → is_ascii_digit (get_or ds i 0) ≡ false → all_ascii_digits (drop i ds) ≡ all_ascii_digits ds → all_ascii_digits ds ≡ true → ⊥
no_digit i ds lt never same all =
    let cut : all_ascii_digits (get_or ds i 0 ∷ drop (suc i) ds) ≡ true = sym (ap all_ascii_digits (drop-cons ds i 0 lt)) ∙ same ∙ all in
    let is_so : is_ascii_digit (get_or ds i 0) ≡ true = (both (is_ascii_digit (get_or ds i 0)) (all_ascii_digits (drop (suc i) ds)) cut).0 in
    cc

-- another digit makes the number too large
pub too_large : (v i : ℕ) (ds : List ℕ) → i < length ds → 922_337_203_685_477_580 < v → digits_value_after 10 v (drop i ds) ≡ digits_value_after 10 0 ds → 2 ^ 63 ≤ digits_value 10 ds
too_large v i ds lt over same =
    let cut : digits_value_after 10 (v * 10 + digit_value (get_or ds i 0)) (drop (suc i) ds) ≡ digits_value_after 10 0 ds = sym (ap (digits_value_after 10 v) (drop-cons ds i 0 lt)) ∙ same in
    let k = grows (v * 10 + digit_value (get_or ds i 0)) (drop (suc i) ds) in
    omega (arith, cut, k)

-- one more digit
pub all_step : (i : ℕ) (ds : List ℕ) → i < length ds → is_ascii_digit (get_or ds i 0) ≡ true → all_ascii_digits (drop i ds) ≡ all_ascii_digits ds → all_ascii_digits (drop (i + 1) ds) ≡ all_ascii_digits ds
all_step i ds lt is_so same =
    ap (λ (b : Bool). b && all_ascii_digits (drop (i + 1) ds)) (sym is_so) ∙ ap (λ (n : ℕ). is_ascii_digit (get_or ds i 0) && all_ascii_digits (drop n ds)) (add-one i) ∙ sym (ap all_ascii_digits (drop-cons ds i 0 lt)) ∙ same

pub value_step : (v i : ℕ) (ds : List ℕ) → i < length ds → is_ascii_digit (get_or ds i 0) ≡ true → digits_value_after 10 v (drop i ds) ≡ digits_value_after 10 0 ds
    → digits_value_after 10 (v * 10 + (get_or ds i 0 - 48)) (drop (i + 1) ds) ≡ digits_value_after 10 0 ds
value_step v i ds lt is_so same =
    ap (λ (d : ℕ). digits_value_after 10 (v * 10 + d) (drop (i + 1) ds)) (sym (digit_is (get_or ds i 0) is_so))
    ∙ ap (λ (n : ℕ). digits_value_after 10 (v * 10 + digit_value (get_or ds i 0)) (drop n ds)) (add-one i) ∙ sym (ap (digits_value_after 10 v) (drop-cons ds i 0 lt)) ∙ same

-- ---- the number that digits spell

pub spelled : (ds : List ℕ) (n : ℕ) → 0 < length ds → get_or ds 0 0 ≢ 48 → all_ascii_digits ds ≡ true → digits_value 10 ds ≡ n → n < 2 ^ 63 → ReadsNumber ds (Some n)
spelled ds n some ne all is low = (
  low,
  sym (sym (ap decimal is) ∙ decimal-digits_value own ds all some (λ e. absurd (ne e)) (omega (arith, is, low))),
)

pub not_spelled : (ds : List ℕ) → (all_ascii_digits ds ≡ true → 2 ^ 63 ≤ digits_value 10 ds) → ReadsNumber ds None
not_spelled ds large n low is =
    let wide : n < 2 ^ 64 = omega (arith, low) in
    let all : all_ascii_digits ds ≡ true = subst (λ (xs : List ℕ). all_ascii_digits xs ≡ true) (sym is) (digits_decimal own n wide) in
    let value : digits_value 10 ds ≡ n = ap (digits_value 10) is ∙ digits_value-decimal own n wide in
    omega (arith, large all, value, low)

pub nothing_spelled : (ds : List ℕ) → length ds ≡ 0 → ReadsNumber ds None
nothing_spelled ds none n low is = omega (arith, decimal_nonempty n (omega (arith, low)), ap length is, none)

one_zero : (ds : List ℕ) → get_or ds 0 0 ≡ 48 → length ds ≡ 1 → ds ≡ 48 ∷ []
one_zero [] z one = absurd (omega (arith, one))
one_zero (d ∷ []) z one = ap (λ (x : ℕ). x ∷ []) z
one_zero (d ∷ e ∷ ds) z one = absurd (omega (arith, one))

pub zero_spelled : (ds : List ℕ) → get_or ds 0 0 ≡ 48 → length ds ≡ 1 → ReadsNumber ds (Some 0)
zero_spelled ds z one = (omega arith, one_zero ds z one ∙ sym (decimal_digit 0 (omega arith)))

zero_first : (n : ℕ) → n < 2 ^ 63 → get_or (decimal n) 0 0 ≡ 48 → length (decimal n) ≡ 1
zero_first zero low z = ap length (decimal_digit 0 (omega arith))
zero_first (suc n) low z = absurd (omega (arith, first_decimal (suc n) (omega arith) (omega (arith, low)), z))

pub zero_leads : (ds : List ℕ) → get_or ds 0 0 ≡ 48 → length ds ≢ 1 → ReadsNumber ds None
zero_leads ds z more n low is =
    more (ap length is ∙ zero_first n low (sym (ap (λ (xs : List ℕ). get_or xs 0 0) is) ∙ z))

pub read_by : (ds : List ℕ) (r : Option ℕ) → 0 < length ds → get_or ds 0 0 ≢ 48 → IfSome r (λ n. all_ascii_digits ds ≡ true) → IfSome r (λ n. digits_value 10 ds ≡ n) → IfSome r (λ n. n < 2 ^ 63)
    → IfNone r (all_ascii_digits ds ≡ true → 2 ^ 63 ≤ digits_value 10 ds) → ReadsNumber ds r
read_by ds None some ne all value low large = not_spelled ds large
read_by ds (Some n) some ne all value low large = spelled ds n some ne all value low

-- more than 2^32 - 1 rounds
pub too_many : (ds : List ℕ) (m : ℕ) → ReadsNumber ds (Some m) → 4_294_967_295 < m → ReadsRounds ds None
too_many ds m read over n low e =
    let same : m ≡ n = decimal_injective m n (omega (arith, read.0)) (omega (arith, low)) (sym read.1 ∙ e) in
    omega (arith, same, over, low)

-- ---- what digits lack

pub lacks_in : (s n : ℕ) → (IsInRange 48 57 s → ⊥) → n < 2 ^ 64 → Lacks s (decimal n)
lacks_in s n out wide = All-from_get_or (λ (b : ℕ). b ≢ s) (decimal n) 0 (λ i lt. not_in_digits own (decimal n) s (digits_decimal own n wide) out i lt)

module _ (s : ℕ) (out : IsInRange 48 57 s → ⊥) (apart : 45 ≢ s) where
  lacks_number : (z : ℤ) → IsValue (Num z) → Lacks s (signed_decimal z)
  lacks_number (pos n) is = lacks_in s n out (omega (arith, is))
  lacks_number (negsuc n) is = lacks_cons s 45 (decimal (suc n)) apart (lacks_in s (suc n) out (omega (arith, is)))

  pub lacks_value : (v : Val) → IsValue v → Lacks s (value_text v)
  lacks_value Nil is = lacks_cons s 45 [] apart (λ k d lt. absurd (omega (arith, lt)))
  lacks_value (Num (pos n)) is = lacks_number (pos n) is
  lacks_value (Num (negsuc n)) is = lacks_number (negsuc n) is

-- ---- values

first_of : (n c : ℕ) (bs : List ℕ) → n < 2 ^ 64 → c ∷ bs ≡ decimal n → c ≡ 45 → ⊥
first_of n c bs wide e minus =
    let in_range : IsInRange 48 57 45 → ⊥ = λ r. omega (arith, r.0) in
    lacks_in 45 n in_range wide 0 0 (omega (arith, ap length e)) (sym (ap (λ (xs : List ℕ). get_or xs 0 0) e) ∙ minus)

-- a minus alone
pub none_read : (rest : List ℕ) → length rest ≡ 0 → ReadsValue (45 ∷ rest) (Some Nil)
none_read [] z = (tt, refl)
none_read (b ∷ bs) z = absurd (omega (arith, z))

pub below_read : (n : ℕ) (z : ℤ) (rest : List ℕ) → z ≡ negsuc n → suc n < 2 ^ 63 → rest ≡ decimal (suc n) → ReadsValue (45 ∷ rest) (Some (Num z))
below_read n (pos m) rest is low e = absurd cc
below_read n (negsuc m) rest is low e =
    let same : m ≡ n = cc in (
      omega (arith, same, low),
      ap (λ (bs : List ℕ). 45 ∷ bs) (e ∙ ap (λ (k : ℕ). decimal (suc k)) (sym same)),
    )

pub zero_below : (rest : List ℕ) → rest ≡ decimal 0 → ReadsValue (45 ∷ rest) None
zero_below rest e Nil is f = absurd (omega (arith, decimal_nonempty 0 (omega arith), ap length e, ap length (same_tail f)))
zero_below rest e (Num (pos n)) is f = absurd (first_of n 45 rest (omega (arith, is)) f refl)
zero_below rest e (Num (negsuc n)) is f = absurd (omega (arith, decimal_injective 0 (suc n) (omega arith) (omega (arith, is)) (sym e ∙ same_tail f)))

pub below_not_read : (rest : List ℕ) → 0 < length rest → ReadsNumber rest None → ReadsValue (45 ∷ rest) None
below_not_read rest some never Nil is f = omega (arith, some, ap length (same_tail f))
below_not_read rest some never (Num (pos n)) is f = first_of n 45 rest (omega (arith, is)) f refl
below_not_read rest some never (Num (negsuc n)) is f = never (suc n) (omega (arith, is)) (same_tail f)

pub plain_read : (n : ℕ) (z : ℤ) (bytes : List ℕ) → z ≡ pos n → n < 2 ^ 63 → bytes ≡ decimal n → ReadsValue bytes (Some (Num z))
plain_read n (pos m) bytes is low e = let same : m ≡ n = cc in (omega (arith, same, low), e ∙ ap decimal (sym same))
plain_read n (negsuc m) bytes is low e = absurd cc

pub plain_not_read : (b : ℕ) (bs : List ℕ) → b ≢ 45 → ReadsNumber (b ∷ bs) None → ReadsValue (b ∷ bs) None
plain_not_read b bs ne never Nil is f = ne (same_head f)
plain_not_read b bs ne never (Num (pos n)) is f = never n is f
plain_not_read b bs ne never (Num (negsuc n)) is f = ne (same_head f)

pub nothing_read : ReadsValue [] None
nothing_read Nil is f = absurd cc
nothing_read (Num (pos n)) is f = omega (arith, decimal_nonempty n (omega (arith, is)), ap length f)
nothing_read (Num (negsuc n)) is f = absurd cc

pub no_bytes_read : (bytes : List ℕ) → length bytes ≡ 0 → ReadsValue bytes None
no_bytes_read [] z = nothing_read
no_bytes_read (b ∷ bs) z = absurd (omega (arith, z))

-- ---- one value has one spelling

pub same_value_text : (v w : Val) → IsValue v → IsValue w → value_text v ≡ value_text w → v ≡ w
same_value_text Nil Nil p q e = refl
same_value_text Nil (Num (pos n)) p q e = absurd (first_of n 45 [] (omega (arith, q)) e refl)
same_value_text Nil (Num (negsuc n)) p q e = absurd (omega (arith, decimal_nonempty (suc n) (omega (arith, q)), ap length (same_tail e)))
same_value_text (Num (pos n)) Nil p q e = absurd (first_of n 45 [] (omega (arith, p)) (sym e) refl)
same_value_text (Num (negsuc n)) Nil p q e = absurd (omega (arith, decimal_nonempty (suc n) (omega (arith, p)), ap length (same_tail e)))
same_value_text (Num (pos m)) (Num (pos n)) p q e = ap (λ (k : ℕ). Num (pos k)) (decimal_injective m n (omega (arith, p)) (omega (arith, q)) e)
same_value_text (Num (pos m)) (Num (negsuc n)) p q e = absurd (first_of m 45 (decimal (suc n)) (omega (arith, p)) (sym e) refl)
same_value_text (Num (negsuc m)) (Num (pos n)) p q e = absurd (first_of n 45 (decimal (suc m)) (omega (arith, q)) e refl)
same_value_text (Num (negsuc m)) (Num (negsuc n)) p q e =
    let same : suc m ≡ suc n = decimal_injective (suc m) (suc n) (omega (arith, p)) (omega (arith, q)) (same_tail e) in
    ap (λ (k : ℕ). Num (negsuc k)) (omega (arith, same))
