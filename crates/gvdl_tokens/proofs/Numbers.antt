-- The value of some digits is no less than that of those at its front.
use Rattle.std.proofs.Common.{◌≡◌, ◌+◌, ◌-◌, ◌*◌, ◌/◌, ◌≤◌, ◌<◌, ℕ, suc, true, List, [], ◌∷◌, length, drop, get_or, sym, subst, ◌∙◌, drop-cons, arith}
use Rattle.std.specs.List.{list_all}
use Rattle.std.specs.Char.{digit_value}
use Rattle.std.specs.Str.Parse.{digits_value_after}
use Rattle.std.proofs.lemmas.Bool.Decides.{nat_tests}
use Rattle.gvdl_tokens.specs.Characters.{is_digit}
use Rattle.gvdl_tokens.proofs.Runs.{both}

one_on : (v d n : ℕ) → v * 10 + d ≤ n → v ≤ n
one_on v d n h = omega arith

grows : (v : ℕ) (ds : List ℕ) → v ≤ digits_value_after 10 v ds
grows v [] = omega arith
grows v (d ∷ ds) = one_on v (digit_value d) (digits_value_after 10 (v * 10 + digit_value d) ds) (grows (v * 10 + digit_value d) ds)

digit_is : (b : ℕ) → is_digit b ≡ true → digit_value b ≡ b - 48
digit_is b h = grind (arith, nat_tests)

digit_small : (b : ℕ) → is_digit b ≡ true → b - 48 < 10
digit_small b h = grind (arith, nat_tests)

past_limit : (v d n : ℕ) → d < 10 → (9223372036854775807 - d) / 10 < v → v * 10 + d ≤ n → 9223372036854775808 ≤ n
past_limit v d n small h le = omega arith

at_front : (v b d : ℕ) (rest bs : List ℕ) → rest ≡ b ∷ bs → list_all is_digit rest ≡ true → d ≡ b - 48 → (9223372036854775807 - d) / 10 < v → 9223372036854775808 ≤ digits_value_after 10 v rest
at_front v b d rest bs e h f over =
    let k = both (is_digit b) (list_all is_digit bs) (subst (λ (x : List ℕ). list_all is_digit x ≡ true) e h) in
    let value : digit_value b ≡ d = digit_is b k.0 ∙ sym f in
    past_limit v d (digits_value_after 10 v rest) (subst (λ (x : ℕ). x < 10) (sym f) (digit_small b k.0)) over
    (subst (λ (x : List ℕ). v * 10 + d ≤ digits_value_after 10 v x) (sym e) (subst (λ (x : ℕ). v * 10 + x ≤ digits_value_after 10 v (b ∷ bs)) value (grows (v * 10 + digit_value b) bs)))

pub too_large : (v d i : ℕ) (digits : List ℕ) → i < length digits → list_all is_digit (drop i digits) ≡ true → d ≡ get_or digits i 0 - 48 → (9223372036854775807 - d) / 10 < v
    → digits_value_after 10 v (drop i digits) ≡ digits_value_after 10 0 digits → 9223372036854775808 ≤ digits_value_after 10 0 digits
too_large v d i digits lt h f over same =
    subst (λ (x : ℕ). 9223372036854775808 ≤ x) same (at_front v (get_or digits i 0) d (drop i digits) (drop (suc i) digits) (drop-cons digits i 0 lt) h f over)
