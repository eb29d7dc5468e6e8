-- What a loop over digits keeps.
use Rattle.std.proofs.Common.{◌≡◌, ◌∙◌, sym, ap, refl, ℕ, ◌+◌, ◌-◌, ◌*◌, ◌<◌, ◌≤◌, ◌^◌, true, List, [], ◌∷◌, length, take, map, get_or, arith, lit<, lit≤}
use Rattle.std.specs.Char.{is_ascii_digit}
use Rattle.std.specs.Int.Digits.{number_from_digits}
use Rattle.std.specs.List.{list_all}
use Rattle.std.proofs.lemmas.List.{take_more, map-append}
use Rattle.std.proofs.lemmas.List.Folds.{list_all_more}
use Rattle.std.proofs.lemmas.Int.Digits.{number_push}
use Rattle.std.proofs.lemmas.Grind.{pow_more}
use Rattle.std.proofs.Math.Nat.{pow-le-pow_right}
use Rattle.graph_loader.specs.Spelling.{decimal}

-- a prefix of digits and its value
pub record Read (bytes : List ℕ) (i value : ℕ) : Type 0 where
  pub digits : list_all is_ascii_digit (take i bytes) ≡ true
  pub is : value ≡ decimal (take i bytes)
  pub small : value < 10 ^ i

pub fits : (bytes : List ℕ) (i value d : ℕ) → Read bytes i value → i < length bytes → length bytes ≤ 19 → d < 10 → value * 10 + d < 2 ^ 64
fits bytes i value d r lt few digit =
    let up : 10 ^ (i + 1) ≤ 10 ^ 19 = pow-le-pow_right {n = 10} (lit< tt) {i = i + 1} {j = 19} (omega arith) in
    let more = pow_more 10 i in
    let small = r.small in
    let limit : 10 ^ 19 ≤ 2 ^ 64 = lit≤ tt in
    omega arith

pub decimal_more : (bytes : List ℕ) (i : ℕ) → i < length bytes → decimal (take (i + 1) bytes) ≡ decimal (take i bytes) * 10 + (get_or bytes i 0 - 48)
decimal_more bytes i lt =
    ap decimal (take_more bytes i 0 lt) ∙ ap (λ (ds : List ℕ). number_from_digits 10 ds) (map-append (λ b. b - 48) (take i bytes) (get_or bytes i 0 ∷ [])) ∙ number_push 10 (map (λ b. b - 48) (take i bytes)) (get_or bytes i 0 - 48)

pub read_more : (bytes : List ℕ) (i value : ℕ) → Read bytes i value → i < length bytes → is_ascii_digit (get_or bytes i 0) ≡ true → get_or bytes i 0 - 48 < 10
    → Read bytes (i + 1) (value * 10 + (get_or bytes i 0 - 48))
read_more bytes i value r lt digit small = record {
  digits = list_all_more is_ascii_digit bytes i 0 lt ∙ rw (r.digits, digit) refl;
  is = sym (decimal_more bytes i lt ∙ rw (← r.is) refl);
  small = let more = pow_more 10 i in let s = r.small in omega arith;
}
