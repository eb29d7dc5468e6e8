-- How a call moves the count of those that failed.
use Rattle.std.proofs.Common.{◌≡◌, ◌∙◌, ℕ, suc, ◌+◌, ◌<◌, ◌≤◌, Bool, true, cond, ◌&&◌, List, ap, sym, subst, arith, ⊎_elim, ◌^◌, ◌==◌}
use Rattle.std.specs.List.{list_any}
use Rattle.std.proofs.lemmas.Bool.{cases_lt, lt-ltb}
use Rattle.std.proofs.lemmas.Bool.Decides.{nat_tests}
use Rattle.surge_outside.specs.Counts.{last_count, HasRisen, next_count, is_failing, failures_among}

-- a call that is numbered
failures-next : (fails : List ℕ) (calls : ℕ) → calls < last_count → failures_among fails (next_count calls) ≡ failures_among fails calls + cond (is_failing fails calls) 1 0
failures-next fails calls lt =
    let next : next_count calls ≡ suc calls = omega arith in
    ap (failures_among fails) next

-- a call after the last number
failures-last : (fails : List ℕ) (calls : ℕ) → calls ≡ last_count → failures_among fails (next_count calls) ≡ failures_among fails calls
failures-last fails calls is =
    let next : next_count calls ≡ calls = omega arith in
    ap (failures_among fails) next

numbered : (fails : List ℕ) (calls : ℕ) → is_failing fails calls ≡ true → calls < last_count
numbered fails calls failing = grind (arith, nat_tests)

risen-one : (old new one : ℕ) → new ≡ old + one → one ≡ 1 → HasRisen old new
risen-one old new one is once = omega arith

pub failures-failed : (fails : List ℕ) (calls : ℕ) → is_failing fails calls ≡ true → HasRisen (failures_among fails calls) (failures_among fails (next_count calls))
failures-failed fails calls failing =
    risen-one _ _ _ (failures-next fails calls (numbered fails calls failing)) (ap (λ (b : Bool). cond b 1 0) failing)

pub failures-kept : (fails : List ℕ) (calls : ℕ) → calls ≤ last_count → failures_among fails calls ≤ failures_among fails (next_count calls)
failures-kept fails calls le = ⊎_elim below at_end (cases_lt calls last_count) where
  below : calls < last_count → failures_among fails calls ≤ failures_among fails (next_count calls)
  below lt = omega (arith, failures-next fails calls lt)

  at_end : last_count ≤ calls → failures_among fails calls ≤ failures_among fails (next_count calls)
  at_end ge = omega (arith, failures-last fails calls (omega arith))

-- a call whose number is found among those that fail
pub found-risen : (fails : List ℕ) (calls number : ℕ) (found : Bool) → calls + 1 < 2 ^ 64 → number ≡ calls + 1 → found ≡ list_any (λ n. n == number) fails → found ≡ true → HasRisen (failures_among fails calls) (failures_among fails number)
found-risen fails calls number found fits is looked listed_one =
    let lt : calls < last_count = omega arith in
    let next : next_count calls ≡ number = omega arith in
    let listed : list_any (λ n. n == calls + 1) fails ≡ true = ap (λ m. list_any (λ n. n == m) fails) (sym is) ∙ sym looked ∙ listed_one in
    let failing : is_failing fails calls ≡ true = ap (λ b. b && list_any (λ n. n == calls + 1) fails) (lt-ltb calls last_count lt) ∙ listed in
    subst (λ n. HasRisen (failures_among fails calls) (failures_among fails n)) next (failures-failed fails calls failing)
