-- How often a number stands in a list.
use Rattle.std.proofs.Common.{◌≡◌, ◌≢◌, ◌∙◌, ℕ, zero, suc, ◌+◌, ◌<◌, ◌≤◌, ◌==◌, ◌⊎◌, inl, inr, Bool, true, false, not, cond, List, [], ◌∷◌, ◌++◌, length, get_or, slice_get, Some, refl, sym, ap, subst, arith}
use Rattle.std.specs.Prelude.{sum_by, IsPermutation}
use Rattle.std.specs.List.{remove}
use Rattle.std.proofs.lemmas.Bool.Decides.{eqb_tells}
use Rattle.std.proofs.lemmas.List.Sums.{sum_by-cons}
use Rattle.std.proofs.lemmas.List.Sorted.{sum_by-IsPermutation, IsPermutation-refl, IsPermutation-cons, IsPermutation-middle, IsPermutation-trans}
use Rattle.graph_model.specs.declared.number.ViewNo.{ViewNo}
use Rattle.graph_model.specs.GraphData.{AreDistinct}
use Rattle.view_order.specs.Greedy.{numbers, without}
use Rattle.view_order.specs.Places.{view}

abbrev pub one : Bool → ℕ
one b = cond b 1 0

abbrev pub times : ℕ → List ℕ → ℕ
times x [] = 0
times x (w ∷ ws) = one (w == x) + times x ws

-- each at most once
abbrev pub AreOnce : List ℕ → Type 0
AreOnce ws = (x : ℕ) → times x ws ≤ 1

abbrev pub Told : ℕ → ℕ → Type 0
Told w x = (((w == x) ≡ true) × (w ≡ x)) ⊎ (((w == x) ≡ false) × (w ≢ x))

pub some_or_none : (n : ℕ) → (n ≡ 0) ⊎ (1 ≤ n)
some_or_none n = grind arith

itself_by : (w : ℕ) → Told w w → one (w == w) ≡ 1
itself_by w (inl h) = ap one h.0
itself_by w (inr h) = absurd (h.1 refl)

pub itself : (w : ℕ) → one (w == w) ≡ 1
itself w = itself_by w (eqb_tells w w)

other_by : (w x : ℕ) → w ≢ x → Told w x → one (w == x) ≡ 0
other_by w x ne (inl h) = absurd (ne h.1)
other_by w x ne (inr h) = ap one h.0

pub other : (w x : ℕ) → w ≢ x → one (w == x) ≡ 0
other w x ne = other_by w x ne (eqb_tells w x)

pub times-append : (x : ℕ) (ws us : List ℕ) → times x (ws ++ us) ≡ times x ws + times x us
times-append x [] us = omega arith
times-append x (w ∷ ws) us = omega (arith, times-append x ws us)

times-sum : (x : ℕ) (ws : List ℕ) → times x ws ≡ sum_by (λ (w : ℕ). one (w == x)) ws
times-sum x [] = refl
times-sum x (w ∷ ws) = ap (λ (n : ℕ). one (w == x) + n) (times-sum x ws) ∙ sym (sum_by-cons (λ (v : ℕ). one (v == x)) w ws)

pub times-permutation : (x : ℕ) (ws us : List ℕ) → IsPermutation ws us → times x us ≡ times x ws
times-permutation x ws us p = times-sum x us ∙ sum_by-IsPermutation (λ (v : ℕ). one (v == x)) ws us p ∙ sym (times-sum x ws)

pub times_at : (ws : List ℕ) (i : ℕ) → i < length ws → 1 ≤ times (get_or ws i 0) ws
times_at [] i lt = absurd (omega arith)
times_at (w ∷ ws) zero lt = omega (arith, itself w)
times_at (w ∷ ws) (suc i) lt = omega (arith, times_at ws i (omega arith))

-- ---- without one of them

left_out : (n w : ℕ) (ws : List ℕ) → (w == n) ≡ true → without n (w ∷ ws) ≡ without n ws
left_out n w ws e = ap (λ (b : Bool). cond (not b) (w ∷ without n ws) (without n ws)) e

kept : (n w : ℕ) (ws : List ℕ) → (w == n) ≡ false → without n (w ∷ ws) ≡ w ∷ without n ws
kept n w ws e = ap (λ (b : Bool). cond (not b) (w ∷ without n ws) (without n ws)) e

gone_by : (n w : ℕ) (ws : List ℕ) → times n (without n ws) ≡ 0 → Told w n → times n (without n (w ∷ ws)) ≡ 0
gone_by n w ws none (inl h) = ap (times n) (left_out n w ws h.0) ∙ none
gone_by n w ws none (inr h) = ap (times n) (kept n w ws h.0) ∙ omega (arith, none, other w n h.1)

pub gone : (n : ℕ) (ws : List ℕ) → times n (without n ws) ≡ 0
gone n [] = refl
gone n (w ∷ ws) = gone_by n w ws (gone n ws) (eqb_tells w n)

still_by : (n x w : ℕ) (ws : List ℕ) → n ≢ x → times x (without n ws) ≡ times x ws → Told w n → times x (without n (w ∷ ws)) ≡ times x (w ∷ ws)
still_by n x w ws ne so_far (inl h) = ap (times x) (left_out n w ws h.0) ∙ omega (arith, so_far, other w x (λ e. ne (sym h.1 ∙ e)))
still_by n x w ws ne so_far (inr h) = ap (times x) (kept n w ws h.0) ∙ omega (arith, so_far)

pub still : (n x : ℕ) (ws : List ℕ) → n ≢ x → times x (without n ws) ≡ times x ws
still n x [] ne = refl
still n x (w ∷ ws) ne = still_by n x w ws ne (still n x ws ne) (eqb_tells w n)

fewer_by : (n x : ℕ) (ws : List ℕ) → Told n x → times x (without n ws) ≤ times x ws
fewer_by n x ws (inl h) = subst (λ (y : ℕ). times y (without n ws) ≤ times y ws) h.1 (omega (arith, gone n ws))
fewer_by n x ws (inr h) = omega (arith, still n x ws h.1)

pub once_without : (n : ℕ) (ws : List ℕ) → AreOnce ws → AreOnce (without n ws)
once_without n ws once x = omega (arith, once x, fewer_by n x ws (eqb_tells n x))

pub once_behind : (w : ℕ) (ws : List ℕ) → AreOnce (w ∷ ws) → AreOnce ws
once_behind w ws once x = omega (arith, once x)

all_by : (n w : ℕ) (ws : List ℕ) → times n (w ∷ ws) ≡ 0 → without n ws ≡ ws → Told w n → without n (w ∷ ws) ≡ w ∷ ws
all_by n w ws none so_far (inl h) = absurd (omega (arith, none, ap one h.0))
all_by n w ws none so_far (inr h) = kept n w ws h.0 ∙ ap (λ (us : List ℕ). w ∷ us) so_far

pub all_left : (n : ℕ) (ws : List ℕ) → times n ws ≡ 0 → without n ws ≡ ws
all_left n [] none = refl
all_left n (w ∷ ws) none = all_by n w ws none (all_left n ws (omega (arith, none))) (eqb_tells w n)

one_out_by : (n w : ℕ) (ws : List ℕ) → times n (w ∷ ws) ≡ 1 → (times n ws ≡ 1 → IsPermutation ws (n ∷ without n ws)) → Told w n → IsPermutation (w ∷ ws) (n ∷ without n (w ∷ ws))
one_out_by n w ws is so_far (inl h) =
    let rest : without n (w ∷ ws) ≡ ws = left_out n w ws h.0 ∙ all_left n ws (omega (arith, is, ap one h.0)) in
    subst (λ (us : List ℕ). IsPermutation (w ∷ ws) (n ∷ us)) (sym rest) (subst (λ (k : ℕ). IsPermutation (w ∷ ws) (k ∷ ws)) h.1 (IsPermutation-refl (w ∷ ws)))
one_out_by n w ws is so_far (inr h) =
    subst (λ (us : List ℕ). IsPermutation (w ∷ ws) (n ∷ us)) (sym (kept n w ws h.0))
    (IsPermutation-trans (w ∷ ws) (w ∷ n ∷ without n ws) (n ∷ w ∷ without n ws)
    (IsPermutation-cons w ws (n ∷ without n ws) (so_far (omega (arith, is, ap one h.0))))
    (IsPermutation-middle (w ∷ []) n (without n ws)))

-- one of them in front, and the others behind it
pub one_out : (n : ℕ) (ws : List ℕ) → times n ws ≡ 1 → IsPermutation ws (n ∷ without n ws)
one_out n [] is = absurd (omega (arith, is))
one_out n (w ∷ ws) is = one_out_by n w ws is (one_out n ws) (eqb_tells w n)

is_itself : (v : ℕ) → Told v v → (v == v) ≡ true
is_itself v (inl h) = h.0
is_itself v (inr h) = absurd (h.1 refl)

removed_by : (n w : ℕ) (ws : List ℕ) (i : ℕ) → i < length ws → n ≡ get_or ws i 0 → AreOnce (w ∷ ws) → without n ws ≡ remove ws i → Told w n → without n (w ∷ ws) ≡ w ∷ remove ws i
removed_by n w ws i lt is once so_far (inl h) = absurd (omega (arith, once n, ap one h.0, subst (λ (k : ℕ). 1 ≤ times k ws) (sym is) (times_at ws i lt)))
removed_by n w ws i lt is once so_far (inr h) = kept n w ws h.0 ∙ ap (λ (us : List ℕ). w ∷ us) so_far

pub removed : (n : ℕ) (ws : List ℕ) (i : ℕ) → i < length ws → n ≡ get_or ws i 0 → AreOnce ws → without n ws ≡ remove ws i
removed n [] i lt is once = absurd (omega arith)
removed n (w ∷ ws) zero lt is once =
    left_out n w ws (subst (λ (k : ℕ). (w == k) ≡ true) (sym is) (is_itself w (eqb_tells w w)))
    ∙ all_left n ws (omega (arith, once n, subst (λ (k : ℕ). one (w == k) ≡ 1) (sym is) (itself w)))
removed n (w ∷ ws) (suc i) lt is once = removed_by n w ws i (omega arith) is once (removed n ws i (omega arith) is (once_behind w ws once)) (eqb_tells w n)

-- ---- how many there are

length_by : (n w : ℕ) (ws : List ℕ) → length ws ≡ times n ws + length (without n ws) → Told w n → length (w ∷ ws) ≡ times n (w ∷ ws) + length (without n (w ∷ ws))
length_by n w ws so_far (inl h) = omega (arith, so_far, ap one h.0, ap (λ (us : List ℕ). length us) (left_out n w ws h.0))
length_by n w ws so_far (inr h) = omega (arith, so_far, ap one h.0, ap (λ (us : List ℕ). length us) (kept n w ws h.0))

pub length_without : (n : ℕ) (ws : List ℕ) → length ws ≡ times n ws + length (without n ws)
length_without n [] = refl
length_without n (w ∷ ws) = length_by n w ws (length_without n ws) (eqb_tells w n)

none_from : (m x : ℕ) (ws : List ℕ) → m ≤ x → ((y : ℕ) → suc m ≤ y → times y ws ≡ 0) → Told m x → times x (without m ws) ≡ 0
none_from m x ws le small (inl h) = subst (λ (y : ℕ). times y (without m ws) ≡ 0) h.1 (gone m ws)
none_from m x ws le small (inr h) = still m x ws h.1 ∙ small x (omega (arith, le, h.1))

-- so many numbers below a bound are at most as many as the bound says
pub few : (n : ℕ) (ws : List ℕ) → AreOnce ws → ((x : ℕ) → n ≤ x → times x ws ≡ 0) → length ws ≤ n
few zero [] once small = omega arith
few zero (w ∷ ws) once small = absurd (omega (arith, small w (omega arith), itself w))
few (suc m) ws once small =
    omega (arith, length_without m ws, once m, few m (without m ws) (once_without m ws once) (λ x le. none_from m x ws le small (eqb_tells m x)))

-- ---- views by their numbers

found_by : (v : ViewNo) (vs : List ViewNo) (x : ℕ) → 1 ≤ times x (numbers (v ∷ vs)) → (1 ≤ times x (numbers vs) → (j : ℕ) × (slice_get vs j ≡ Some (view x))) → Told v.0 x → (j : ℕ) × (slice_get (v ∷ vs) j ≡ Some (view x))
found_by v vs x is so_far (inl h) = (0, ap (λ (n : ℕ). Some (view n)) h.1)
found_by v vs x is so_far (inr h) = let f : (j : ℕ) × (slice_get vs j ≡ Some (view x)) = so_far (omega (arith, is, ap one h.0)) in (suc f.0, f.1)

found : (vs : List ViewNo) (x : ℕ) → 1 ≤ times x (numbers vs) → (j : ℕ) × (slice_get vs j ≡ Some (view x))
found [] x is = absurd (omega arith)
found (v ∷ vs) x is = found_by v vs x is (found vs x) (eqb_tells v.0 x)

distinct_behind : (v : ViewNo) (vs : List ViewNo) → AreDistinct (v ∷ vs) → AreDistinct vs
distinct_behind v vs distinct i j x p q = let e : suc i ≡ suc j = distinct (suc i) (suc j) x p q in omega (arith, e)

none_behind : (v : ViewNo) (vs : List ViewNo) (x : ℕ) → AreDistinct (v ∷ vs) → v.0 ≡ x → (times x (numbers vs) ≡ 0) ⊎ (1 ≤ times x (numbers vs)) → times x (numbers vs) ≡ 0
none_behind v vs x distinct is (inl none) = none
none_behind v vs x distinct is (inr some) =
    let f : (j : ℕ) × (slice_get vs j ≡ Some (view x)) = found vs x some in
    let e : zero ≡ suc f.0 = distinct zero (suc f.0) (view x) (ap (λ (n : ℕ). Some (view n)) is) f.1 in
    absurd (omega (arith, e))

once_by : (v : ViewNo) (vs : List ViewNo) (x : ℕ) → AreDistinct (v ∷ vs) → times x (numbers vs) ≤ 1 → Told v.0 x → times x (numbers (v ∷ vs)) ≤ 1
once_by v vs x distinct so_far (inl h) = omega (arith, ap one h.0, none_behind v vs x distinct h.1 (some_or_none (times x (numbers vs))))
once_by v vs x distinct so_far (inr h) = omega (arith, ap one h.0, so_far)

pub once_distinct : (vs : List ViewNo) → AreDistinct vs → AreOnce (numbers vs)
once_distinct [] distinct x = omega arith
once_distinct (v ∷ vs) distinct x = once_by v vs x distinct (once_distinct vs (distinct_behind v vs distinct) x) (eqb_tells v.0 x)
