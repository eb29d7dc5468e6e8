-- A column that is filled from its first bit on.
use Rattle.std.proofs.Common.{◌≡◌, ◌∙◌, ◌+◌, ◌≤◌, ℕ, zero, suc, Bool, true, false, List, [], ◌∷◌, length, get_or, set, replicate, refl, sym, ap, arith, add-one}

-- the first so many bits of a column, and none behind them
abbrev pub filled : List Bool → ℕ → List Bool
filled [] n = []
filled (b ∷ bs) zero = false ∷ filled bs zero
filled (b ∷ bs) (suc n) = b ∷ filled bs n

pub filled_none : (bs : List Bool) → filled bs zero ≡ replicate (length bs) false
filled_none [] = refl
filled_none (b ∷ bs) = ap (λ (cs : List Bool). false ∷ cs) (filled_none bs)

pub filled_all : (bs : List Bool) (n : ℕ) → length bs ≤ n → filled bs n ≡ bs
filled_all [] n le = refl
filled_all (b ∷ bs) zero le = absurd (omega arith)
filled_all (b ∷ bs) (suc n) le = ap (λ (cs : List Bool). b ∷ cs) (filled_all bs n (omega arith))

pub length-filled : (bs : List Bool) (n : ℕ) → length (filled bs n) ≡ length bs
length-filled [] n = refl
length-filled (b ∷ bs) zero = ap (λ (k : ℕ). suc k) (length-filled bs zero)
length-filled (b ∷ bs) (suc n) = ap (λ (k : ℕ). suc k) (length-filled bs n)

one_set : (bs : List Bool) (n : ℕ) → get_or bs n false ≡ true → set (filled bs n) n true ≡ filled bs (suc n)
one_set [] n is = absurd cc
one_set (b ∷ bs) zero is = ap (λ (c : Bool). c ∷ filled bs zero) (sym is)
one_set (b ∷ bs) (suc n) is = ap (λ (cs : List Bool). b ∷ cs) (one_set bs n is)

one_not : (bs : List Bool) (n : ℕ) → get_or bs n false ≡ false → filled bs n ≡ filled bs (suc n)
one_not [] n is = refl
one_not (b ∷ bs) zero is = ap (λ (c : Bool). c ∷ filled bs zero) (sym is)
one_not (b ∷ bs) (suc n) is = ap (λ (cs : List Bool). b ∷ cs) (one_not bs n is)

pub filled_set : (bs column : List Bool) (n : ℕ) → column ≡ filled bs n → get_or bs n false ≡ true → set column n true ≡ filled bs (n + 1)
filled_set bs column n so_far is = ap (λ (cs : List Bool). set cs n true) so_far ∙ one_set bs n is ∙ ap (filled bs) (sym (add-one n))

pub filled_not : (bs column : List Bool) (n : ℕ) → column ≡ filled bs n → get_or bs n false ≡ false → column ≡ filled bs (n + 1)
filled_not bs column n so_far is = so_far ∙ one_not bs n is ∙ ap (filled bs) (sym (add-one n))
