-- Numbers that aren't negative, brought into the range of values.
use Rattle.std.specs.Prelude.{◌≡◌, ℕ, ℤ, pos, nat_lt, min}
use Rattle.std.proofs.Common.{arith, ap, sym, ◌∙◌, refl}
use Rattle.std.proofs.lemmas.Bool.{cond_both, ltb-true, ltb-false}
use Rattle.graph_model.specs.declared.value.Val.{Val}
use Rattle.graph_model.specs.declared.value.Val.TheVariants.{Nil, Num}
use Rattle.vertex_lang.specs.Values.{clamped, in_range}

-- the greatest value, 2^63 - 1
abbrev pub top : ℕ
top = 9_223_372_036_854_775_807

pub clamped-pos : (n : ℕ) → clamped (pos n) ≡ pos (min n top)
clamped-pos n = cond_both (nat_lt top n) (pos top) (pos n) (λ (z : ℤ). z ≡ pos (min n top))
    (λ t. let low = ltb-true top n t in ap (λ (k : ℕ). pos k) (omega arith))
    (λ f. let low = ltb-false top n f in ap (λ (k : ℕ). pos k) (omega arith))

pub same-number : (a b : ℤ) → Num a ≡ Num b → a ≡ b
same-number a b e = cc

pub same-natural : (a b : ℕ) → pos a ≡ pos b → a ≡ b
same-natural a b e = cc

pub in-range-from : (m : Val) (z : ℤ) → in_range m ≡ Num z → (y : ℤ) × (m ≡ Num y) × (z ≡ clamped y)
in-range-from Nil z e = absurd cc
in-range-from (Num y) z e = (y, refl, sym (same-number (clamped y) z e))

pub in-range-pos : (m : Val) (n : ℕ) → m ≡ Num (pos n) → in_range m ≡ Num (pos (min n top))
in-range-pos m n e = ap in_range e ∙ ap (λ (z : ℤ). Num z) (clamped-pos n)
