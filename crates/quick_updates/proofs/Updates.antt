-- The values of updates of which the tree is known.
use Rattle.std.proofs.Common.{◌≡◌, ◌≢◌, ◌∙◌, ◌∷◌, [], true, false, ℕ, ℤ, ◌+ℤ◌, ◌*ℤ◌, pos, ap, sym, arith}
use Rattle.std.specs.Int.RustNames.{int_div}
use Rattle.std.proofs.lemmas.Grind.{common_steps}
use Rattle.graph_model.specs.declared.value.Val.{Val}
use Rattle.graph_model.specs.declared.value.Val.TheVariants.{Num}
use Rattle.vertex_lang.specs.declared.program.Expr.{Expr}
use Rattle.vertex_lang.specs.declared.program.Expr.TheVariants as expr
use Rattle.vertex_lang.specs.declared.program.Program.{Program}
use Rattle.vertex_lang.specs.Expressions.{Environment, value_of, update_words, updated}
use Rattle.vertex_lang.specs.Trees.{value-Sum, value-Product, value-Number, value-Gathered, value-Start, value-Least}
use Rattle.vertex_lang.specs.Values.{added, clamped, divided, in_range, lesser, multiplied}

-- ---- numbers

divided_is : (p divisor : ℤ) → divisor ≢ pos 0 → divided (Num p) (Num divisor) ≡ Num (clamped (int_div p divisor))
divided_is p divisor other = grind (arith, common_steps)

-- a number and a share, from what the code computes
pub damped_is : (n base factor divisor p q s : ℤ) → divisor ≢ pos 0 → p ≡ clamped (n *ℤ factor) → q ≡ clamped (int_div p divisor) → s ≡ clamped (base +ℤ q) → Num s ≡ added true (Num base) (divided (multiplied (Num n) (Num factor)) (Num divisor))
damped_is n base factor divisor p q s other e f g =
    ap (λ (z : ℤ). Num z) g
    ∙ ap (λ (z : ℤ). added true (Num base) (Num z)) (f ∙ ap (λ (z : ℤ). clamped (int_div z divisor)) e)
    ∙ ap (λ (v : Val). added true (Num base) v) (sym (divided_is (clamped (n *ℤ factor)) divisor other))

-- ---- trees

abbrev share_tree : ℤ → ℤ → Expr
share_tree factor divisor = expr.Product expr.Gathered ((true, expr.Number factor) ∷ (false, expr.Number divisor) ∷ [])

share_value : (factor divisor : ℤ) (words : Environment) → value_of (share_tree factor divisor) words ≡ divided (multiplied words.gathered (Num factor)) (Num divisor)
share_value factor divisor words =
    value-Product expr.Gathered ((true, expr.Number factor) ∷ (false, expr.Number divisor) ∷ []) words
    ∙ ap (λ (v : Val). divided (multiplied v (value_of (expr.Number factor) words)) (value_of (expr.Number divisor) words)) (value-Gathered words)
    ∙ ap (λ (v : Val). divided (multiplied words.gathered v) (value_of (expr.Number divisor) words)) (value-Number factor words)
    ∙ ap (λ (v : Val). divided (multiplied words.gathered (Num factor)) v) (value-Number divisor words)

module _ (p : Program) (id : ℕ) (start value gathered : Val) (count : ℕ) (v : Val) where
  -- what the code makes of the lesser is the value of the update
  pub least_updated : p.update ≡ expr.Least expr.Start expr.Gathered → v ≡ in_range (lesser start gathered) → v ≡ updated p id start value gathered count
  least_updated is e =
      let words = update_words id start value gathered count in
      e ∙ sym (
      ap (λ (tree : Expr). value_of tree words) is ∙ value-Least expr.Start expr.Gathered words
      ∙ ap (λ (w : Val). in_range (lesser w (value_of expr.Gathered words))) (value-Start words)
      ∙ ap (λ (w : Val). in_range (lesser start w)) (value-Gathered words))

  -- and what it makes of a number and a share
  pub damped_updated : (base factor divisor : ℤ) → p.update ≡ expr.Sum (expr.Number base) ((true, share_tree factor divisor) ∷ []) → v ≡ added true (Num base) (divided (multiplied gathered (Num factor)) (Num divisor)) → v ≡ updated p id start value gathered count
  damped_updated base factor divisor is e =
      let words = update_words id start value gathered count in
      e ∙ sym (
      ap (λ (tree : Expr). value_of tree words) is ∙ value-Sum (expr.Number base) ((true, share_tree factor divisor) ∷ []) words
      ∙ ap (λ (w : Val). added true w (value_of (share_tree factor divisor) words)) (value-Number base words)
      ∙ ap (λ (w : Val). added true (Num base) w) (share_value factor divisor words))
