-- What a number of phases comes to.
use Rattle.std.proofs.Common.{◌≡◌, ◌∙◌, ◌+◌, ◌-◌, ◌*◌, ◌<◌, ◌≤◌, ℕ, zero, suc, List, [], sym, ap, subst, arith, refl, inl, inr, add-zero}
use Rattle.std.proofs.lemmas.Bool.{cases_lt}
use Rattle.std.proofs.Math.Nat.{mul-le-mul_left}
use Rattle.graph_model.specs.declared.value.Val.{Val}
use Rattle.graph_model.specs.GraphData.{GraphData}
use Rattle.vertex_lang.specs.declared.arc.Arc.{Arc}
use Rattle.vertex_lang.specs.declared.lone.Lone.{Lone}
use Rattle.vertex_lang.specs.declared.lone.Outcome.TheVariants as outcome
use Rattle.vertex_lang.specs.declared.program.Program.{Program}
use Rattle.vertex_lang.specs.Expressions.{Answer}
use Rattle.vertex_lang.specs.PhaseLaws.{phase-next, phases-one}
use Rattle.vertex_lang.specs.Phases.{rounds_from, phase_values, phases_answer, starts_of, IsQuiet, AreQuiet}

module _ (answer : Answer) (p : Program) (graph : GraphData) (starts : List Val) (arcs : List Arc) (n : ℕ) where
  abbrev at : ℕ → List Val
  at k = phase_values answer p graph starts arcs n k

  -- behind a phase that ends where it began each one does so
  repeats-for : (k j : ℕ) → at (k + 1) ≡ at k → at (k + j) ≡ at k
  repeats-for k zero e = ap (λ (i : ℕ). at i) (add-zero k)
  repeats-for k (suc j) e =
      let more : k + suc j ≡ (k + j) + 1 = omega arith in
      ap (λ (i : ℕ). at i) more
      ∙ phase-next answer p graph starts arcs n (k + j)
      ∙ ap (λ (vs : List Val). rounds_from answer p graph vs arcs n) (repeats-for k j e)
      ∙ sym (phase-next answer p graph starts arcs n k)
      ∙ e

  pub repeats : (k m : ℕ) → at (k + 1) ≡ at k → k ≤ m → at m ≡ at k
  repeats k m e low = let same : k + (m - k) ≡ m = omega arith in ap (λ (i : ℕ). at i) (sym same) ∙ repeats-for k (m - k) e

  -- where the first so many are quiet, and the last of them repeats its starts, all are
  pub quiet-for-ever : (k m : ℕ) → AreQuiet answer p graph starts arcs n k → IsQuiet answer p graph (at k) arcs n → at (k + 1) ≡ at k → AreQuiet answer p graph starts arcs n m
  quiet-for-ever k m before here e j low = elim (cases_lt j k) [
    | inl early ↦ before j early
    | inr late ↦ subst (λ (vs : List Val). IsQuiet answer p graph vs arcs n) (sym (repeats k j e late)) here
  ]

-- the answer where all are quiet, and where one is not
module _ (answer : Answer) (p : Program) (graph : GraphData) (starts : List Val) (arcs : List Arc) (n m : ℕ) (begun : starts ≡ starts_of p graph) where
  pub all-quiet : (values : List Val) → AreQuiet answer p graph starts arcs n m → values ≡ phase_values answer p graph starts arcs n m
      → Path Lone (record { outcome = outcome.Phases m; values = values }) (phases_answer answer p graph arcs n m)
  all-quiet values quiet is =
      phases-one answer p graph arcs n m (record { outcome = outcome.Phases m; values = values })
      (refl, subst (λ (vs : List Val). AreQuiet answer p graph vs arcs n m) begun quiet, is ∙ ap (λ (vs : List Val). phase_values answer p graph vs arcs n m) begun)

  pub not-quiet : (k : ℕ) → k < m → (IsQuiet answer p graph (phase_values answer p graph starts arcs n k) arcs n → ⊥)
      → Path Lone (record { outcome = outcome.Unsettled; values = [] }) (phases_answer answer p graph arcs n m)
  not-quiet k low moves =
      phases-one answer p graph arcs n m (record { outcome = outcome.Unsettled; values = [] })
      (subst (λ (vs : List Val). AreQuiet answer p graph vs arcs n m → ⊥) begun (λ quiet. moves (quiet k low)), refl)

-- ---- a phase as the code goes through it

module _ (answer : Answer) (p : Program) (graph : GraphData) (starts : List Val) (arcs : List Arc) (n k : ℕ) (begun values : List Val) (same : begun ≡ values) (so_far : values ≡ phase_values answer p graph starts arcs n k) where
  pub next-values : (next : List Val) → next ≡ rounds_from answer p graph begun arcs n → next ≡ phase_values answer p graph starts arcs n (k + 1)
  next-values next is = is ∙ ap (λ (vs : List Val). rounds_from answer p graph vs arcs n) (same ∙ so_far) ∙ sym (phase-next answer p graph starts arcs n k)

  pub quiet-here : IsQuiet answer p graph begun arcs n → IsQuiet answer p graph (phase_values answer p graph starts arcs n k) arcs n
  quiet-here is = subst (λ (vs : List Val). IsQuiet answer p graph vs arcs n) (same ∙ so_far) is

  pub moves-here : (IsQuiet answer p graph begun arcs n → ⊥) → IsQuiet answer p graph (phase_values answer p graph starts arcs n k) arcs n → ⊥
  moves-here moves is = moves (subst (λ (vs : List Val). IsQuiet answer p graph vs arcs n) (sym (same ∙ so_far)) is)

-- ---- calls

-- one more phase
pub calls-more : (nodes rounds k gone first before after : ℕ) → gone ≤ rounds → before ≤ first + nodes * (rounds * k) → after ≡ before + nodes * gone → after ≤ first + nodes * (rounds * (k + 1))
calls-more nodes rounds k gone first before after few so_far more =
    let one : nodes * gone ≤ nodes * rounds = mul-le-mul_left nodes few in
    omega (arith, one, so_far, more)

-- is among all
pub calls-most : (nodes rounds k phases first calls : ℕ) → k ≤ phases → calls ≤ first + nodes * (rounds * k) → calls ≤ first + nodes * (rounds * phases)
calls-most nodes rounds k phases first calls low few =
    let all : rounds * k ≤ rounds * phases = mul-le-mul_left rounds low in
    let most : nodes * (rounds * k) ≤ nodes * (rounds * phases) = mul-le-mul_left nodes all in
    omega (arith, most, few)
