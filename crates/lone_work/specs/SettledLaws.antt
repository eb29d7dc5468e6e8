-- Rounds in which nothing changes add no work.
use Rattle.std.specs.Prelude.{◌≡◌, ℕ, zero, suc, ◌+◌, ◌<◌, ◌≤◌, false, List, Some}
use Rattle.std.proofs.Common.{arith, ap, sym, ◌∙◌, inl, inr}
use Rattle.std.proofs.lemmas.Bool.{cases_lt}
use Rattle.graph_model.specs.GraphData.{GraphData}
use Rattle.vertex_lang.specs.declared.arc.Arc.{Arc}
use Rattle.vertex_lang.specs.declared.program.Program.{Program}
use Rattle.vertex_lang.specs.Expressions.{Answer}
use Rattle.vertex_lang.specs.Rounds.{nodes_of, lone}
use Rattle.vertex_lang.specs.RoundLaws.{stays}
use Rattle.multisets.specs.SumLaws.{sum-same}
use Rattle.lone_work.specs.Inputs.{input_in}
use Rattle.lone_work.specs.Work.{is_counted, rounds_counted, work}
use Rattle.lone_work.specs.WorkLaws.{settled-suc}
use Rattle.lone_work.specs.Laws.{SettledWork}

again : (answer : Answer) (p : Program) (graph : GraphData) (arcs : List Arc) (m r : ℕ) → lone answer p graph arcs (suc m) ≡ lone answer p graph arcs m → m ≤ r → lone answer p graph arcs (suc r) ≡ lone answer p graph arcs r
again answer p graph arcs m r e low =
    let more : m + 1 ≡ suc m = omega arith in
    let from = ap (λ n. lone answer p graph arcs n) more ∙ e in
    stays answer p graph arcs m (suc r) from (omega arith) ∙ sym (stays answer p graph arcs m r from low)

module _ (answer : Answer) (p : Program) (graph : GraphData) (new old : List Arc) (m : ℕ) (e : lone answer p graph new (suc m) ≡ lone answer p graph new m) (h : lone answer p graph old (suc m) ≡ lone answer p graph old m) (v : ℕ) where
  beyond : (n : ℕ) → m < n → is_counted (input_in answer p graph (Some new) v) (input_in answer p graph (Some old) v) n ≡ false
  beyond zero low = absurd (omega arith)
  beyond (suc r) low = settled-suc answer p graph new old v r (again answer p graph new m r e (omega arith)) (again answer p graph old m r h (omega arith))

  counted-ends : (n : ℕ) → m < n → rounds_counted (input_in answer p graph (Some new) v) (input_in answer p graph (Some old) v) n ≡ rounds_counted (input_in answer p graph (Some new) v) (input_in answer p graph (Some old) v) (suc m)
  counted-ends zero low = absurd (omega arith)
  counted-ends (suc n) low = elim (cases_lt m n) [
    | inl k ↦ rw (beyond n k) (omega (arith, counted-ends n k))
    | inr k ↦ let same : n ≡ m = omega arith in ap (λ i. rounds_counted (input_in answer p graph (Some new) v) (input_in answer p graph (Some old) v) (suc i)) same
  ]

pub settled-work : SettledWork
unfolding work
settled-work answer p graph new old m rounds e h low =
    let more : suc m ≡ m + 1 = omega arith in
    let es = ap (λ n. lone answer p graph new n) more ∙ e in
    let hs = ap (λ n. lone answer p graph old n) more ∙ h in
    sum-same (λ v. rounds_counted (input_in answer p graph (Some new) v) (input_in answer p graph (Some old) v) rounds) (λ v. rounds_counted (input_in answer p graph (Some new) v) (input_in answer p graph (Some old) v) (m + 1)) (nodes_of graph)
    (λ v. counted-ends answer p graph new old m es hs v rounds low ∙ ap (λ n. rounds_counted (input_in answer p graph (Some new) v) (input_in answer p graph (Some old) v) n) more)
