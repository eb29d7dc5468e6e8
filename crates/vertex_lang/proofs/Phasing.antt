-- What is told of a number of rounds that begin with given values, by how they ended.
use Rattle.std.specs.Prelude.{MatchBool, ◌==◌}
use Rattle.std.proofs.Common.{◌≡◌, ◌∙◌, ◌+◌, ◌-◌, ◌<◌, ◌≤◌, ℕ, Bool, true, false, List, sym, ap, subst, refl, arith}
use Rattle.std.proofs.lemmas.Bool.Decides.{nat_tests}
use Rattle.graph_model.specs.declared.value.Val.{Val}
use Rattle.graph_model.specs.GraphData.{GraphData}
use Rattle.vertex_lang.specs.declared.arc.Arc.{Arc}
use Rattle.vertex_lang.specs.declared.lone.Lone.{Lone}
use Rattle.vertex_lang.specs.declared.lone.Outcome.{Outcome}
use Rattle.vertex_lang.specs.declared.lone.Outcome.TheVariants as outcome
use Rattle.vertex_lang.specs.declared.lone.Rounds.TheVariants as limits
use Rattle.vertex_lang.specs.declared.program.Program.{Program}
use Rattle.vertex_lang.specs.AnswerLaws.{answer_from_meets, outcome_answer, outcome_rounds}
use Rattle.vertex_lang.specs.Expressions.{Answer}
use Rattle.vertex_lang.specs.Lone.{answer_from, rounds_run, NeverSettles}
use Rattle.vertex_lang.specs.PhaseLaws.{from-stays}
use Rattle.vertex_lang.specs.Phases.{rounds_from, rounds_gone, IsQuiet}
use Rattle.vertex_lang.specs.Phasing.{tells_quiet}
use Rattle.vertex_lang.specs.RunsTo.{RunsWithin, told}
use Rattle.vertex_lang.proofs.Endings.{told-outcome, within-told}

is-zero : (n : ℕ) → (n == 0) ≡ true → n ≡ 0
is-zero n e = grind (arith, nat_tests)

not-zero : (n : ℕ) → (n == 0) ≡ false → 0 < n
not-zero n e = grind (arith, nat_tests)

module _ (answer : Answer) (p : Program) (graph : GraphData) (starts : List Val) (arcs : List Arc) (n : ℕ) where
  abbrev at : ℕ → List Val
  at r = rounds_from answer p graph starts arcs r

  pub last-values : (o : Outcome) (last : List Val) → RunsWithin (rounds_from answer p graph starts arcs) n o last → last ≡ rounds_from answer p graph starts arcs n
  last-values (outcome.Settled r) last h = h.1 ∙ sym (from-stays answer p graph starts arcs r n h.0.settled (let low = h.0.within in omega arith))
  last-values (outcome.After r) last h = absurd h
  last-values (outcome.Phases r) last h = absurd h
  last-values outcome.Unsettled last h = h.1

  quiet-by : (b : Bool) → (n == 0) ≡ b → NeverSettles at n → MatchBool b (IsQuiet answer p graph starts arcs n) (IsQuiet answer p graph starts arcs n → ⊥)
  quiet-by true e h = let same : n ≡ n - 1 = omega (arith, is-zero n e) in ap at same
  quiet-by false e h = λ quiet.
      let some : 0 < n = not-zero n e in
      let more : (n - 1) + 1 ≡ n = omega arith in
      h (n - 1) (omega arith) (ap at more ∙ quiet)

  pub quiet-told : (o : Outcome) (last : List Val) → RunsWithin (rounds_from answer p graph starts arcs) n o last → MatchBool (tells_quiet o n) (IsQuiet answer p graph starts arcs n) (IsQuiet answer p graph starts arcs n → ⊥)
  quiet-told (outcome.Settled r) last h =
      let low = h.0.within in
      from-stays answer p graph starts arcs r n h.0.settled (omega arith) ∙ sym (from-stays answer p graph starts arcs r (n - 1) h.0.settled (omega arith))
  quiet-told (outcome.After r) last h = absurd h
  quiet-told (outcome.Phases r) last h = absurd h
  quiet-told outcome.Unsettled last h = quiet-by (n == 0) refl h.0

  pub gone-told : (o : Outcome) (last : List Val) → RunsWithin (rounds_from answer p graph starts arcs) n o last → rounds_run n o ≡ rounds_gone answer p graph starts arcs n
  gone-told o last h =
      ap (λ (x : Outcome). rounds_run n x) (sym (told-outcome o last))
      ∙ ap (λ (l : Lone). rounds_run n l.outcome) (outcome_answer at n (told o last).outcome (told o last).values (within-told at n o last h))

  pub few-gone : rounds_gone answer p graph starts arcs n ≤ n
  few-gone = outcome_rounds at n (answer_from at (limits.Within n)).outcome (answer_from at (limits.Within n)).values (answer_from_meets at (limits.Within n))

-- the same, where the program, the graph, the starts and the arcs are those of a setting
pub runs-of : (answer : Answer) (p q : Program) (graph other : GraphData) (starts begun : List Val) (arcs these : List Arc) (n : ℕ) (o : Outcome) (last : List Val) → q ≡ p → other ≡ graph → begun ≡ starts → these ≡ arcs
    → RunsWithin (rounds_from answer q other begun these) n o last → RunsWithin (rounds_from answer p graph starts arcs) n o last
runs-of answer p q graph other starts begun arcs these n o last e f s g h =
    let one = subst (λ x. RunsWithin (rounds_from answer x other begun these) n o last) e h in
    let two = subst (λ x. RunsWithin (rounds_from answer p x begun these) n o last) f one in
    let three = subst (λ x. RunsWithin (rounds_from answer p graph x these) n o last) s two in
    subst (λ x. RunsWithin (rounds_from answer p graph starts x) n o last) g three
