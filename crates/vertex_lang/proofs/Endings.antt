-- From how a run ends to its answer.
use Rattle.std.proofs.Common.{◌≡◌, ◌∙◌, ◌+◌, ◌*◌, ℕ, List, sym, ap, subst, refl}
use Rattle.graph_model.specs.declared.value.Val.{Val}
use Rattle.graph_model.specs.GraphData.{GraphData}
use Rattle.vertex_lang.specs.declared.arc.Arc.{Arc}
use Rattle.vertex_lang.specs.declared.lone.Lone.{Lone}
use Rattle.vertex_lang.specs.declared.lone.Outcome.{Outcome}
use Rattle.vertex_lang.specs.declared.lone.Outcome.TheVariants as outcome
use Rattle.vertex_lang.specs.declared.lone.Rounds.{Rounds}
use Rattle.vertex_lang.specs.declared.lone.Rounds.TheVariants as rounds
use Rattle.vertex_lang.specs.declared.program.Program.{Program}
use Rattle.vertex_lang.specs.Expressions.{Answer}
use Rattle.vertex_lang.specs.Lone.{IsAfter, IsAnswer, IsAnswerFrom, OutcomeIs, rounds_run}
use Rattle.vertex_lang.specs.AnswerLaws.{meets_same}
use Rattle.vertex_lang.specs.PhaseLaws.{lone-from}
use Rattle.vertex_lang.specs.Phases.{rounds_from, starts_of}
use Rattle.vertex_lang.specs.Rounds.{lone}
use Rattle.vertex_lang.specs.RunsTo.{RunsTo, RunsWithin, told}

pub told-outcome : (o : Outcome) (last : List Val) → (told o last).outcome ≡ o
told-outcome (outcome.Settled r) last = refl
told-outcome (outcome.After r) last = refl
told-outcome (outcome.Phases r) last = refl
told-outcome outcome.Unsettled last = refl

pub within-told : (values : ℕ → List Val) (n : ℕ) (o : Outcome) (last : List Val) → RunsWithin values n o last → OutcomeIs values n (told o last).outcome (told o last).values
within-told values n (outcome.Settled r) last h = h
within-told values n (outcome.After r) last h = absurd h
within-told values n (outcome.Phases r) last h = absurd h
within-told values n outcome.Unsettled last h = (h.0, refl)

told-meets : (values : ℕ → List Val) (limit : Rounds) (o : Outcome) (last : List Val) → RunsTo values limit o last → IsAnswerFrom values limit (told o last)
told-meets values (rounds.Within n) o last h = within-told values n o last h
told-meets values (rounds.For n) o last h = subst (λ x. IsAfter values n (told x last)) (sym h.0) (refl, h.1)

-- the answer of a run whose program, graph, starts and arcs are these
pub ends-in-answer : (answer : Answer) (p q : Program) (graph other : GraphData) (begun : List Val) (arcs these : List Arc) (limit : Rounds) (o : Outcome) (last : List Val) (l : Lone) → q ≡ p → other ≡ graph → begun ≡ starts_of p graph → these ≡ arcs
    → RunsTo (rounds_from answer q other begun these) limit o last → l ≡ told o last → IsAnswer answer p graph arcs limit l
ends-in-answer answer p q graph other begun arcs these limit o last l e f s g h is =
    let one = subst (λ x. RunsTo (rounds_from answer x other begun these) limit o last) e h in
    let two = subst (λ x. RunsTo (rounds_from answer p x begun these) limit o last) f one in
    let three = subst (λ x. RunsTo (rounds_from answer p graph x these) limit o last) s two in
    let four = subst (λ x. RunsTo (rounds_from answer p graph (starts_of p graph) x) limit o last) g three in
    subst (λ x. IsAnswer answer p graph arcs limit x) (sym is)
    (meets_same (rounds_from answer p graph (starts_of p graph) arcs) (lone answer p graph arcs) limit (told o last) (λ r. sym (lone-from answer p graph arcs r))
    (told-meets (rounds_from answer p graph (starts_of p graph) arcs) limit o last four))

pub outcome-told : (o : Outcome) (last : List Val) (l : Lone) → l ≡ told o last → l.outcome ≡ o
outcome-told o last l is = ap (λ (x : Lone). x.outcome) is ∙ told-outcome o last

pub calls-told : (before after nodes others n : ℕ) (o e : Outcome) → after ≡ before + others * rounds_run n o → others ≡ nodes → e ≡ o → after ≡ before + nodes * rounds_run n e
calls-told before after nodes others n o e h same is = h ∙ ap (λ k. before + k * rounds_run n o) same ∙ ap (λ x. before + nodes * rounds_run n x) (sym is)
