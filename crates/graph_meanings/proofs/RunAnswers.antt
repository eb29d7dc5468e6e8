-- What holds of the answer of a run holds of what was given back.
use Rattle.std.proofs.Common.{◌≡◌, Result, Ok, Err, sym, subst}
use Rattle.std.specs.Prelude.{IfOk, List}
use Rattle.vertex_lang.specs.declared.arc.Arc.{Arc}
use Rattle.vertex_lang.specs.declared.lone.Lone.{Lone}
use Rattle.vertex_lang.specs.declared.lone.Rounds.{Rounds}
use Rattle.vertex_lang.specs.declared.program.Program.{Program}
use Rattle.graph_model.specs.GraphData.{GraphData}
use Rattle.vertex_lang.specs.Expressions.{updated}
use Rattle.vertex_lang.specs.Lone.{answer_of}

pub of-program : {E : Type 0} (p q : Program) (graph : GraphData) (arcs : List Arc) (limit : Rounds) (r : Result Lone E) → p ≡ q
    → IfOk r (λ l. l ≡ answer_of updated p graph arcs limit) → IfOk r (λ l. l ≡ answer_of updated q graph arcs limit)
of-program p q graph arcs limit r e h = subst (λ (x : Program). IfOk r (λ l. l ≡ answer_of updated x graph arcs limit)) e h

pub of-answer : {E : Type 0} (P : Lone → Type 0) (a : Lone) (r : Result Lone E) → IfOk r (λ l. l ≡ a) → P a → IfOk r P
of-answer P a (Ok l) h p = subst P (sym h) p
of-answer P a (Err e) h p = tt
