-- What is kept of messages tells them from others, and a node that is just touched has a mark in one of both views.
use Rattle.std.proofs.Common.{◌≡◌, ◌∙◌, ap, refl, ℕ, Bool, List, Some, length, arith, ◌≤◌, subst, Option}
use Rattle.std.specs.Prelude.{◌≤◌, All, IfSome}
use Rattle.graph_model.specs.declared.value.Val.{Val}
use Rattle.graph_model.specs.GraphData.{GraphData}
use Rattle.vertex_lang.specs.declared.arc.Arc.{Arc}
use Rattle.vertex_lang.specs.declared.program.Program.{Program}
use Rattle.vertex_lang.specs.declared.program.Gather.{Gather}
use Rattle.vertex_lang.specs.Arcs.{IsArc, gathered_of}
use Rattle.vertex_lang.specs.Expressions.{Answer}
use Rattle.lone_work.specs.Inputs.{got_values}
use Rattle.value_codes.specs.declared.tally.Tally.{Tally}
use Rattle.value_codes.specs.Tallies.{tally_of, gathered_in}
use Rattle.arc_rows.specs.Views.{arcs_in, row_of}
use Rattle.round_messages.specs.Sides.{all_brought}
use Rattle.round_inputs.specs.Inputs.{IsRound}
use Rattle.round_inputs.specs.BroughtLaws.{brought-row}
use Rattle.round_messages.specs.BringLaws.{brought-few}
use Rattle.arc_rows.specs.ViewLaws.{row-few}
use Rattle.vertex_lang.specs.declared.program.Gather.TheVariants as gather

-- there are no more messages than arcs
pub got-few : (answer : Answer) (p : Program) (graph : GraphData) (all : List Arc) (edges : List Bool) (degrees : List ℕ) (values : List Val) (r : ℕ) → IsRound answer p graph all edges degrees values r
    → (v : ℕ) → All (IsArc graph) all → length (got_values answer p graph (arcs_in all edges) v r) ≤ length all
got-few answer p graph all edges degrees values r is v arcs =
    let row = row_of all v in
    omega (
      arith,
      ap (λ (xs : List Val). length xs) (brought-row answer p graph all edges degrees values r is v row arcs refl),
      brought-few p graph edges degrees values row,
      row-few all row v refl,
    )

-- what comes over its arcs comes to what it gets
pub tally-got : (answer : Answer) (p : Program) (graph : GraphData) (all : List Arc) (edges : List Bool) (degrees : List ℕ) (values : List Val) (r : ℕ) → IsRound answer p graph all edges degrees values r
    → (v : ℕ) (row : List Arc) → All (IsArc graph) all → row ≡ row_of all v → (tally : Tally) → tally ≡ tally_of p.gather (all_brought p graph edges degrees values row)
    → tally ≡ tally_of p.gather (got_values answer p graph (arcs_in all edges) v r)
tally-got answer p graph all edges degrees values r is v row arcs e tally et = et ∙ ap (λ (ms : List Val). tally_of p.gather ms) (brought-row answer p graph all edges degrees values r is v row arcs e)

-- what is gathered of the tally is what is gathered of the messages
pub tallied : (kind : Gather) (ms : List Val) → gathered_in kind (tally_of kind ms) ≡ gathered_of kind ms
tallied gather.Min ms = refl
tallied gather.Max ms = refl
tallied gather.Sum ms = refl
tallied gather.Count ms = refl

-- what holds of the answer, where there's one
pub some-is : (o : Option Bool) (b x : Bool) → o ≡ Some b → IfSome o (λ c. c ≡ x) → b ≡ x
some-is o b x e h = subst (λ (m : Option Bool). IfSome m (λ c. c ≡ x)) e h
