-- The dataflow of the rounds has the function of rounds from given starts.
use Rattle.std.proofs.Common.{◌∙◌, ℕ, List, ap}
use Rattle.lattice_time.specs.declared.round.Round.{Round}
use Rattle.flow_core.specs.Expanded.{expanded}
use Rattle.loop_theory.specs.Loops.{loop_apply}
use Rattle.graph_model.specs.declared.value.Val.{Val}
use Rattle.graph_model.specs.declared.number.NodeNo.{NodeNo}
use Rattle.vertex_items.specs.declared.input.StartInput.{StartInput}
use Rattle.phase_flow.specs.Items.{begins, ends, enters}
use Rattle.phase_flow.proofs.flow.phase_flow.Goals as goal

pub returns-clause-apply : goal.returns-clause-apply
returns-clause-apply g c =
    c.phases_over.ensures.apply
    ∙ ap (λ (f : List (StartInput × ℕ) → List ((Round × (NodeNo × Val)) × ℕ)). (λ fed. loop_apply (λ held. expanded (ends c.args.rounds) (f (expanded begins held))) c.args.phases (expanded enters fed))) c.make-flow.ensures.apply
