-- All nodes with their values are a first change.
use Rattle.std.proofs.Common.{◌∙◌, List, None, sym, ap, subst}
use Rattle.graph_model.specs.declared.number.NodeNo.{NodeNo}
use Rattle.graph_model.specs.declared.value.Val.{Val}
use Rattle.result_tables.specs.Changes.{all_from}
use Rattle.result_tables.specs.Laws.{all_gives}
use Rattle.result_tables.specs.Results.{with_answer, IsChange}
use Rattle.phase_runs.proofs.Joining.{first-held}
use Rattle.phase_runs.proofs.views.begin.Goals as goal

pub add_change-requires-clause-change : goal.add_change-requires-clause-change
add_change-requires-clause-change g c =
    let reached = c.in_ok-reached.reached in
    let change = c.deref.ensures.value ∙ c.in_ok-change.ensures ∙ ap (all_from 0) c.as_slice.ensures in
    subst (λ (cs : List (NodeNo × Val)). IsChange c.args.results.now None cs) (sym change) (all_gives c.args.results.now reached.values (c.in_ok-reached.ensures.reached.size ∙ sym c.requires.nodes)).0

pub returns-clause-held : goal.returns-clause-held
returns-clause-held g c =
    let reached = c.in_ok-reached.reached in
    let change = c.deref.ensures.value ∙ c.in_ok-change.ensures ∙ ap (all_from 0) c.as_slice.ensures in
    c.in_ok-add_change.ensures.ok
    ∙ ap (λ (cs : List (NodeNo × Val)). with_answer c.args.results.now c.args.view None reached.outcome cs) change
    ∙ first-held c.args.results.now c.args.view reached (c.in_ok-reached.ensures.reached.size ∙ sym c.requires.nodes)
