-- Where no edge differs the answer is the same; else the nodes whose values differ are a change.
use Rattle.std.proofs.Common.{◌∙◌, List, Some, sym, ap, ap₂, subst}
use Rattle.graph_model.specs.declared.number.NodeNo.{NodeNo}
use Rattle.graph_model.specs.declared.value.Val.{Val}
use Rattle.result_tables.specs.Changes.{changes_from}
use Rattle.result_tables.specs.Laws.{changes_give}
use Rattle.result_tables.specs.Results.{with_answer, IsChange}
use Rattle.phase_runs.specs.Courses.{held_of}
use Rattle.phase_runs.proofs.Joining.{later-held, reached-same}
use Rattle.phase_runs.proofs.views.follow.Goals as goal

pub returns-then-distance-eq0-clause-reached : goal.returns-then-distance-eq0-clause-reached
returns-then-distance-eq0-clause-reached g c =
    reached-same g.U.Updater.answer c.args.course.now c.args.last.view c.args.view c.args.last.reached (sym c.distance.ensures.value ∙ c.if-distance-eq0.true) c.requires.last.reached

pub add_change-requires-2-clause-change : goal.add_change-requires-2-clause-change
add_change-requires-2-clause-change g c =
    let m = c.args.results.now in
    let last = c.args.last in
    let reached = c.in_ok-reached.reached in
    let change = c.deref.ensures.value ∙ c.in_ok-change.ensures ∙ ap₂ (λ (xs ys : List Val). changes_from 0 xs ys) c.as_slice.ensures c.as_slice-2.ensures in
    subst (λ (cs : List (NodeNo × Val)). IsChange m (Some last.view) cs) (sym change)
    (changes_give m last.view (held_of last.view last.reached) reached.values c.requires.last.held (c.requires.last.reached.size ∙ sym c.requires.nodes) (c.in_ok-reached.ensures.reached.size ∙ sym c.requires.nodes)).0

pub returns-clause-held : goal.returns-clause-held
returns-clause-held g c =
    let m = c.args.results.now in
    let last = c.args.last in
    let reached = c.in_ok-reached.reached in
    let change = c.deref.ensures.value ∙ c.in_ok-change.ensures ∙ ap₂ (λ (xs ys : List Val). changes_from 0 xs ys) c.as_slice.ensures c.as_slice-2.ensures in
    c.in_ok-add_change-2.ensures.ok
    ∙ ap (λ (cs : List (NodeNo × Val)). with_answer m c.args.view (Some last.view) reached.outcome cs) change
    ∙ later-held m last.view c.args.view last.reached reached c.requires.last.held (c.requires.last.reached.size ∙ sym c.requires.nodes) (c.in_ok-reached.ensures.reached.size ∙ sym c.requires.nodes)
