-- What differs is turned.
use Rattle.std.proofs.Common.{◌≡◌, ◌∙◌, ◌<◌, ◌^◌, List, Bool, sym, ap₂, subst, arith, lit<}
use Rattle.graph_model.specs.declared.number.EdgeNo.{EdgeNo}
use Rattle.view_matrix.specs.Matrices.{place_of, differences_of}
use Rattle.aggregate_views.specs.Changes.{changed, AreChanges}
use Rattle.surge_session.specs.Grouping.{bits_of}
use Rattle.surge_session.proofs.Grouping.{are_changes, changed_is}
use Rattle.surge_session.proofs.Texts.{on_ok}
use Rattle.surge_session.proofs.groups.turn_groups.Goals as goal

pub apply-requires-clause-changes : goal.apply-requires-clause-changes
apply-requires-clause-changes c =
    let m = c.args.matrix.now in
    let before = place_of c.args.before in
    subst (λ (bits : List Bool). AreChanges bits c.as_slice.result.now) (sym c.requires.present)
    (subst (λ (cs : List (EdgeNo × Bool)). AreChanges (bits_of m before) cs) (sym (c.as_slice.ensures ∙ c.in_ok-changes.ensures.differences)) (are_changes m before c.args.number.0))

pub apply-requires-clause-few : goal.apply-requires-clause-few
apply-requires-clause-few c =
    let limit : 1_024 < 2 ^ 31 = lit< tt in
    omega (arith, limit, c.requires.few)

pub returns-clause-present : goal.returns-clause-present
returns-clause-present c =
    let m = c.args.matrix.now in
    let before = place_of c.args.before in
    let cs : c.as_slice.result.now ≡ differences_of m before c.args.number.0 = c.as_slice.ensures ∙ c.in_ok-changes.ensures.differences in
    on_ok c.apply.result (λ (present : c.apply.new.self.present ≡ changed c.args.groups.now.present c.as_slice.result.now). present ∙ ap₂ changed c.requires.present cs ∙ changed_is m before c.args.number.0) c.apply.ensures.present
