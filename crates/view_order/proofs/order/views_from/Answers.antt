-- One view more.
use Rattle.std.proofs.Common.{◌≡◌, ◌∙◌, ◌+◌, ◌-◌, ◌≤◌, ◌++◌, ◌∷◌, [], ℕ, List, ap, sym, subst, length, arith}
use Rattle.std.specs.Prelude.{All}
use Rattle.std.proofs.lemmas.List.FromFn.{map-range_with_len_more}
use Rattle.graph_model.specs.declared.number.ViewNo.{ViewNo}
use Rattle.graph_model.specs.GraphData.{AreDistinct}
use Rattle.view_matrix.specs.Matrices.{IsView}
use Rattle.view_order.specs.Places.{view}
use Rattle.view_order.proofs.Ranges.{between, between_distinct, between_within}
use Rattle.view_order.proofs.order.views_from.Goals as goal

pub loop-number-init : goal.loop-number-init
loop-number-init c =
    let none : 0 ≡ c.args.first - c.args.first = omega arith in
    record {
      from = omega arith;
      all = c.views-number-end.ensures.count;
      pushed = c.new-views.ensures ∙ ap (between c.args.first) none;
    }

pub loop-number-preserved : goal.loop-number-preserved
loop-number-preserved c =
    let first : ℕ = c.args.first in
    let number : ℕ = c.loop-number.number in
    let from : first ≤ number = c.loop-number.invariant.from in
    let more : (number - first) + 1 ≡ number + 1 - first = omega arith in
    record {
      from = omega arith;
      all = c.views-number-end.ensures.count;
      pushed =
          c.in_ok-push.ensures.ok ∙ ap (λ (xs : List ViewNo). xs ++ view number ∷ []) c.loop-number.invariant.pushed
          ∙ sym (map-range_with_len_more view first (number - first) number (omega arith)) ∙ ap (between first) more;
    }

pub returns-clause-views : goal.returns-clause-views
returns-clause-views c =
    let end : c.loop-number.number ≡ length c.args.matrix.now.columns = omega (arith, c.loop-number.invariant.all, c.loop-number-test.false, c.views-number-end.ensures.count, c.requires) in
    c.loop-number.invariant.pushed ∙ ap (λ n. between c.args.first (n - c.args.first)) end

pub returns-clause-within : goal.returns-clause-within
returns-clause-within c =
    let columns = c.args.matrix.now.columns in
    subst (All (IsView c.args.matrix.now)) (sym (returns-clause-views c)) (between_within c.args.matrix.now c.args.first (length columns - c.args.first) (omega (arith, c.requires)))

pub returns-clause-distinct : goal.returns-clause-distinct
returns-clause-distinct c =
    subst AreDistinct (sym (returns-clause-views c)) (between_distinct c.args.first (length c.args.matrix.now.columns - c.args.first))
