-- One predicate more.
use Rattle.std.proofs.Common.{◌∙◌, ◌+◌, ℕ, Bool, List, take, refl, sym, ap}
use Rattle.std.specs.List.{list_all}
use Rattle.std.proofs.lemmas.List.{take_all}
use Rattle.std.proofs.lemmas.Result.{IfOk-weaker}
use Rattle.graph_model.specs.GraphData.{GraphData}
use Rattle.edge_predicates.specs.declared.pred.Pred.{Pred}
use Rattle.edge_predicates.specs.Truth.{truth}
use Rattle.view_matrix.specs.Bounds.{meets_at}
use Rattle.view_matrix.proofs.Conjunctions.{truth_and, truth_compare, nothing_more, more_and_more, same_adds, each_more}
use Rattle.view_matrix.proofs.conjunction.+add_bounds.Goals as goal

pub add_bounds-returns-in-And : goal.add_bounds-returns-in-And
add_bounds-returns-in-And t c =
    IfOk-weaker c.add_each.result _ _
    (λ (added : Bool) adds is.
    same_adds c.args.columns c.args.all.now.items c.add_each.new.all.items (λ (g : GraphData) (e : ℕ). list_all (truth g e) c.as_slice.result.now) (λ (g : GraphData) (e : ℕ). truth g e c.args.pred.now) (adds is)
    (λ g e. ap (λ (ps : List Pred). list_all (truth g e) ps) c.as_slice.ensures ∙ sym (truth_and g e c.in-And.members) ∙ ap (λ (p : Pred). truth g e p) (sym c.in-And.is)))
    c.add_each.ensures

pub add_bounds-returns-in_ok-push_bounds-in-Some : goal.add_bounds-returns-in_ok-push_bounds-in-Some
add_bounds-returns-in_ok-push_bounds-in-Some t c = λ is.
    same_adds c.args.columns c.args.all.now.items c.push_bounds.new.all.items (λ (g : GraphData) (e : ℕ). meets_at g e c.in-Some.bounds) (λ (g : GraphData) (e : ℕ). truth g e c.args.pred.now) c.in_ok-push_bounds-in-Some.ensures
    (λ g e. c.in-Some.ensures g e ∙ sym (truth_compare g e c.in-Compare.first c.in-Compare.sign c.in-Compare.second) ∙ ap (λ (p : Pred). truth g e p) (sym c.in-Compare.is))

pub add_each-loop-pred-init : goal.add_each-loop-pred-init
add_each-loop-pred-init t c = nothing_more c.args.columns c.args.all.now.items (λ (g : GraphData) (e : ℕ). list_all (truth g e) (take 0 c.args.preds.now)) (λ g e. refl)

pub add_each-loop-pred-preserved : goal.add_each-loop-pred-preserved
add_each-loop-pred-preserved t c =
    let preds = c.args.preds.now in
    let i : ℕ = c.loop-pred.pred-index in
    more_and_more c.args.columns c.args.all.now.items c.loop-pred.all.items c.add_bounds.new.all.items
    (λ (g : GraphData) (e : ℕ). list_all (truth g e) (take i preds)) (λ (g : GraphData) (e : ℕ). truth g e c.pred-item.result) (λ (g : GraphData) (e : ℕ). list_all (truth g e) (take (i + 1) preds))
    c.loop-pred.invariant (c.in_ok-add_bounds.ensures c.if-not-branch.false)
    (λ g e. each_more g e preds i c.pred-item.result c.loop-pred-test.true c.pred-item.is)

pub add_each-returns : goal.add_each-returns
add_each-returns t c = λ is.
    let preds = c.args.preds.now in
    let i : ℕ = c.loop-pred.pred-index in
    same_adds c.args.columns c.args.all.now.items c.loop-pred.all.items (λ (g : GraphData) (e : ℕ). list_all (truth g e) (take i preds)) (λ (g : GraphData) (e : ℕ). list_all (truth g e) preds) c.loop-pred.invariant
    (λ g e. ap (λ (ps : List Pred). list_all (truth g e) ps) (take_all i preds c.loop-pred-test.false))
