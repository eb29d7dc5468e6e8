-- The judging of a predicate, case by case.
use Rattle.std.proofs.Common.{◌∙◌, refl, sym, ap, subst, map, List, Ok}
use Rattle.std.proofs.lemmas.Result.{err_from_is_err_and}
use Rattle.gvdl_tree.specs.declared.predicate.PredTree.{PredTree}
use Rattle.edge_predicates.specs.declared.pred.Pred.{Pred}
use Rattle.edge_predicates.specs.declared.pred.Pred.TheVariants as pred
use Rattle.gvdl_programs.specs.Judging.{Judged, each, Tells}
use Rattle.gvdl_check.specs.Predicates.{placed, predicate}
use Rattle.gvdl_programs.specs.JudgingLaws.{gives, refuses}
use Rattle.gvdl_programs.specs.Turns.{each_on, each_done}
use Rattle.gvdl_check.proofs.PredicateCases.{predicate-or, predicate-and, predicate-not, predicate-constant, predicate-compare, predicate-missing}
use Rattle.gvdl_check.proofs.predicate.+judging.Goals as goal

pub predicate-returns-in_err-members-in-Or : goal.predicate-returns-in_err-members-in-Or
predicate-returns-in_err-members-in-Or t c =
    let g = c.args.graph.now in
    let all = λ (ts : List PredTree). each (map (predicate g) ts) in
    let p = err_from_is_err_and c.from_residual.result c.from_residual.ensures.1 in
    rw (p.1, p.2)
    (refuses (predicate g c.args.tree.now) (all c.in-Or.members) (all c.as_slice.result.now) (λ ps. Ok (pred.Or ps)) c.in_err-members-in-Or.field-0.0
    (ap (predicate g) c.in-Or.is ∙ predicate-or g c.in-Or.members) (ap all c.as_slice.ensures) c.in_err-members-in-Or.ensures)

pub predicate-returns-in_err-members-in-And : goal.predicate-returns-in_err-members-in-And
predicate-returns-in_err-members-in-And t c =
    let g = c.args.graph.now in
    let all = λ (ts : List PredTree). each (map (predicate g) ts) in
    let p = err_from_is_err_and c.from_residual-in_err-members-in-And.result c.from_residual-in_err-members-in-And.ensures.1 in
    rw (p.1, p.2)
    (refuses (predicate g c.args.tree.now) (all c.in-And.members) (all c.as_slice-in-And.result.now) (λ ps. Ok (pred.And ps)) c.in_err-members-in-And.field-0.0
    (ap (predicate g) c.in-And.is ∙ predicate-and g c.in-And.members) (ap all c.as_slice-in-And.ensures) c.in_err-members-in-And.ensures)

pub predicate-returns-in_err-member-in-Not : goal.predicate-returns-in_err-member-in-Not
predicate-returns-in_err-member-in-Not t c =
    let g = c.args.graph.now in
    let p = err_from_is_err_and c.from_residual-in_err-member-in-Not.result c.from_residual-in_err-member-in-Not.ensures.1 in
    rw (p.1, p.2)
    (refuses (predicate g c.args.tree.now) (predicate g c.in-Not.member) (predicate g c.get.result.now) (λ q. Ok (pred.Not q)) c.in_err-member-in-Not.field-0.0
    (ap (predicate g) c.in-Not.is ∙ predicate-not g c.in-Not.member) (ap (predicate g) c.get.ensures) c.in_err-member-in-Not.ensures)

pub predicate-returns-in_err-place-in-Missing : goal.predicate-returns-in_err-place-in-Missing
predicate-returns-in_err-place-in-Missing t c =
    let g = c.args.graph.now in
    let said = placed g c.in-Missing.operand in
    let p = err_from_is_err_and c.from_residual-in_err-place-in-Missing.result c.from_residual-in_err-place-in-Missing.ensures.1 in
    rw (p.1, p.2)
    (refuses (predicate g c.args.tree.now) said said (λ at. Ok (pred.Missing at.0)) c.in_err-place-in-Missing.field-0.0
    (ap (predicate g) c.in-Missing.is ∙ predicate-missing g c.in-Missing.operand) refl c.in_err-place-in-Missing.ensures)

pub predicate-returns-in_ok-members-in-Or : goal.predicate-returns-in_ok-members-in-Or
predicate-returns-in_ok-members-in-Or t c =
    let g = c.args.graph.now in
    let all = λ (ts : List PredTree). each (map (predicate g) ts) in
    gives (predicate g c.args.tree.now) (all c.in-Or.members) (all c.as_slice.result.now) (λ ps. Ok (pred.Or ps)) c.in_ok-members-in-Or.members
    (ap (predicate g) c.in-Or.is ∙ predicate-or g c.in-Or.members) (ap all c.as_slice.ensures) c.in_ok-members-in-Or.ensures

pub predicate-returns-in_ok-members-in-And : goal.predicate-returns-in_ok-members-in-And
predicate-returns-in_ok-members-in-And t c =
    let g = c.args.graph.now in
    let all = λ (ts : List PredTree). each (map (predicate g) ts) in
    gives (predicate g c.args.tree.now) (all c.in-And.members) (all c.as_slice-in-And.result.now) (λ ps. Ok (pred.And ps)) c.in_ok-members-in-And.members
    (ap (predicate g) c.in-And.is ∙ predicate-and g c.in-And.members) (ap all c.as_slice-in-And.ensures) c.in_ok-members-in-And.ensures

pub predicate-returns-in_ok-new-in-Not : goal.predicate-returns-in_ok-new-in-Not
predicate-returns-in_ok-new-in-Not t c =
    let g = c.args.graph.now in
    let made = gives (predicate g c.args.tree.now) (predicate g c.in-Not.member) (predicate g c.get.result.now) (λ q. Ok (pred.Not q)) c.in_ok-member-in-Not.member
    (ap (predicate g) c.in-Not.is ∙ predicate-not g c.in-Not.member) (ap (predicate g) c.get.ensures) c.in_ok-member-in-Not.ensures in
    made ∙ ap (λ (q : Pred). Ok (pred.Not q)) (sym c.in_ok-new-in-Not.ensures)

pub predicate-returns-in-Constant : goal.predicate-returns-in-Constant
predicate-returns-in-Constant t c = ap (predicate c.args.graph.now) c.in-Constant.is ∙ predicate-constant c.args.graph.now c.in-Constant.truth

pub predicate-returns-in-Compare : goal.predicate-returns-in-Compare
predicate-returns-in-Compare t c =
    let g = c.args.graph.now in
    let same = ap (predicate g) c.in-Compare.is ∙ predicate-compare g c.in-Compare.first c.in-Compare.sign c.in-Compare.second in
    subst (λ (said : Judged Pred). Tells said c.comparison.result) (sym same) c.comparison.ensures

pub predicate-returns-in_ok-place-in-Missing : goal.predicate-returns-in_ok-place-in-Missing
predicate-returns-in_ok-place-in-Missing t c =
    let g = c.args.graph.now in
    let said = placed g c.in-Missing.operand in
    gives (predicate g c.args.tree.now) said said (λ at. Ok (pred.Missing at.0)) (c.in_ok-place-in-Missing.place, c.in_ok-place-in-Missing._kind)
    (ap (predicate g) c.in-Missing.is ∙ predicate-missing g c.in-Missing.operand) refl c.in_ok-place-in-Missing.ensures

pub predicates-loop-tree-preserved : goal.predicates-loop-tree-preserved
predicates-loop-tree-preserved t c =
    c.loop-tree.invariant ∙ each_on (predicate c.args.graph.now) c.loop-tree.preds c.push.new.self c.args.trees.now c.loop-tree.tree-index c.tree-item.result c.in_ok-pred.pred c.loop-tree-test.true c.tree-item.is c.in_ok-pred.ensures c.in_ok-push.ensures.ok

pub predicates-returns : goal.predicates-returns
predicates-returns t c =
    c.loop-tree.invariant ∙ each_done (predicate c.args.graph.now) c.loop-tree.preds c.args.trees.now c.loop-tree.tree-index c.loop-tree-test.false
