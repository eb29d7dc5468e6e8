-- The judging of an expression, case by case.
use Rattle.std.proofs.Common.{rules, ◌≡◌, ◌∙◌, ℤ, List, FitsSigned, w64, sym, ap, subst, map, Ok}
use Rattle.std.proofs.lemmas.Int.{to_z-of_z}
use Rattle.std.proofs.lemmas.Result.{err_from_is_err_and}
use Rattle.gvdl_tree.specs.declared.expression.ExprTree.{ExprTree}
use Rattle.gvdl_tree.specs.declared.expression.ExprTree.TheVariants as tree
use Rattle.gvdl_tree.specs.declared.expression.Test.{Test}
use Rattle.vertex_lang.specs.declared.program.Cmp.{Cmp}
use Rattle.gvdl_programs.specs.declared.template.ExprTemplate.{ExprTemplate}
use Rattle.gvdl_programs.specs.declared.template.ExprTemplate.TheVariants as template
use Rattle.gvdl_programs.specs.declared.template.CheckTemplate.TheVariants as check_template
use Rattle.gvdl_programs.specs.Judging.{Judged, ◌>>=◌, Tells, each}
use Rattle.gvdl_programs.specs.Expressions.{expression, test, sign_of, parameter_of}
use Rattle.gvdl_programs.specs.Turns.{each_on}
use Rattle.gvdl_programs.proofs.Judgements.{behind_first, behind_second, behind_third, first_refused, second_refused, third_refused}
use Rattle.gvdl_programs.proofs.ExpressionCases.{chain_judged, expression-If, expression-Else, expression-Sum, expression-Product, expression-Minus, expression-Number, expression-Nil, expression-Word, expression-EdgeProp, expression-NodeProp, expression-Param, expression-Least, expression-Most, test-Compare, test-IsNil}
use Rattle.gvdl_programs.proofs.expression.+judging.Goals as goal

pub checks-loop-tree-preserved : goal.checks-loop-tree-preserved
checks-loop-tree-preserved t c =
    c.loop-tree.invariant ∙ each_on (test c.args.graph.now c.args.part c.args.parameters.now) c.loop-tree.judged c.push.new.self c.args.tests.now c.loop-tree.tree-index c.tree-item.result c.in_ok-check.field-0 c.loop-tree-test.true c.tree-item.is c.in_ok-check.ensures c.in_ok-push.ensures.ok

pub check-returns-in_err-first-in-Compare : goal.check-returns-in_err-first-in-Compare
check-returns-in_err-first-in-Compare t c =
    let said = expression c.args.graph.now c.args.part c.args.parameters.now in
    let p = err_from_is_err_and c.from_residual.result c.from_residual.ensures.1 in
    rw (p.1, p.2) (first_refused (test c.args.graph.now c.args.part c.args.parameters.now c.args.tree.now) (said c.in-Compare.first) (λ x. said c.in-Compare.second >>= λ y. Ok (check_template.Compare x (sign_of c.in-Compare.sign) y)) (ap (test c.args.graph.now c.args.part c.args.parameters.now) c.in-Compare.is ∙ test-Compare c.args.graph.now c.args.part c.args.parameters.now c.in-Compare.first c.in-Compare.sign c.in-Compare.second) c.in_err-first-in-Compare.field-0.0 c.in_err-first-in-Compare.ensures)

pub check-returns-in_err-second-in-Compare : goal.check-returns-in_err-second-in-Compare
check-returns-in_err-second-in-Compare t c =
    let said = expression c.args.graph.now c.args.part c.args.parameters.now in
    let p = err_from_is_err_and c.from_residual-in_err-second-in-Compare.result c.from_residual-in_err-second-in-Compare.ensures.1 in
    rw (p.1, p.2) (second_refused (test c.args.graph.now c.args.part c.args.parameters.now c.args.tree.now) (said c.in-Compare.first) (λ x. said c.in-Compare.second) (λ x y. Ok (check_template.Compare x (sign_of c.in-Compare.sign) y)) (ap (test c.args.graph.now c.args.part c.args.parameters.now) c.in-Compare.is ∙ test-Compare c.args.graph.now c.args.part c.args.parameters.now c.in-Compare.first c.in-Compare.sign c.in-Compare.second) c.in_ok-first-in-Compare.first c.in_err-second-in-Compare.field-0.0 c.in_ok-first-in-Compare.ensures c.in_err-second-in-Compare.ensures)

pub check-returns-in_ok-second-in-Compare : goal.check-returns-in_ok-second-in-Compare
check-returns-in_ok-second-in-Compare t c =
    let said = expression c.args.graph.now c.args.part c.args.parameters.now in
    behind_second (test c.args.graph.now c.args.part c.args.parameters.now c.args.tree.now) (said c.in-Compare.first) (λ x. said c.in-Compare.second) (λ x y. Ok (check_template.Compare x (sign_of c.in-Compare.sign) y)) (ap (test c.args.graph.now c.args.part c.args.parameters.now) c.in-Compare.is ∙ test-Compare c.args.graph.now c.args.part c.args.parameters.now c.in-Compare.first c.in-Compare.sign c.in-Compare.second) c.in_ok-first-in-Compare.first c.in_ok-second-in-Compare.second c.in_ok-first-in-Compare.ensures c.in_ok-second-in-Compare.ensures
    ∙ ap (λ (s : Cmp). Ok (check_template.Compare c.in_ok-first-in-Compare.first s c.in_ok-second-in-Compare.second)) (sym c.sign_of.ensures)

pub check-returns-in_err-expression-in-IsNil : goal.check-returns-in_err-expression-in-IsNil
check-returns-in_err-expression-in-IsNil t c =
    let said = expression c.args.graph.now c.args.part c.args.parameters.now in
    let p = err_from_is_err_and c.from_residual-in_err-expression-in-IsNil.result c.from_residual-in_err-expression-in-IsNil.ensures.1 in
    rw (p.1, p.2) (first_refused (test c.args.graph.now c.args.part c.args.parameters.now c.args.tree.now) (said c.in-IsNil.member) (λ x. Ok (check_template.IsNil x)) (ap (test c.args.graph.now c.args.part c.args.parameters.now) c.in-IsNil.is ∙ test-IsNil c.args.graph.now c.args.part c.args.parameters.now c.in-IsNil.member) c.in_err-expression-in-IsNil.field-0.0 c.in_err-expression-in-IsNil.ensures)

pub check-returns-in_ok-expression-in-IsNil : goal.check-returns-in_ok-expression-in-IsNil
check-returns-in_ok-expression-in-IsNil t c =
    let said = expression c.args.graph.now c.args.part c.args.parameters.now in
    behind_first (test c.args.graph.now c.args.part c.args.parameters.now c.args.tree.now) (said c.in-IsNil.member) (λ x. Ok (check_template.IsNil x)) (ap (test c.args.graph.now c.args.part c.args.parameters.now) c.in-IsNil.is ∙ test-IsNil c.args.graph.now c.args.part c.args.parameters.now c.in-IsNil.member) c.in_ok-expression-in-IsNil.field-0 c.in_ok-expression-in-IsNil.ensures

pub expression-returns-in_err-members-in-Else : goal.expression-returns-in_err-members-in-Else
expression-returns-in_err-members-in-Else t c =
    let said = expression c.args.graph.now c.args.part c.args.parameters.now in
    let same : c.args.tree.now ≡ tree.Else c.as_slice-in-Else.result.now = cc in
    let p = err_from_is_err_and c.from_residual-in_err-members-in-Else.result c.from_residual-in_err-members-in-Else.ensures.1 in
    rw (p.1, p.2) (first_refused (said c.args.tree.now) ((λ (ts : List ExprTree). each (map (expression c.args.graph.now c.args.part c.args.parameters.now) ts)) c.as_slice-in-Else.result.now) (λ x. Ok (template.Else x)) (ap said same ∙ expression-Else c.args.graph.now c.args.part c.args.parameters.now c.as_slice-in-Else.result.now) c.in_err-members-in-Else.field-0.0 c.in_err-members-in-Else.ensures)

pub expression-returns-in_ok-members-in-Else : goal.expression-returns-in_ok-members-in-Else
expression-returns-in_ok-members-in-Else t c =
    let said = expression c.args.graph.now c.args.part c.args.parameters.now in
    let same : c.args.tree.now ≡ tree.Else c.as_slice-in-Else.result.now = cc in
    behind_first (said c.args.tree.now) ((λ (ts : List ExprTree). each (map (expression c.args.graph.now c.args.part c.args.parameters.now) ts)) c.as_slice-in-Else.result.now) (λ x. Ok (template.Else x)) (ap said same ∙ expression-Else c.args.graph.now c.args.part c.args.parameters.now c.as_slice-in-Else.result.now) c.in_ok-members-in-Else.members c.in_ok-members-in-Else.ensures

pub expression-returns-in_err-member-in-Minus : goal.expression-returns-in_err-member-in-Minus
expression-returns-in_err-member-in-Minus t c =
    let said = expression c.args.graph.now c.args.part c.args.parameters.now in
    let same : c.args.tree.now ≡ tree.Minus c.get-in-Minus.result.now = cc in
    let p = err_from_is_err_and c.from_residual-in_err-member-in-Minus.result c.from_residual-in_err-member-in-Minus.ensures.1 in
    rw (p.1, p.2) (first_refused (said c.args.tree.now) (said c.get-in-Minus.result.now) (λ x. Ok (template.Minus x)) (ap said same ∙ expression-Minus c.args.graph.now c.args.part c.args.parameters.now c.get-in-Minus.result.now) c.in_err-member-in-Minus.field-0.0 c.in_err-member-in-Minus.ensures)

pub expression-returns-in_ok-member-in-Minus : goal.expression-returns-in_ok-member-in-Minus
expression-returns-in_ok-member-in-Minus t c =
    let said = expression c.args.graph.now c.args.part c.args.parameters.now in
    let same : c.args.tree.now ≡ tree.Minus c.get-in-Minus.result.now = cc in
    behind_first (said c.args.tree.now) (said c.get-in-Minus.result.now) (λ x. Ok (template.Minus x)) (ap said same ∙ expression-Minus c.args.graph.now c.args.part c.args.parameters.now c.get-in-Minus.result.now) c.in_ok-member-in-Minus.member c.in_ok-member-in-Minus.ensures

pub expression-returns-in_err-expect-in-Param : goal.expression-returns-in_err-expect-in-Param
expression-returns-in_err-expect-in-Param t c =
    let said = expression c.args.graph.now c.args.part c.args.parameters.now in
    let same : c.args.tree.now ≡ tree.Param c.as_str-in-Param.result.now = cc in
    let p = err_from_is_err_and c.from_residual-in_err-expect-in-Param.result c.from_residual-in_err-expect-in-Param.ensures.1 in
    rw (p.1, p.2) (first_refused (said c.args.tree.now) (parameter_of c.args.parameters.now c.as_str-in-Param.result.now) (λ x. Ok (template.Param x)) (ap said same ∙ expression-Param c.args.graph.now c.args.part c.args.parameters.now c.as_str-in-Param.result.now) c.in_err-expect-in-Param.field-0.0 c.in_err-expect-in-Param.ensures)

pub expression-returns-in_ok-expect-in-Param : goal.expression-returns-in_ok-expect-in-Param
expression-returns-in_ok-expect-in-Param t c =
    let said = expression c.args.graph.now c.args.part c.args.parameters.now in
    let same : c.args.tree.now ≡ tree.Param c.as_str-in-Param.result.now = cc in
    behind_first (said c.args.tree.now) (parameter_of c.args.parameters.now c.as_str-in-Param.result.now) (λ x. Ok (template.Param x)) (ap said same ∙ expression-Param c.args.graph.now c.args.part c.args.parameters.now c.as_str-in-Param.result.now) c.in_ok-expect-in-Param.field-0 c.in_ok-expect-in-Param.ensures

pub expression-returns-in_err-first-in-Sum : goal.expression-returns-in_err-first-in-Sum
expression-returns-in_err-first-in-Sum t c =
    let said = expression c.args.graph.now c.args.part c.args.parameters.now in
    let same : c.args.tree.now ≡ tree.Sum c.get-in-Sum.result.now c.in-Sum.rest = cc in
    let p = err_from_is_err_and c.from_residual-in_err-first-in-Sum.result c.from_residual-in_err-first-in-Sum.ensures.1 in
    rw (p.1, p.2) (first_refused (said c.args.tree.now) (said c.get-in-Sum.result.now) (λ x. chain_judged c.args.graph.now c.args.part c.args.parameters.now c.in-Sum.rest >>= λ y. Ok (template.Sum x y)) (ap said same ∙ expression-Sum c.args.graph.now c.args.part c.args.parameters.now c.get-in-Sum.result.now c.in-Sum.rest) c.in_err-first-in-Sum.field-0.0 c.in_err-first-in-Sum.ensures)

pub expression-returns-in_err-rest-in-Sum : goal.expression-returns-in_err-rest-in-Sum
expression-returns-in_err-rest-in-Sum t c =
    let said = expression c.args.graph.now c.args.part c.args.parameters.now in
    let same : c.args.tree.now ≡ tree.Sum c.get-in-Sum.result.now c.as_slice-in-Sum.result.now = cc in
    let p = err_from_is_err_and c.from_residual-in_err-rest-in-Sum.result c.from_residual-in_err-rest-in-Sum.ensures.1 in
    rw (p.1, p.2) (second_refused (said c.args.tree.now) (said c.get-in-Sum.result.now) (λ x. chain_judged c.args.graph.now c.args.part c.args.parameters.now c.as_slice-in-Sum.result.now) (λ x y. Ok (template.Sum x y)) (ap said same ∙ expression-Sum c.args.graph.now c.args.part c.args.parameters.now c.get-in-Sum.result.now c.as_slice-in-Sum.result.now) c.in_ok-first-in-Sum.first c.in_err-rest-in-Sum.field-0.0 c.in_ok-first-in-Sum.ensures c.in_err-rest-in-Sum.ensures)

pub expression-returns-in_ok-rest-in-Sum : goal.expression-returns-in_ok-rest-in-Sum
expression-returns-in_ok-rest-in-Sum t c =
    let said = expression c.args.graph.now c.args.part c.args.parameters.now in
    let same : c.args.tree.now ≡ tree.Sum c.get-in-Sum.result.now c.as_slice-in-Sum.result.now = cc in
    behind_second (said c.args.tree.now) (said c.get-in-Sum.result.now) (λ x. chain_judged c.args.graph.now c.args.part c.args.parameters.now c.as_slice-in-Sum.result.now) (λ x y. Ok (template.Sum x y)) (ap said same ∙ expression-Sum c.args.graph.now c.args.part c.args.parameters.now c.get-in-Sum.result.now c.as_slice-in-Sum.result.now) c.in_ok-first-in-Sum.first c.in_ok-rest-in-Sum.rest c.in_ok-first-in-Sum.ensures c.in_ok-rest-in-Sum.ensures

pub expression-returns-in_err-first-in-Product : goal.expression-returns-in_err-first-in-Product
expression-returns-in_err-first-in-Product t c =
    let said = expression c.args.graph.now c.args.part c.args.parameters.now in
    let same : c.args.tree.now ≡ tree.Product c.get-in-Product.result.now c.in-Product.rest = cc in
    let p = err_from_is_err_and c.from_residual-in_err-first-in-Product.result c.from_residual-in_err-first-in-Product.ensures.1 in
    rw (p.1, p.2) (first_refused (said c.args.tree.now) (said c.get-in-Product.result.now) (λ x. chain_judged c.args.graph.now c.args.part c.args.parameters.now c.in-Product.rest >>= λ y. Ok (template.Product x y)) (ap said same ∙ expression-Product c.args.graph.now c.args.part c.args.parameters.now c.get-in-Product.result.now c.in-Product.rest) c.in_err-first-in-Product.field-0.0 c.in_err-first-in-Product.ensures)

pub expression-returns-in_err-rest-in-Product : goal.expression-returns-in_err-rest-in-Product
expression-returns-in_err-rest-in-Product t c =
    let said = expression c.args.graph.now c.args.part c.args.parameters.now in
    let same : c.args.tree.now ≡ tree.Product c.get-in-Product.result.now c.as_slice-in-Product.result.now = cc in
    let p = err_from_is_err_and c.from_residual-in_err-rest-in-Product.result c.from_residual-in_err-rest-in-Product.ensures.1 in
    rw (p.1, p.2) (second_refused (said c.args.tree.now) (said c.get-in-Product.result.now) (λ x. chain_judged c.args.graph.now c.args.part c.args.parameters.now c.as_slice-in-Product.result.now) (λ x y. Ok (template.Product x y)) (ap said same ∙ expression-Product c.args.graph.now c.args.part c.args.parameters.now c.get-in-Product.result.now c.as_slice-in-Product.result.now) c.in_ok-first-in-Product.first c.in_err-rest-in-Product.field-0.0 c.in_ok-first-in-Product.ensures c.in_err-rest-in-Product.ensures)

pub expression-returns-in_ok-rest-in-Product : goal.expression-returns-in_ok-rest-in-Product
expression-returns-in_ok-rest-in-Product t c =
    let said = expression c.args.graph.now c.args.part c.args.parameters.now in
    let same : c.args.tree.now ≡ tree.Product c.get-in-Product.result.now c.as_slice-in-Product.result.now = cc in
    behind_second (said c.args.tree.now) (said c.get-in-Product.result.now) (λ x. chain_judged c.args.graph.now c.args.part c.args.parameters.now c.as_slice-in-Product.result.now) (λ x y. Ok (template.Product x y)) (ap said same ∙ expression-Product c.args.graph.now c.args.part c.args.parameters.now c.get-in-Product.result.now c.as_slice-in-Product.result.now) c.in_ok-first-in-Product.first c.in_ok-rest-in-Product.rest c.in_ok-first-in-Product.ensures c.in_ok-rest-in-Product.ensures

pub expression-returns-in_err-first-in-Least : goal.expression-returns-in_err-first-in-Least
expression-returns-in_err-first-in-Least t c =
    let said = expression c.args.graph.now c.args.part c.args.parameters.now in
    let same : c.args.tree.now ≡ tree.Least c.get-in-Least.result.now c.in-Least.second = cc in
    let p = err_from_is_err_and c.from_residual-in_err-first-in-Least.result c.from_residual-in_err-first-in-Least.ensures.1 in
    rw (p.1, p.2) (first_refused (said c.args.tree.now) (said c.get-in-Least.result.now) (λ x. said c.in-Least.second >>= λ y. Ok (template.Least x y)) (ap said same ∙ expression-Least c.args.graph.now c.args.part c.args.parameters.now c.get-in-Least.result.now c.in-Least.second) c.in_err-first-in-Least.field-0.0 c.in_err-first-in-Least.ensures)

pub expression-returns-in_err-second-in-Least : goal.expression-returns-in_err-second-in-Least
expression-returns-in_err-second-in-Least t c =
    let said = expression c.args.graph.now c.args.part c.args.parameters.now in
    let same : c.args.tree.now ≡ tree.Least c.get-in-Least.result.now c.get-in-Least-2.result.now = cc in
    let p = err_from_is_err_and c.from_residual-in_err-second-in-Least.result c.from_residual-in_err-second-in-Least.ensures.1 in
    rw (p.1, p.2) (second_refused (said c.args.tree.now) (said c.get-in-Least.result.now) (λ x. said c.get-in-Least-2.result.now) (λ x y. Ok (template.Least x y)) (ap said same ∙ expression-Least c.args.graph.now c.args.part c.args.parameters.now c.get-in-Least.result.now c.get-in-Least-2.result.now) c.in_ok-first-in-Least.first c.in_err-second-in-Least.field-0.0 c.in_ok-first-in-Least.ensures c.in_err-second-in-Least.ensures)

pub expression-returns-in_ok-second-in-Least : goal.expression-returns-in_ok-second-in-Least
expression-returns-in_ok-second-in-Least t c =
    let said = expression c.args.graph.now c.args.part c.args.parameters.now in
    let same : c.args.tree.now ≡ tree.Least c.get-in-Least.result.now c.get-in-Least-2.result.now = cc in
    behind_second (said c.args.tree.now) (said c.get-in-Least.result.now) (λ x. said c.get-in-Least-2.result.now) (λ x y. Ok (template.Least x y)) (ap said same ∙ expression-Least c.args.graph.now c.args.part c.args.parameters.now c.get-in-Least.result.now c.get-in-Least-2.result.now) c.in_ok-first-in-Least.first c.in_ok-second-in-Least.second c.in_ok-first-in-Least.ensures c.in_ok-second-in-Least.ensures

pub expression-returns-in_err-first-in-Most : goal.expression-returns-in_err-first-in-Most
expression-returns-in_err-first-in-Most t c =
    let said = expression c.args.graph.now c.args.part c.args.parameters.now in
    let same : c.args.tree.now ≡ tree.Most c.get-in-Most.result.now c.in-Most.second = cc in
    let p = err_from_is_err_and c.from_residual-in_err-first-in-Most.result c.from_residual-in_err-first-in-Most.ensures.1 in
    rw (p.1, p.2) (first_refused (said c.args.tree.now) (said c.get-in-Most.result.now) (λ x. said c.in-Most.second >>= λ y. Ok (template.Most x y)) (ap said same ∙ expression-Most c.args.graph.now c.args.part c.args.parameters.now c.get-in-Most.result.now c.in-Most.second) c.in_err-first-in-Most.field-0.0 c.in_err-first-in-Most.ensures)

pub expression-returns-in_err-second-in-Most : goal.expression-returns-in_err-second-in-Most
expression-returns-in_err-second-in-Most t c =
    let said = expression c.args.graph.now c.args.part c.args.parameters.now in
    let same : c.args.tree.now ≡ tree.Most c.get-in-Most.result.now c.get-in-Most-2.result.now = cc in
    let p = err_from_is_err_and c.from_residual-in_err-second-in-Most.result c.from_residual-in_err-second-in-Most.ensures.1 in
    rw (p.1, p.2) (second_refused (said c.args.tree.now) (said c.get-in-Most.result.now) (λ x. said c.get-in-Most-2.result.now) (λ x y. Ok (template.Most x y)) (ap said same ∙ expression-Most c.args.graph.now c.args.part c.args.parameters.now c.get-in-Most.result.now c.get-in-Most-2.result.now) c.in_ok-first-in-Most.first c.in_err-second-in-Most.field-0.0 c.in_ok-first-in-Most.ensures c.in_err-second-in-Most.ensures)

pub expression-returns-in_ok-second-in-Most : goal.expression-returns-in_ok-second-in-Most
expression-returns-in_ok-second-in-Most t c =
    let said = expression c.args.graph.now c.args.part c.args.parameters.now in
    let same : c.args.tree.now ≡ tree.Most c.get-in-Most.result.now c.get-in-Most-2.result.now = cc in
    behind_second (said c.args.tree.now) (said c.get-in-Most.result.now) (λ x. said c.get-in-Most-2.result.now) (λ x y. Ok (template.Most x y)) (ap said same ∙ expression-Most c.args.graph.now c.args.part c.args.parameters.now c.get-in-Most.result.now c.get-in-Most-2.result.now) c.in_ok-first-in-Most.first c.in_ok-second-in-Most.second c.in_ok-first-in-Most.ensures c.in_ok-second-in-Most.ensures

pub expression-returns-in_err-checks-in-If : goal.expression-returns-in_err-checks-in-If
expression-returns-in_err-checks-in-If t c =
    let said = expression c.args.graph.now c.args.part c.args.parameters.now in
    let same : c.args.tree.now ≡ tree.If c.as_slice.result.now c.in-If.first c.in-If.second = cc in
    let p = err_from_is_err_and c.from_residual.result c.from_residual.ensures.1 in
    rw (p.1, p.2) (first_refused (said c.args.tree.now) ((λ (ts : List Test). each (map (test c.args.graph.now c.args.part c.args.parameters.now) ts)) c.as_slice.result.now) (λ cs. said c.in-If.first >>= λ x. said c.in-If.second >>= λ y. Ok (template.If cs x y)) (ap said same ∙ expression-If c.args.graph.now c.args.part c.args.parameters.now c.as_slice.result.now c.in-If.first c.in-If.second) c.in_err-checks-in-If.field-0.0 c.in_err-checks-in-If.ensures)

pub expression-returns-in_err-first-in-If : goal.expression-returns-in_err-first-in-If
expression-returns-in_err-first-in-If t c =
    let said = expression c.args.graph.now c.args.part c.args.parameters.now in
    let same : c.args.tree.now ≡ tree.If c.as_slice.result.now c.get.result.now c.in-If.second = cc in
    let p = err_from_is_err_and c.from_residual-in_err-first-in-If.result c.from_residual-in_err-first-in-If.ensures.1 in
    rw (p.1, p.2) (second_refused (said c.args.tree.now) ((λ (ts : List Test). each (map (test c.args.graph.now c.args.part c.args.parameters.now) ts)) c.as_slice.result.now) (λ cs. said c.get.result.now) (λ cs x. said c.in-If.second >>= λ y. Ok (template.If cs x y)) (ap said same ∙ expression-If c.args.graph.now c.args.part c.args.parameters.now c.as_slice.result.now c.get.result.now c.in-If.second) c.in_ok-checks-in-If.checks c.in_err-first-in-If.field-0.0 c.in_ok-checks-in-If.ensures c.in_err-first-in-If.ensures)

pub expression-returns-in_err-second-in-If : goal.expression-returns-in_err-second-in-If
expression-returns-in_err-second-in-If t c =
    let said = expression c.args.graph.now c.args.part c.args.parameters.now in
    let same : c.args.tree.now ≡ tree.If c.as_slice.result.now c.get.result.now c.get-in-If.result.now = cc in
    let p = err_from_is_err_and c.from_residual-in_err-second-in-If.result c.from_residual-in_err-second-in-If.ensures.1 in
    rw (p.1, p.2) (third_refused (said c.args.tree.now) ((λ (ts : List Test). each (map (test c.args.graph.now c.args.part c.args.parameters.now) ts)) c.as_slice.result.now) (said c.get.result.now) (said c.get-in-If.result.now) (λ cs x y. Ok (template.If cs x y)) (ap said same ∙ expression-If c.args.graph.now c.args.part c.args.parameters.now c.as_slice.result.now c.get.result.now c.get-in-If.result.now) c.in_ok-checks-in-If.checks c.in_ok-first-in-If.first c.in_err-second-in-If.field-0.0 c.in_ok-checks-in-If.ensures c.in_ok-first-in-If.ensures c.in_err-second-in-If.ensures)

pub expression-returns-in_ok-second-in-If : goal.expression-returns-in_ok-second-in-If
expression-returns-in_ok-second-in-If t c =
    let said = expression c.args.graph.now c.args.part c.args.parameters.now in
    let same : c.args.tree.now ≡ tree.If c.as_slice.result.now c.get.result.now c.get-in-If.result.now = cc in
    behind_third (said c.args.tree.now) ((λ (ts : List Test). each (map (test c.args.graph.now c.args.part c.args.parameters.now) ts)) c.as_slice.result.now) (said c.get.result.now) (said c.get-in-If.result.now) (λ cs x y. Ok (template.If cs x y)) (ap said same ∙ expression-If c.args.graph.now c.args.part c.args.parameters.now c.as_slice.result.now c.get.result.now c.get-in-If.result.now) c.in_ok-checks-in-If.checks c.in_ok-first-in-If.first c.in_ok-second-in-If.second c.in_ok-checks-in-If.ensures c.in_ok-first-in-If.ensures c.in_ok-second-in-If.ensures

pub expression-returns-in-Number : goal.expression-returns-in-Number
expression-returns-in-Number t c =
    let fits : FitsSigned w64 c.clamped_number.result = search rules in
    ap (expression c.args.graph.now c.args.part c.args.parameters.now) c.in-Number.is ∙ expression-Number c.args.graph.now c.args.part c.args.parameters.now c.in-Number.number ∙ ap (λ (z : ℤ). Ok (template.Number z)) (sym (to_z-of_z w64 c.clamped_number.result fits ∙ c.clamped_number.ensures))

pub expression-returns-in-Nil : goal.expression-returns-in-Nil
expression-returns-in-Nil t c =
    ap (expression c.args.graph.now c.args.part c.args.parameters.now) c.in-Nil.is ∙ expression-Nil c.args.graph.now c.args.part c.args.parameters.now

pub expression-returns-in-Word : goal.expression-returns-in-Word
expression-returns-in-Word t c =
    let said = expression c.args.graph.now c.args.part c.args.parameters.now in
    subst (λ (j : Judged ExprTemplate). Tells j c.word_judged.result) (sym (ap said c.in-Word.is ∙ expression-Word c.args.graph.now c.args.part c.args.parameters.now c.in-Word.word)) c.word_judged.ensures

pub expression-returns-in-EdgeProp : goal.expression-returns-in-EdgeProp
expression-returns-in-EdgeProp t c =
    let said = expression c.args.graph.now c.args.part c.args.parameters.now in
    let same : c.args.tree.now ≡ tree.EdgeProp c.as_str.result.now = cc in
    subst (λ (j : Judged ExprTemplate). Tells j c.edge_judged.result) (sym (ap said same ∙ expression-EdgeProp c.args.graph.now c.args.part c.args.parameters.now c.as_str.result.now)) c.edge_judged.ensures

pub expression-returns-in-NodeProp : goal.expression-returns-in-NodeProp
expression-returns-in-NodeProp t c =
    let said = expression c.args.graph.now c.args.part c.args.parameters.now in
    let same : c.args.tree.now ≡ tree.NodeProp c.as_str-in-NodeProp.result.now = cc in
    subst (λ (j : Judged ExprTemplate). Tells j c.node_judged.result) (sym (ap said same ∙ expression-NodeProp c.args.graph.now c.args.part c.args.parameters.now c.as_str-in-NodeProp.result.now)) c.node_judged.ensures
