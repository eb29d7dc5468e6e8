-- The numbers filled in, case by case.
use Rattle.std.proofs.Common.{rules, ◌∙◌, sym, ap, ℤ, FitsSigned, w64}
use Rattle.std.proofs.lemmas.Int.{to_z-of_z}
use Rattle.vertex_lang.specs.declared.program.Expr.{Expr}
use Rattle.vertex_lang.specs.declared.program.Expr.TheVariants as expr
use Rattle.gvdl_programs.specs.Filled.{filled}
use Rattle.gvdl_programs.proofs.Filling.{filled-If, filled-Else, filled-Sum, filled-Product, filled-Minus, filled-Number, filled-Nil, filled-Word, filled-EdgeProp, filled-NodeProp, filled-Param, filled-Least, filled-Most, filled-Compare, filled-IsNil}
use Rattle.gvdl_programs.proofs.fill.+filling.Goals as goal

pub filled-returns-in_ok-second-in-If : goal.filled-returns-in_ok-second-in-If
filled-returns-in_ok-second-in-If t c = cc (filled-If c.args.numbers.now c.in-If.checks c.in-If.first c.in-If.second, c.in_ok-checks-in-If.ensures, c.in_ok-first-in-If.ensures, c.in_ok-second-in-If.ensures)

pub filled-returns-in_ok-filled_all-in-Else : goal.filled-returns-in_ok-filled_all-in-Else
filled-returns-in_ok-filled_all-in-Else t c = cc (filled-Else c.args.numbers.now c.in-Else.members, c.in_ok-filled_all-in-Else.ensures)

pub filled-returns-in_ok-filled_chain-in-Sum : goal.filled-returns-in_ok-filled_chain-in-Sum
filled-returns-in_ok-filled_chain-in-Sum t c = cc (filled-Sum c.args.numbers.now c.in-Sum.first c.in-Sum.rest, c.in_ok-first-in-Sum.ensures, c.in_ok-filled_chain-in-Sum.ensures)

pub filled-returns-in_ok-filled_chain-in-Product : goal.filled-returns-in_ok-filled_chain-in-Product
filled-returns-in_ok-filled_chain-in-Product t c = cc (filled-Product c.args.numbers.now c.in-Product.first c.in-Product.rest, c.in_ok-first-in-Product.ensures, c.in_ok-filled_chain-in-Product.ensures)

pub filled-returns-in_ok-filled_box-in-Minus : goal.filled-returns-in_ok-filled_box-in-Minus
filled-returns-in_ok-filled_box-in-Minus t c = cc (filled-Minus c.args.numbers.now c.in-Minus.member, c.in_ok-filled_box-in-Minus.ensures)

pub filled-returns-in-Nil : goal.filled-returns-in-Nil
filled-returns-in-Nil t c = cc (filled-Nil c.args.numbers.now)

pub filled-returns-in-Word : goal.filled-returns-in-Word
filled-returns-in-Word t c = cc (filled-Word c.args.numbers.now c.in-Word.word)

pub filled-returns-in-EdgeProp : goal.filled-returns-in-EdgeProp
filled-returns-in-EdgeProp t c = cc (filled-EdgeProp c.args.numbers.now c.in-EdgeProp.column)

pub filled-returns-in-NodeProp : goal.filled-returns-in-NodeProp
filled-returns-in-NodeProp t c = cc (filled-NodeProp c.args.numbers.now c.in-NodeProp.column)

pub filled-returns-in_ok-filled_box-in-Least : goal.filled-returns-in_ok-filled_box-in-Least
filled-returns-in_ok-filled_box-in-Least t c =
    let ns = c.args.numbers.now in
    ap (λ (e : Expr). expr.Least e c.in_ok-filled_box-in-Least.field-0) (c.in_ok-first-in-Least.ensures ∙ ap (filled ns) c.get-in-Least.ensures)
    ∙ ap (λ (e : Expr). expr.Least (filled ns c.in-Least.first) e) (c.in_ok-filled_box-in-Least.ensures ∙ ap (filled ns) c.get-in-Least-2.ensures)
    ∙ sym (ap (filled ns) c.in-Least.is ∙ filled-Least ns c.in-Least.first c.in-Least.second)

pub filled-returns-in_ok-filled_box-in-Most : goal.filled-returns-in_ok-filled_box-in-Most
filled-returns-in_ok-filled_box-in-Most t c =
    let ns = c.args.numbers.now in
    ap (λ (e : Expr). expr.Most e c.in_ok-filled_box-in-Most.field-0) (c.in_ok-first-in-Most.ensures ∙ ap (filled ns) c.get-in-Most.ensures)
    ∙ ap (λ (e : Expr). expr.Most (filled ns c.in-Most.first) e) (c.in_ok-filled_box-in-Most.ensures ∙ ap (filled ns) c.get-in-Most-2.ensures)
    ∙ sym (ap (filled ns) c.in-Most.is ∙ filled-Most ns c.in-Most.first c.in-Most.second)

pub filled_check-returns-in_ok-second-in-Compare : goal.filled_check-returns-in_ok-second-in-Compare
filled_check-returns-in_ok-second-in-Compare t c = cc (filled-Compare c.args.numbers.now c.in-Compare.first c.in-Compare.sign c.in-Compare.second, c.in_ok-first-in-Compare.ensures, c.in_ok-second-in-Compare.ensures)

pub filled_check-returns-in_ok-filled-in-IsNil : goal.filled_check-returns-in_ok-filled-in-IsNil
filled_check-returns-in_ok-filled-in-IsNil t c = cc (filled-IsNil c.args.numbers.now c.in-IsNil.member, c.in_ok-filled-in-IsNil.ensures)

pub filled-returns-in-Number : goal.filled-returns-in-Number
filled-returns-in-Number t c =
    let fits : FitsSigned w64 c.in-Number.number = search rules in
    ap (λ (z : ℤ). expr.Number z) (to_z-of_z w64 c.in-Number.number fits) ∙ sym (ap (filled c.args.numbers.now) c.in-Number.is ∙ filled-Number c.args.numbers.now c.in-Number.number)

pub filled-returns-in-Param : goal.filled-returns-in-Param
filled-returns-in-Param t c =
    let fits : FitsSigned w64 c.number_at.result = search rules in
    ap (λ (z : ℤ). expr.Number z) (to_z-of_z w64 c.number_at.result fits ∙ c.number_at.ensures) ∙ sym (ap (filled c.args.numbers.now) c.in-Param.is ∙ filled-Param c.args.numbers.now c.in-Param.place)
