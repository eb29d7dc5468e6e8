use Rattle.std.proofs.Common.{rules, ◌≡◌, ◌∙◌, sym, ap, ℤ, Bool, true, false, List, fold, map, FitsSigned, w64}
use Rattle.std.specs.List.{list_all}
use Rattle.std.proofs.lemmas.Int.{to_z-of_z, to_z_pos}
use Rattle.std.proofs.lemmas.Bool.{cond-true, cond-false}
use Rattle.graph_model.specs.declared.value.Val.{Val}
use Rattle.graph_model.specs.declared.value.Val.TheVariants.{Num}
use Rattle.vertex_lang.specs.declared.program.Expr.{Expr}
use Rattle.vertex_lang.specs.declared.program.Check.{Check}
use Rattle.vertex_lang.specs.Expressions.{value_of, holds_of}
use Rattle.vertex_lang.specs.Naming.{environment}
use Rattle.vertex_lang.specs.Values.{added, scaled, negated, first_given, lesser, greater, in_range}
use Rattle.vertex_lang.specs.Trees.{value-If, value-Else, value-Sum, value-Product, value-Minus, value-Number, value-Nil, value-Id, value-Start, value-Value, value-Gathered, value-Count, value-Outdeg, value-EdgeProp, value-NodeProp, value-Least, value-Most, holds-Compare, holds-IsNil}
use Rattle.vertex_lang.proofs.Chains.{given_here, given_before}
use Rattle.vertex_lang.proofs.evaluate.+evaluation.Goals as goal
use Rattle.vertex_lang.proofs.evaluate.+evaluation.Goals.{first_value-then-is_none, first_value-else-is_none}

pub evaluate-returns-then-all_hold : goal.evaluate-returns-then-all_hold
evaluate-returns-then-all_hold t c =
    let words = environment c.args.words.now in
    let all : list_all (λ t. holds_of t words) c.in-If.checks ≡ true = sym (c.all_hold.ensures ∙ ap (λ (ts : List Check). list_all (λ t. holds_of t words) ts) c.as_slice.ensures) ∙ c.if-all_hold.true in
    c.evaluate.ensures ∙ ap (λ (e : Expr). value_of e words) c.get.ensures ∙ sym (ap (λ (e : Expr). value_of e words) c.in-If.is ∙ value-If c.in-If.checks c.in-If.yes c.in-If.no words ∙ cond-true _ _ _ all)

pub evaluate-returns-else-all_hold : goal.evaluate-returns-else-all_hold
evaluate-returns-else-all_hold t c =
    let words = environment c.args.words.now in
    let some : list_all (λ t. holds_of t words) c.in-If.checks ≡ false = sym (c.all_hold.ensures ∙ ap (λ (ts : List Check). list_all (λ t. holds_of t words) ts) c.as_slice.ensures) ∙ c.if-all_hold.false in
    c.evaluate-else-all_hold.ensures ∙ ap (λ (e : Expr). value_of e words) c.get-else-all_hold.ensures ∙ sym (ap (λ (e : Expr). value_of e words) c.in-If.is ∙ value-If c.in-If.checks c.in-If.yes c.in-If.no words ∙ cond-false _ _ _ some)

pub evaluate-returns-in-Number : goal.evaluate-returns-in-Number
evaluate-returns-in-Number t c =
    let fits : FitsSigned w64 c.in-Number.number = search rules in
    ap (λ (z : ℤ). Num z) (to_z-of_z w64 c.in-Number.number fits) ∙ sym (ap (λ (e : Expr). value_of e (environment c.args.words.now)) c.in-Number.is ∙ value-Number c.in-Number.number (environment c.args.words.now))

pub evaluate-returns-in-Nil : goal.evaluate-returns-in-Nil
evaluate-returns-in-Nil t c = sym (ap (λ (e : Expr). value_of e (environment c.args.words.now)) c.in-Nil.is ∙ value-Nil (environment c.args.words.now))

pub evaluate-returns-in-Id : goal.evaluate-returns-in-Id
evaluate-returns-in-Id t c = ap (λ (z : ℤ). Num z) (to_z_pos w64 c.args.words.now.id c.requires.id) ∙ sym (ap (λ (e : Expr). value_of e (environment c.args.words.now)) c.in-Id.is ∙ value-Id (environment c.args.words.now))

pub evaluate-returns-in-Start : goal.evaluate-returns-in-Start
evaluate-returns-in-Start t c = sym (ap (λ (e : Expr). value_of e (environment c.args.words.now)) c.in-Start.is ∙ value-Start (environment c.args.words.now))

pub evaluate-returns-in-Value : goal.evaluate-returns-in-Value
evaluate-returns-in-Value t c = sym (ap (λ (e : Expr). value_of e (environment c.args.words.now)) c.in-Value.is ∙ value-Value (environment c.args.words.now))

pub evaluate-returns-in-Gathered : goal.evaluate-returns-in-Gathered
evaluate-returns-in-Gathered t c = sym (ap (λ (e : Expr). value_of e (environment c.args.words.now)) c.in-Gathered.is ∙ value-Gathered (environment c.args.words.now))

pub evaluate-returns-in-Sum : goal.evaluate-returns-in-Sum
evaluate-returns-in-Sum t c =
    let words = environment c.args.words.now in
    let chain = λ (v : Val) (rest : List (Bool × Expr)). fold (λ sum member. added member.0 sum (value_of member.1 words)) v rest in
    let first : c.operand-first.result ≡ value_of c.in-Sum.first words = c.operand-first.ensures ∙ ap (λ (e : Expr). value_of e words) c.get-in-Sum.ensures in
    c.add_all.ensures ∙ ap (λ (v : Val). chain v c.as_slice-in-Sum.result.now) first ∙ ap (λ (rest : List (Bool × Expr)). chain (value_of c.in-Sum.first words) rest) c.as_slice-in-Sum.ensures ∙ sym (ap (λ (e : Expr). value_of e words) c.in-Sum.is ∙ value-Sum c.in-Sum.first c.in-Sum.rest words)

pub evaluate-returns-in-Least : goal.evaluate-returns-in-Least
evaluate-returns-in-Least t c =
    let words = environment c.args.words.now in
    let left : c.operand-left.result ≡ value_of c.in-Least.left words = c.operand-left.ensures ∙ ap (λ (e : Expr). value_of e words) c.get-in-Least.ensures in
    let right : c.operand-right.result ≡ value_of c.in-Least.right words = c.operand-right.ensures ∙ ap (λ (e : Expr). value_of e words) c.get-in-Least-2.ensures in
    c.clamp.ensures ∙ ap in_range (c.lesser_of.ensures ∙ ap (λ (v : Val). lesser v c.operand-right.result) left ∙ ap (λ (v : Val). lesser (value_of c.in-Least.left words) v) right) ∙ sym (ap (λ (e : Expr). value_of e words) c.in-Least.is ∙ value-Least c.in-Least.left c.in-Least.right words)

pub evaluate-returns-in-Most : goal.evaluate-returns-in-Most
evaluate-returns-in-Most t c =
    let words = environment c.args.words.now in
    let left : c.operand-left-in-Most.result ≡ value_of c.in-Most.left words = c.operand-left-in-Most.ensures ∙ ap (λ (e : Expr). value_of e words) c.get-in-Most.ensures in
    let right : c.operand-right-in-Most.result ≡ value_of c.in-Most.right words = c.operand-right-in-Most.ensures ∙ ap (λ (e : Expr). value_of e words) c.get-in-Most-2.ensures in
    c.clamp-in-Most.ensures ∙ ap in_range (c.greater_of.ensures ∙ ap (λ (v : Val). greater v c.operand-right-in-Most.result) left ∙ ap (λ (v : Val). greater (value_of c.in-Most.left words) v) right) ∙ sym (ap (λ (e : Expr). value_of e words) c.in-Most.is ∙ value-Most c.in-Most.left c.in-Most.right words)

pub evaluate-returns-in-Product : goal.evaluate-returns-in-Product
evaluate-returns-in-Product t c =
    let words = environment c.args.words.now in
    let chain = λ (v : Val) (rest : List (Bool × Expr)). fold (λ product member. scaled member.0 product (value_of member.1 words)) v rest in
    let first : c.operand-first-in-Product.result ≡ value_of c.in-Product.first words = c.operand-first-in-Product.ensures ∙ ap (λ (e : Expr). value_of e words) c.get-in-Product.ensures in
    c.scale_all.ensures ∙ ap (λ (v : Val). chain v c.as_slice-in-Product.result.now) first ∙ ap (λ (rest : List (Bool × Expr)). chain (value_of c.in-Product.first words) rest) c.as_slice-in-Product.ensures ∙ sym (ap (λ (e : Expr). value_of e words) c.in-Product.is ∙ value-Product c.in-Product.first c.in-Product.rest words)

pub evaluate-returns-in-Else : goal.evaluate-returns-in-Else
evaluate-returns-in-Else t c =
    let words = environment c.args.words.now in
    c.first_value.ensures ∙ ap (λ (members : List Expr). first_given (map (λ member. value_of member words) members)) c.as_slice-in-Else.ensures ∙ sym (ap (λ (e : Expr). value_of e words) c.in-Else.is ∙ value-Else c.in-Else.members words)

pub evaluate-returns-in-Minus : goal.evaluate-returns-in-Minus
evaluate-returns-in-Minus t c =
    let words = environment c.args.words.now in
    let positive : c.evaluate-positive.result ≡ value_of c.in-Minus.positive words = c.evaluate-positive.ensures ∙ ap (λ (e : Expr). value_of e words) c.get-in-Minus.ensures in
    c.negate.ensures ∙ ap negated positive ∙ sym (ap (λ (e : Expr). value_of e words) c.in-Minus.is ∙ value-Minus c.in-Minus.positive words)

pub evaluate-returns-in-Count : goal.evaluate-returns-in-Count
evaluate-returns-in-Count t c = ap (λ (z : ℤ). Num z) (to_z_pos w64 c.args.words.now.count c.requires.count) ∙ sym (ap (λ (e : Expr). value_of e (environment c.args.words.now)) c.in-Count.is ∙ value-Count (environment c.args.words.now))

pub evaluate-returns-in-Outdeg : goal.evaluate-returns-in-Outdeg
evaluate-returns-in-Outdeg t c = ap (λ (z : ℤ). Num z) (to_z_pos w64 c.args.words.now.outdeg c.requires.outdeg) ∙ sym (ap (λ (e : Expr). value_of e (environment c.args.words.now)) c.in-Outdeg.is ∙ value-Outdeg (environment c.args.words.now))

pub evaluate-returns-in-EdgeProp : goal.evaluate-returns-in-EdgeProp
evaluate-returns-in-EdgeProp t c = c.of_edge.ensures ∙ sym (ap (λ (e : Expr). value_of e (environment c.args.words.now)) c.in-EdgeProp.is ∙ value-EdgeProp c.in-EdgeProp.column (environment c.args.words.now))

pub evaluate-returns-in-NodeProp : goal.evaluate-returns-in-NodeProp
evaluate-returns-in-NodeProp t c = c.of_node.ensures ∙ sym (ap (λ (e : Expr). value_of e (environment c.args.words.now)) c.in-NodeProp.is ∙ value-NodeProp c.in-NodeProp.column (environment c.args.words.now))

pub operand-returns-in-Number : goal.operand-returns-in-Number
operand-returns-in-Number t c = search (rules, value-Number)

pub operand-returns-in-Start : goal.operand-returns-in-Start
operand-returns-in-Start t c = search (rules, value-Start)

pub operand-returns-in-Value : goal.operand-returns-in-Value
operand-returns-in-Value t c = search (rules, value-Value)

pub operand-returns-in-Gathered : goal.operand-returns-in-Gathered
operand-returns-in-Gathered t c = search (rules, value-Gathered)

pub operand-returns-in-Outdeg : goal.operand-returns-in-Outdeg
operand-returns-in-Outdeg t c = search (rules, value-Outdeg)

pub check_holds-returns-in-Compare : goal.check_holds-returns-in-Compare
check_holds-returns-in-Compare t c = search (rules, holds-Compare)

pub check_holds-returns-in-IsNil : goal.check_holds-returns-in-IsNil
check_holds-returns-in-IsNil t c = search (rules, holds-IsNil)

pub first_value-loop-member-preserved : goal.first_value-loop-member-preserved
first_value-loop-member-preserved t c =
    let f = λ (e : Expr). value_of e (environment c.args.words.now) in
    let members = c.args.members.now in
    let i = c.loop-member.member-index in
    elim c.if-is_none.branch [
      | first_value-then-is_none w ↦ w.first-is ∙ w.evaluate-first.ensures ∙ ap f c.member-item.is ∙ given_here f members i c.member-item.result c.loop-member.first c.loop-member-test.true c.loop-member.invariant (sym c.is_none.ensures ∙ w.if-is_none.true)
      | first_value-else-is_none w ↦ w.first-is ∙ given_before f members i c.member-item.result c.loop-member.first c.loop-member-test.true c.loop-member.invariant (sym c.is_none.ensures ∙ w.if-is_none.false)
    ]
