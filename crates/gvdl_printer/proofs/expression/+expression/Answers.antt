use Rattle.std.proofs.Common.{◌≡◌, ◌∙◌, ◌++◌, ◌∷◌, ◌-◌, [], Bool, ℕ, List, length, take, drop, sym, ap, append_assoc}
use Rattle.std.specs.Prelude.{nat_lt}
use Rattle.std.specs.List.{flat_map}
use Rattle.gvdl_tokens.specs.declared.token.Token.TheVariants as token
use Rattle.gvdl_tokens.specs.declared.token.Sign.TheVariants as s
use Rattle.gvdl_tokens.specs.declared.word.Word.TheVariants as w
use Rattle.gvdl_tree.specs.declared.expression.ExprTree.{ExprTree}
use Rattle.gvdl_tree.specs.declared.expression.Test.{Test}
use Rattle.gvdl_parser.specs.Terminals.{cmp_token, value_token, term_token, factor_token}
use Rattle.gvdl_printer.specs.Layout.{Piece, plain, word, sign, call_open, negative_sign}
use Rattle.gvdl_printer.specs.Canonical.{enclosed, joined, prop_piece, expression_pieces, test_pieces}
use Rattle.gvdl_printer.specs.Levels.{expression_level}
use Rattle.gvdl_printer.proofs.Equations.{expression-If, expression-Else, expression-Sum, expression-Product, expression-Minus, expression-Number, expression-Nil, expression-Word, expression-EdgeProp, expression-NodeProp, expression-Param, expression-Least, expression-Most, test-Compare, test-IsNil}
use Rattle.gvdl_printer.proofs.Growing.{then_more, as_written, ended, in_parentheses, before, behind, part_more, loop_done, chain_done}
use Rattle.gvdl_printer.proofs.expression.+expression.Goals as goal

seven : (x i t h a e b : List Piece) → (((((x ++ i) ++ t) ++ h) ++ a) ++ e) ++ b ≡ x ++ (i ++ (t ++ (h ++ (a ++ (e ++ b)))))
seven x i t h a e b = simp append_assoc

five : (o a k b y : List Piece) → (((o ++ a) ++ k) ++ b) ++ y ≡ o ++ (a ++ (k ++ (b ++ y)))
five o a k b y = simp append_assoc

pub expression-returns-in_ok-expression-in-If-2 : goal.expression-returns-in_ok-expression-in-If-2
expression-returns-in_ok-expression-in-If-2 t c =
    let needed : Bool = nat_lt 0 c.level-level.result in
    let inner = λ (tests : List Test) (a b : ExprTree). word w.If ∷ (joined (word w.And) test_pieces tests ++ word w.Then ∷ (expression_pieces a 1 ++ word w.Else ∷ expression_pieces b 0)) in
    let tests : List Test = c.as_slice.result.now in
    let a : ExprTree = c.get.result.now in
    let b : ExprTree = c.get-in-If.result.now in
    ended c.close.result c.args.page.now c.expression-in-If.new.page c.close.new.self ((((((before needed ++ word w.If ∷ []) ++ joined (word w.And) test_pieces tests) ++ word w.Then ∷ []) ++ expression_pieces a 1) ++ word w.Else ∷ []) ++ expression_pieces b 0) (behind needed) (expression_pieces c.args.tree.now (expression_level c.args.place))
    (then_more _ _ _ _ _ (then_more _ _ _ _ _ (then_more _ _ _ _ _ (then_more _ _ _ _ _ (then_more _ _ _ _ _ (then_more _ _ _ _ _ c.in_ok-open-in-If.ensures c.in_ok-word-in-If.ensures) c.in_ok-condition-in-If.ensures) c.in_ok-word-in-If-2.ensures) c.in_ok-expression-in-If.ensures) c.in_ok-word-in-If-3.ensures) c.in_ok-expression-in-If-2.ensures)
    c.close.ensures
    (ap (λ (xs : List Piece). xs ++ behind needed) (seven (before needed) (word w.If ∷ []) (joined (word w.And) test_pieces tests) (word w.Then ∷ []) (expression_pieces a 1) (word w.Else ∷ []) (expression_pieces b 0))
    ∙ in_parentheses needed (inner tests a b)
    ∙ ap (λ (ts : List Test). enclosed needed (inner ts a b)) c.as_slice.ensures
    ∙ ap (λ (x : ExprTree). enclosed needed (inner c.in-If.tests x b)) c.get.ensures
    ∙ ap (λ (x : ExprTree). enclosed needed (inner c.in-If.tests c.in-If.first x)) c.get-in-If.ensures
    ∙ sym (ap (λ (a : ExprTree). expression_pieces a c.level-level.result) c.in-If.is ∙ expression-If c.in-If.tests c.in-If.first c.in-If.second c.level-level.result) ∙ ap (λ (n : ℕ). expression_pieces c.args.tree.now n) c.level-level.ensures)

pub expression-returns-in_ok-else_chain-in-Else : goal.expression-returns-in_ok-else_chain-in-Else
expression-returns-in_ok-else_chain-in-Else t c =
    let needed : Bool = nat_lt 0 c.level-level.result in
    let body = λ (members : List ExprTree). joined (word w.Else) (λ a. expression_pieces a 1) members in
    let members : List ExprTree = c.as_slice-in-Else.result.now in
    ended c.close-in-Else.result c.args.page.now c.else_chain.new.page c.close-in-Else.new.self (before needed ++ body members) (behind needed) (expression_pieces c.args.tree.now (expression_level c.args.place))
    (then_more _ _ _ _ _ c.in_ok-open-in-Else.ensures c.in_ok-else_chain-in-Else.ensures) c.close-in-Else.ensures
    (in_parentheses needed (body members) ∙ ap (λ (xs : List ExprTree). enclosed needed (body xs)) c.as_slice-in-Else.ensures ∙ sym (ap (λ (a : ExprTree). expression_pieces a c.level-level.result) c.in-Else.is ∙ expression-Else c.in-Else.members c.level-level.result) ∙ ap (λ (n : ℕ). expression_pieces c.args.tree.now n) c.level-level.ensures)

pub expression-returns-in_ok-terms-in-Sum : goal.expression-returns-in_ok-terms-in-Sum
expression-returns-in_ok-terms-in-Sum t c =
    let needed : Bool = nat_lt 1 c.level-level.result in
    let tail = λ (others : List (Bool × ExprTree)). flat_map (λ (other : Bool × ExprTree). plain (term_token other.0) ∷ expression_pieces other.1 2) others in
    let first : ExprTree = c.get-in-Sum.result.now in
    let others : List (Bool × ExprTree) = c.as_slice-in-Sum.result.now in
    ended c.close-in-Sum.result c.args.page.now c.terms.new.page c.close-in-Sum.new.self ((before needed ++ expression_pieces first 2) ++ tail others) (behind needed) (expression_pieces c.args.tree.now (expression_level c.args.place))
    (then_more _ _ _ _ _ (then_more _ _ _ _ _ c.in_ok-open-in-Sum.ensures c.in_ok-expression-in-Sum.ensures) c.in_ok-terms-in-Sum.ensures) c.close-in-Sum.ensures
    (ap (λ (xs : List Piece). xs ++ behind needed) (append_assoc (before needed) (expression_pieces first 2) (tail others))
    ∙ in_parentheses needed (expression_pieces first 2 ++ tail others)
    ∙ ap (λ (x : ExprTree). enclosed needed (expression_pieces x 2 ++ tail others)) c.get-in-Sum.ensures
    ∙ ap (λ (xs : List (Bool × ExprTree)). enclosed needed (expression_pieces c.in-Sum.first 2 ++ tail xs)) c.as_slice-in-Sum.ensures
    ∙ sym (ap (λ (a : ExprTree). expression_pieces a c.level-level.result) c.in-Sum.is ∙ expression-Sum c.in-Sum.first c.in-Sum.others c.level-level.result) ∙ ap (λ (n : ℕ). expression_pieces c.args.tree.now n) c.level-level.ensures)

pub expression-returns-in_ok-factors-in-Product : goal.expression-returns-in_ok-factors-in-Product
expression-returns-in_ok-factors-in-Product t c =
    let needed : Bool = nat_lt 2 c.level-level.result in
    let tail = λ (others : List (Bool × ExprTree)). flat_map (λ (other : Bool × ExprTree). plain (factor_token other.0) ∷ expression_pieces other.1 3) others in
    let first : ExprTree = c.get-in-Product.result.now in
    let others : List (Bool × ExprTree) = c.as_slice-in-Product.result.now in
    ended c.close-in-Product.result c.args.page.now c.factors.new.page c.close-in-Product.new.self ((before needed ++ expression_pieces first 3) ++ tail others) (behind needed) (expression_pieces c.args.tree.now (expression_level c.args.place))
    (then_more _ _ _ _ _ (then_more _ _ _ _ _ c.in_ok-open-in-Product.ensures c.in_ok-expression-in-Product.ensures) c.in_ok-factors-in-Product.ensures) c.close-in-Product.ensures
    (ap (λ (xs : List Piece). xs ++ behind needed) (append_assoc (before needed) (expression_pieces first 3) (tail others))
    ∙ in_parentheses needed (expression_pieces first 3 ++ tail others)
    ∙ ap (λ (x : ExprTree). enclosed needed (expression_pieces x 3 ++ tail others)) c.get-in-Product.ensures
    ∙ ap (λ (xs : List (Bool × ExprTree)). enclosed needed (expression_pieces c.in-Product.first 3 ++ tail xs)) c.as_slice-in-Product.ensures
    ∙ sym (ap (λ (a : ExprTree). expression_pieces a c.level-level.result) c.in-Product.is ∙ expression-Product c.in-Product.first c.in-Product.others c.level-level.result) ∙ ap (λ (n : ℕ). expression_pieces c.args.tree.now n) c.level-level.ensures)

pub expression-returns-in_ok-negative_sign-in-Minus : goal.expression-returns-in_ok-negative_sign-in-Minus
expression-returns-in_ok-negative_sign-in-Minus t c =
    ended c.expression-in-Minus.result c.args.page.now c.negative_sign.new.self c.expression-in-Minus.new.page (negative_sign ∷ []) (expression_pieces c.get-in-Minus.result.now 3) (expression_pieces c.args.tree.now (expression_level c.args.place))
    c.in_ok-negative_sign-in-Minus.ensures c.expression-in-Minus.ensures
    (ap (λ (x : ExprTree). negative_sign ∷ expression_pieces x 3) c.get-in-Minus.ensures ∙ sym (ap (λ (a : ExprTree). expression_pieces a c.level-level.result) c.in-Minus.is ∙ expression-Minus c.in-Minus.inner c.level-level.result) ∙ ap (λ (n : ℕ). expression_pieces c.args.tree.now n) c.level-level.ensures)

pub expression-returns-in-Number : goal.expression-returns-in-Number
expression-returns-in-Number t c =
    as_written c.number.result c.args.page.now c.number.new.self (plain (token.Number c.in-Number.number) ∷ []) (expression_pieces c.args.tree.now (expression_level c.args.place)) c.number.ensures
    (sym (ap (λ (a : ExprTree). expression_pieces a c.level-level.result) c.in-Number.is ∙ expression-Number c.in-Number.number c.level-level.result) ∙ ap (λ (n : ℕ). expression_pieces c.args.tree.now n) c.level-level.ensures)

pub expression-returns-in-Nil : goal.expression-returns-in-Nil
expression-returns-in-Nil t c =
    as_written c.word-in-Nil.result c.args.page.now c.word-in-Nil.new.self (word w.None ∷ []) (expression_pieces c.args.tree.now (expression_level c.args.place)) c.word-in-Nil.ensures
    (sym (ap (λ (a : ExprTree). expression_pieces a c.level-level.result) c.in-Nil.is ∙ expression-Nil c.level-level.result) ∙ ap (λ (n : ℕ). expression_pieces c.args.tree.now n) c.level-level.ensures)

pub expression-returns-in-Word : goal.expression-returns-in-Word
expression-returns-in-Word t c =
    as_written c.value_word.result c.args.page.now c.value_word.new.page (plain (value_token c.in-Word.value) ∷ []) (expression_pieces c.args.tree.now (expression_level c.args.place)) c.value_word.ensures
    (sym (ap (λ (a : ExprTree). expression_pieces a c.level-level.result) c.in-Word.is ∙ expression-Word c.in-Word.value c.level-level.result) ∙ ap (λ (n : ℕ). expression_pieces c.args.tree.now n) c.level-level.ensures)

pub expression-returns-in-EdgeProp : goal.expression-returns-in-EdgeProp
expression-returns-in-EdgeProp t c =
    as_written c.property_of.result c.args.page.now c.property_of.new.page (word w.Edge ∷ sign s.Dot ∷ prop_piece c.in-EdgeProp.property ∷ []) (expression_pieces c.args.tree.now (expression_level c.args.place)) c.property_of.ensures
    (sym (ap (λ (a : ExprTree). expression_pieces a c.level-level.result) c.in-EdgeProp.is ∙ expression-EdgeProp c.in-EdgeProp.property c.level-level.result) ∙ ap (λ (n : ℕ). expression_pieces c.args.tree.now n) c.level-level.ensures)

pub expression-returns-in-NodeProp : goal.expression-returns-in-NodeProp
expression-returns-in-NodeProp t c =
    as_written c.property_of-in-NodeProp.result c.args.page.now c.property_of-in-NodeProp.new.page (word w.Node ∷ sign s.Dot ∷ prop_piece c.in-NodeProp.property ∷ []) (expression_pieces c.args.tree.now (expression_level c.args.place)) c.property_of-in-NodeProp.ensures
    (sym (ap (λ (a : ExprTree). expression_pieces a c.level-level.result) c.in-NodeProp.is ∙ expression-NodeProp c.in-NodeProp.property c.level-level.result) ∙ ap (λ (n : ℕ). expression_pieces c.args.tree.now n) c.level-level.ensures)

pub expression-returns-in-Param : goal.expression-returns-in-Param
expression-returns-in-Param t c =
    as_written c.name.result c.args.page.now c.name.new.self (plain (token.Name c.in-Param.name) ∷ []) (expression_pieces c.args.tree.now (expression_level c.args.place)) c.name.ensures
    (sym (ap (λ (a : ExprTree). expression_pieces a c.level-level.result) c.in-Param.is ∙ expression-Param c.in-Param.name c.level-level.result) ∙ ap (λ (n : ℕ). expression_pieces c.args.tree.now n) c.level-level.ensures)

pub expression-returns-in_ok-expression-in-Least-2 : goal.expression-returns-in_ok-expression-in-Least-2
expression-returns-in_ok-expression-in-Least-2 t c =
    let opened : List Piece = word w.Min ∷ call_open ∷ [] in
    let a : ExprTree = c.get-in-Least.result.now in
    let b : ExprTree = c.get-in-Least-2.result.now in
    let whole = λ (x y : ExprTree). word w.Min ∷ call_open ∷ (expression_pieces x 0 ++ sign s.Comma ∷ (expression_pieces y 0 ++ sign s.Close ∷ [])) in
    ended c.sign-in-Least.result c.args.page.now c.expression-in-Least-2.new.page c.sign-in-Least.new.self (((opened ++ expression_pieces a 0) ++ sign s.Comma ∷ []) ++ expression_pieces b 0) (sign s.Close ∷ []) (expression_pieces c.args.tree.now (expression_level c.args.place))
    (then_more _ _ _ _ _ (then_more _ _ _ _ _ (then_more _ _ _ _ _ c.in_ok-extreme_open-in-Least.ensures c.in_ok-expression-in-Least.ensures) c.in_ok-sign-in-Least.ensures) c.in_ok-expression-in-Least-2.ensures) c.sign-in-Least.ensures
    (five opened (expression_pieces a 0) (sign s.Comma ∷ []) (expression_pieces b 0) (sign s.Close ∷ [])
    ∙ ap (λ (x : ExprTree). whole x b) c.get-in-Least.ensures
    ∙ ap (λ (x : ExprTree). whole c.in-Least.first x) c.get-in-Least-2.ensures
    ∙ sym (ap (λ (a : ExprTree). expression_pieces a c.level-level.result) c.in-Least.is ∙ expression-Least c.in-Least.first c.in-Least.second c.level-level.result) ∙ ap (λ (n : ℕ). expression_pieces c.args.tree.now n) c.level-level.ensures)

pub expression-returns-in_ok-expression-in-Most-2 : goal.expression-returns-in_ok-expression-in-Most-2
expression-returns-in_ok-expression-in-Most-2 t c =
    let opened : List Piece = word w.Max ∷ call_open ∷ [] in
    let a : ExprTree = c.get-in-Most.result.now in
    let b : ExprTree = c.get-in-Most-2.result.now in
    let whole = λ (x y : ExprTree). word w.Max ∷ call_open ∷ (expression_pieces x 0 ++ sign s.Comma ∷ (expression_pieces y 0 ++ sign s.Close ∷ [])) in
    ended c.sign-in-Most-2.result c.args.page.now c.expression-in-Most-2.new.page c.sign-in-Most-2.new.self (((opened ++ expression_pieces a 0) ++ sign s.Comma ∷ []) ++ expression_pieces b 0) (sign s.Close ∷ []) (expression_pieces c.args.tree.now (expression_level c.args.place))
    (then_more _ _ _ _ _ (then_more _ _ _ _ _ (then_more _ _ _ _ _ c.in_ok-extreme_open-in-Most.ensures c.in_ok-expression-in-Most.ensures) c.in_ok-sign-in-Most.ensures) c.in_ok-expression-in-Most-2.ensures) c.sign-in-Most-2.ensures
    (five opened (expression_pieces a 0) (sign s.Comma ∷ []) (expression_pieces b 0) (sign s.Close ∷ [])
    ∙ ap (λ (x : ExprTree). whole x b) c.get-in-Most.ensures
    ∙ ap (λ (x : ExprTree). whole c.in-Most.first x) c.get-in-Most-2.ensures
    ∙ sym (ap (λ (a : ExprTree). expression_pieces a c.level-level.result) c.in-Most.is ∙ expression-Most c.in-Most.first c.in-Most.second c.level-level.result) ∙ ap (λ (n : ℕ). expression_pieces c.args.tree.now n) c.level-level.ensures)

pub condition-loop-other-preserved : goal.condition-loop-other-preserved
condition-loop-other-preserved t c =
    part_more (λ (x : Test). word w.And ∷ test_pieces x) (take (length c.args.tests.now - 1) (drop 1 c.args.tests.now)) c.loop-other.other-index c.other-item.result c.loop-other.page c.test-in-loop-other.new.page _ c.loop-other-test.true c.other-item.is
    (then_more _ _ _ _ _ c.in_ok-word-in-len1-up.ensures c.in_ok-test-in-len1-up-2.ensures) c.loop-other.invariant

pub condition-returns-after-loop-other : goal.condition-returns-after-loop-other
condition-returns-after-loop-other t c =
    chain_done (word w.And) (λ (x : Test). test_pieces x) c.args.tests.now c.first-item.result c.loop-other.other-index c.args.page.now c.test.new.page c.loop-other.page c.in-len1-up.len_at_least c.first-item.is c.in_ok-test-in-len1-up.ensures c.loop-other-test.false c.loop-other.invariant

pub else_chain-loop-other-preserved : goal.else_chain-loop-other-preserved
else_chain-loop-other-preserved t c =
    part_more (λ (x : ExprTree). word w.Else ∷ expression_pieces x 1) (take (length c.args.members.now - 1) (drop 1 c.args.members.now)) c.loop-other.other-index c.other-item.result c.loop-other.page c.expression-in-loop-other.new.page _ c.loop-other-test.true c.other-item.is
    (then_more _ _ _ _ _ c.in_ok-word-in-len1-up.ensures c.in_ok-expression-in-len1-up-2.ensures) c.loop-other.invariant

pub else_chain-returns-after-loop-other : goal.else_chain-returns-after-loop-other
else_chain-returns-after-loop-other t c =
    chain_done (word w.Else) (λ (x : ExprTree). expression_pieces x 1) c.args.members.now c.first-item.result c.loop-other.other-index c.args.page.now c.expression.new.page c.loop-other.page c.in-len1-up.len_at_least c.first-item.is c.in_ok-expression-in-len1-up.ensures c.loop-other-test.false c.loop-other.invariant

pub terms-loop-plus-preserved : goal.terms-loop-plus-preserved
terms-loop-plus-preserved t c =
    part_more (λ (other : Bool × ExprTree). plain (term_token other.0) ∷ expression_pieces other.1 2) c.args.others.now c.loop-plus.plus-index c.loop-plus-item.result c.loop-plus.page c.expression.new.page _ c.loop-plus-test.true c.loop-plus-item.is
    (then_more _ _ _ _ _ c.in_ok-term_sign.ensures c.in_ok-expression.ensures) c.loop-plus.invariant

pub terms-returns : goal.terms-returns
terms-returns t c =
    loop_done (λ (other : Bool × ExprTree). plain (term_token other.0) ∷ expression_pieces other.1 2) c.args.others.now c.loop-plus.plus-index c.loop-plus.page _ c.loop-plus-test.false c.loop-plus.invariant

pub factors-loop-times-preserved : goal.factors-loop-times-preserved
factors-loop-times-preserved t c =
    part_more (λ (other : Bool × ExprTree). plain (factor_token other.0) ∷ expression_pieces other.1 3) c.args.others.now c.loop-times.times-index c.loop-times-item.result c.loop-times.page c.expression.new.page _ c.loop-times-test.true c.loop-times-item.is
    (then_more _ _ _ _ _ c.in_ok-factor_sign.ensures c.in_ok-expression.ensures) c.loop-times.invariant

pub factors-returns : goal.factors-returns
factors-returns t c =
    loop_done (λ (other : Bool × ExprTree). plain (factor_token other.0) ∷ expression_pieces other.1 3) c.args.others.now c.loop-times.times-index c.loop-times.page _ c.loop-times-test.false c.loop-times.invariant

pub test-returns-in_ok-comparison-in-Compare : goal.test-returns-in_ok-comparison-in-Compare
test-returns-in_ok-comparison-in-Compare t c =
    let a : List Piece = expression_pieces c.in-Compare.first 1 in
    let b : List Piece = expression_pieces c.in-Compare.second 1 in
    let mark : List Piece = plain (cmp_token c.in-Compare.cmp) ∷ [] in
    ended c.expression-in-Compare.result c.args.page.now c.comparison.new.page c.expression-in-Compare.new.page (a ++ mark) b (test_pieces c.args.tested.now)
    (then_more _ _ _ _ _ c.in_ok-expression-in-Compare.ensures c.in_ok-comparison-in-Compare.ensures) c.expression-in-Compare.ensures
    (append_assoc a mark b ∙ sym (ap test_pieces c.in-Compare.is ∙ test-Compare c.in-Compare.first c.in-Compare.cmp c.in-Compare.second))

pub test-returns-in_ok-word-in-IsNil : goal.test-returns-in_ok-word-in-IsNil
test-returns-in_ok-word-in-IsNil t c =
    let a : List Piece = expression_pieces c.in-IsNil.first 1 in
    ended c.word-in-IsNil.result c.args.page.now c.word.new.self c.word-in-IsNil.new.self (a ++ word w.Is ∷ []) (word w.None ∷ []) (test_pieces c.args.tested.now)
    (then_more _ _ _ _ _ c.in_ok-expression-in-IsNil.ensures c.in_ok-word-in-IsNil.ensures) c.word-in-IsNil.ensures
    (append_assoc a (word w.Is ∷ []) (word w.None ∷ []) ∙ sym (ap test_pieces c.in-IsNil.is ∙ test-IsNil c.in-IsNil.first))
