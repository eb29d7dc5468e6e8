use Rattle.std.proofs.Common.{◌≡◌, ◌∙◌, sym, ap, not, Bool, List}
use Rattle.std.specs.Prelude.{◌||◌}
use Rattle.std.specs.List.{list_any}
use Rattle.vertex_lang.specs.declared.program.Expr.{Expr}
use Rattle.vertex_lang.specs.declared.program.Check.{Check}
use Rattle.vertex_lang.specs.Named.{names, check_names}
use Rattle.vertex_lang.proofs.NameCases.{names-If, names-Else, names-Sum, names-Product, names-Minus, names-Number, names-Nil, names-Id, names-Start, names-Value, names-Gathered, names-Count, names-Outdeg, names-EdgeProp, names-NodeProp, names-Least, names-Most, names-Compare, names-IsNil}
use Rattle.vertex_lang.proofs.names.+reading.Goals as goal

-- one of two, each as it is known to be
either-is : (r a b x y : Bool) → r ≡ (a || b) → a ≡ x → b ≡ y → r ≡ (x || y)
either-is r a b x y e f g = e ∙ ap (λ t. t || b) f ∙ ap (λ t. x || t) g

pub check_holds-returns-in-Compare : goal.check_holds-returns-in-Compare
check_holds-returns-in-Compare t c =
    either-is _ _ _ _ _ c.either.ensures c.holds_word-left.ensures c.holds_word-right.ensures
    ∙ sym (ap (check_names c.args.word) c.in-Compare.is ∙ names-Compare c.args.word c.in-Compare.left c.in-Compare.field-1 c.in-Compare.right)

pub check_holds-returns-in-IsNil : goal.check_holds-returns-in-IsNil
check_holds-returns-in-IsNil t c = c.holds_word.ensures ∙ sym (ap (check_names c.args.word) c.in-IsNil.is ∙ names-IsNil c.args.word c.in-IsNil.tested)

pub holds_word-returns-in-If : goal.holds_word-returns-in-If
holds_word-returns-in-If t c =
    let w = c.args.word in
    let tests = c.a_check_holds-tested.ensures ∙ ap (λ (ts : List Check). list_any (λ t. check_names w t) ts) c.as_slice.ensures in
    let first = c.holds_word-first.ensures ∙ ap (names w) c.get.ensures in
    let second = c.holds_word-second.ensures ∙ ap (names w) c.get-in-If.ensures in
    either-is _ _ _ _ _ c.either.ensures tests (either-is _ _ _ _ _ c.either-chosen.ensures first second)
    ∙ sym (ap (names w) c.in-If.is ∙ names-If w c.in-If.checks c.in-If.yes c.in-If.no)

pub holds_word-returns-in-Else : goal.holds_word-returns-in-Else
holds_word-returns-in-Else t c =
    let w = c.args.word in
    c.a_member_holds.ensures ∙ ap (λ (es : List Expr). list_any (λ e. names w e) es) c.as_slice-in-Else.ensures ∙ sym (ap (names w) c.in-Else.is ∙ names-Else w c.in-Else.members)

pub holds_word-returns-in-Sum : goal.holds_word-returns-in-Sum
holds_word-returns-in-Sum t c =
    let w = c.args.word in
    let begins = c.holds_word-begins.ensures ∙ ap (names w) c.get-in-Sum.ensures in
    let follows = c.a_part_holds-follows.ensures ∙ ap (λ (ps : List (Bool × Expr)). list_any (λ p. names w p.1) ps) c.as_slice-in-Sum.ensures in
    either-is _ _ _ _ _ c.either-in-Sum.ensures begins follows ∙ sym (ap (names w) c.in-Sum.is ∙ names-Sum w c.in-Sum.first c.in-Sum.rest)

pub holds_word-returns-in-Product : goal.holds_word-returns-in-Product
holds_word-returns-in-Product t c =
    let w = c.args.word in
    let begins = c.holds_word-begins-in-Product.ensures ∙ ap (names w) c.get-in-Product.ensures in
    let follows = c.a_part_holds-follows-in-Product.ensures ∙ ap (λ (ps : List (Bool × Expr)). list_any (λ p. names w p.1) ps) c.as_slice-in-Product.ensures in
    either-is _ _ _ _ _ c.either-in-Product.ensures begins follows ∙ sym (ap (names w) c.in-Product.is ∙ names-Product w c.in-Product.first c.in-Product.rest)

pub holds_word-returns-in-Minus : goal.holds_word-returns-in-Minus
holds_word-returns-in-Minus t c =
    let w = c.args.word in
    c.holds_word.ensures ∙ ap (names w) c.get-in-Minus.ensures ∙ sym (ap (names w) c.in-Minus.is ∙ names-Minus w c.in-Minus.positive)

pub holds_word-returns-in-Outdeg : goal.holds_word-returns-in-Outdeg
holds_word-returns-in-Outdeg t c = c.is_outdeg.ensures ∙ sym (ap (names c.args.word) c.in-Outdeg.is ∙ names-Outdeg c.args.word)

pub holds_word-returns-in-EdgeProp : goal.holds_word-returns-in-EdgeProp
holds_word-returns-in-EdgeProp t c = ap not c.is_outdeg-in-EdgeProp.ensures ∙ sym (ap (names c.args.word) c.in-EdgeProp.is ∙ names-EdgeProp c.args.word c.in-EdgeProp.field-0)

pub holds_word-returns-in-Number : goal.holds_word-returns-in-Number
holds_word-returns-in-Number t c = sym (ap (names c.args.word) c.in-Number.is ∙ names-Number c.args.word c.in-Number.field-0)

pub holds_word-returns-in-Nil : goal.holds_word-returns-in-Nil
holds_word-returns-in-Nil t c = sym (ap (names c.args.word) c.in-Nil.is ∙ names-Nil c.args.word)

pub holds_word-returns-in-Id : goal.holds_word-returns-in-Id
holds_word-returns-in-Id t c = sym (ap (names c.args.word) c.in-Id.is ∙ names-Id c.args.word)

pub holds_word-returns-in-Start : goal.holds_word-returns-in-Start
holds_word-returns-in-Start t c = sym (ap (names c.args.word) c.in-Start.is ∙ names-Start c.args.word)

pub holds_word-returns-in-Value : goal.holds_word-returns-in-Value
holds_word-returns-in-Value t c = sym (ap (names c.args.word) c.in-Value.is ∙ names-Value c.args.word)

pub holds_word-returns-in-Gathered : goal.holds_word-returns-in-Gathered
holds_word-returns-in-Gathered t c = sym (ap (names c.args.word) c.in-Gathered.is ∙ names-Gathered c.args.word)

pub holds_word-returns-in-Count : goal.holds_word-returns-in-Count
holds_word-returns-in-Count t c = sym (ap (names c.args.word) c.in-Count.is ∙ names-Count c.args.word)

pub holds_word-returns-in-NodeProp : goal.holds_word-returns-in-NodeProp
holds_word-returns-in-NodeProp t c = sym (ap (names c.args.word) c.in-NodeProp.is ∙ names-NodeProp c.args.word c.in-NodeProp.field-0)

pub holds_word-returns-in-Least : goal.holds_word-returns-in-Least
holds_word-returns-in-Least t c =
    let w = c.args.word in
    let left = c.holds_word-left.ensures ∙ ap (names w) c.get-in-Least.ensures in
    let right = c.holds_word-right.ensures ∙ ap (names w) c.get-in-Least-2.ensures in
    either-is _ _ _ _ _ c.either-in-Least.ensures left right ∙ sym (ap (names w) c.in-Least.is ∙ names-Least w c.in-Least.left c.in-Least.right)

pub holds_word-returns-in-Most : goal.holds_word-returns-in-Most
holds_word-returns-in-Most t c =
    let w = c.args.word in
    let left = c.holds_word-left-in-Most.ensures ∙ ap (names w) c.get-in-Most.ensures in
    let right = c.holds_word-right-in-Most.ensures ∙ ap (names w) c.get-in-Most-2.ensures in
    either-is _ _ _ _ _ c.either-in-Most.ensures left right ∙ sym (ap (names w) c.in-Most.is ∙ names-Most w c.in-Most.left c.in-Most.right)
