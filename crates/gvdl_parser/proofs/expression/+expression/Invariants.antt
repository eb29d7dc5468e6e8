use Rattle.std.proofs.Common.{◌+◌, ◌*◌, length}
use Rattle.gvdl_tokens.specs.declared.token.Token.TheVariants as t
use Rattle.gvdl_tokens.specs.declared.word.Word.TheVariants as w
use Rattle.phrase_theory.specs.ChainLaws.{Front, later}
use Rattle.gvdl_parser.specs.Terminals.{opens}
use Rattle.gvdl_parser.specs.Expressions.{unary, factor, term, product, sum, sums, test_of, condition_of, product_tree, sum_tree, else_tree, after_product, after_sum, after_condition, after_expression}
use Rattle.gvdl_parser.proofs.expression.+expression.Given as goal

abbrev pub decreases-unary : goal.decreases-unary
decreases-unary l = 8 * l.levels + 0

abbrev pub decreases-negative : goal.decreases-negative
decreases-negative l = 8 * l.levels + 1

abbrev pub decreases-product : goal.decreases-product
decreases-product l = 8 * l.levels + 1

abbrev pub decreases-sum : goal.decreases-sum
decreases-sum l = 8 * l.levels + 2

abbrev pub decreases-test : goal.decreases-test
decreases-test l = 8 * l.levels + 3

abbrev pub decreases-condition : goal.decreases-condition
decreases-condition l = 8 * l.levels + 4

abbrev pub decreases-sums : goal.decreases-sums
decreases-sums l = 8 * l.levels + 3

abbrev pub decreases-expression : goal.decreases-expression
decreases-expression l = 8 * l.levels + 5

abbrev pub decreases-conditional : goal.decreases-conditional
decreases-conditional l = 8 * l.levels + 6

abbrev pub decreases-enclosed : goal.decreases-enclosed
decreases-enclosed l = 8 * l.levels + 6

abbrev pub decreases-extreme : goal.decreases-extreme
decreases-extreme l = 8 * l.levels + 6

abbrev pub invariant-product-more : goal.invariant-product-more
invariant-product-more l = Front opens (λ n. factor (unary n)) product after_product (product_tree l.first) l.levels l.fn.cursor.rest.now l.cursor.rest.now l.others

abbrev pub decreases-product-more : goal.decreases-product-more
decreases-product-more l = length l.cursor.rest.now

abbrev pub invariant-sum-more : goal.invariant-sum-more
invariant-sum-more l = Front opens (λ n. term (unary n)) sum after_sum (sum_tree l.first) l.levels l.fn.cursor.rest.now l.cursor.rest.now l.others

abbrev pub decreases-sum-more : goal.decreases-sum-more
decreases-sum-more l = length l.cursor.rest.now

abbrev pub invariant-sums-more : goal.invariant-sums-more
invariant-sums-more l = Front opens (later (t.Word w.Else) sum) sums after_expression else_tree l.levels l.fn.cursor.rest.now l.cursor.rest.now l.members

abbrev pub decreases-sums-more : goal.decreases-sums-more
decreases-sums-more l = length l.cursor.rest.now

abbrev pub invariant-condition-more : goal.invariant-condition-more
invariant-condition-more l = Front opens (later (t.Word w.And) (λ n. test_of (unary n))) (λ n. condition_of (unary n)) after_condition (λ members. members) l.levels l.fn.cursor.rest.now l.cursor.rest.now l.tests

abbrev pub decreases-condition-more : goal.decreases-condition-more
decreases-condition-more l = length l.cursor.rest.now
