-- Expressions with more levels: each phrase of so many levels is one of more.
use Rattle.std.proofs.Common.{ℕ, zero, suc, List, inr}
use Rattle.gvdl_tokens.specs.declared.token.Token.{Token}
use Rattle.gvdl_tokens.specs.declared.token.Token.TheVariants as t
use Rattle.gvdl_tokens.specs.declared.word.Word.TheVariants as w
use Rattle.gvdl_tree.specs.declared.expression.ExprTree.{ExprTree}
use Rattle.phrase_theory.specs.LevelLaws.{Within, within_then, within_either, within_many, within_chained, within_same}
use Rattle.gvdl_parser.specs.Expressions.{leaf, else_tree, factor, product_of, term, sum_of, sums_of, compared_sum, test_of, condition_of, negative, enclosed, extreme, unary_with, conditional, unary, expression}

-- kinds of phrases
abbrev Kinds : Type 1
Kinds = List Token → ExprTree → Type 0

ruleset within = (within_then, within_either, within_many, within_chained, within_same)

-- ---- more levels, more phrases

factor_within : (L M : Kinds) → Within L M → Within (factor L) (factor M)
unfolding factor
factor_within L M g = search within depth 12

pub product_within : (L M : Kinds) → Within L M → Within (product_of L) (product_of M)
unfolding product_of
product_within L M g = search (within, factor_within) depth 12

term_within : (L M : Kinds) → Within L M → Within (term L) (term M)
unfolding term
term_within L M g = search (within, product_within) depth 12

pub sum_within : (L M : Kinds) → Within L M → Within (sum_of L) (sum_of M)
unfolding sum_of
sum_within L M g = search (within, term_within, product_within) depth 12

sums_within : (L M : Kinds) → Within L M → Within (sums_of L) (sums_of M)
unfolding sums_of
sums_within L M g = within_chained (t.Word w.Else) else_tree (sum_of L) (sum_of M) (sum_within L M g)

compared_within : (a : ExprTree) (L M : Kinds) → Within L M → Within (compared_sum a L) (compared_sum a M)
unfolding compared_sum
compared_within a L M g = search (within, sum_within) depth 12

test_within : (L M : Kinds) → Within L M → Within (test_of L) (test_of M)
unfolding test_of
test_within L M g = search (within, sum_within, compared_within) depth 12

condition_within : (L M : Kinds) → Within L M → Within (condition_of L) (condition_of M)
unfolding condition_of
condition_within L M g = within_chained (t.Word w.And) (λ members. members) (test_of L) (test_of M) (test_within L M g)

negative_within : (L M : Kinds) → Within L M → Within (negative L) (negative M)
unfolding negative
negative_within L M g = search within depth 12

enclosed_within : (L M : Kinds) → Within L M → Within (enclosed L) (enclosed M)
unfolding enclosed
enclosed_within L M g = search within depth 12

extreme_within : (L M : Kinds) → Within L M → Within (extreme L) (extreme M)
unfolding extreme
extreme_within L M g = search within depth 12

unary_within : (L M E F : Kinds) → Within L M → Within E F → Within (unary_with L E) (unary_with M F)
unfolding unary_with
unary_within L M E F g h = within_either _ _ _ _ (negative_within L M g) (within_either _ _ _ _ (enclosed_within E F h) (within_either _ _ _ _ (extreme_within E F h) (within_same leaf)))

conditional_within : (L M E F : Kinds) → Within L M → Within E F → Within (conditional L E) (conditional M F)
unfolding conditional
conditional_within L M E F g h = search (within, condition_within, sum_within) depth 16

leaf_within : (U E : Kinds) → Within leaf (unary_with U E)
unfolding unary_with
leaf_within U E ts a p = record { which = inr (record { which = inr (record { which = inr p }) }) }

record Grow (n : ℕ) : Type 0 where
  of_unary : Within (unary n) (unary (suc n))
  of_expression : Within (expression n) (expression (suc n))

grow : (n : ℕ) → Grow n
unfolding unary expression
grow zero = record {
  of_unary = leaf_within leaf (sums_of leaf);
  of_expression = λ ts a p. record { which = inr (sums_within leaf (unary_with leaf (sums_of leaf)) (leaf_within leaf (sums_of leaf)) ts a p) };
}
grow (suc n) = let g = grow n in record {
  of_unary = unary_within (unary n) (unary (suc n)) (expression n) (expression (suc n)) g.of_unary g.of_expression;
  of_expression = within_either _ _ _ _ (conditional_within (unary n) (unary (suc n)) (expression n) (expression (suc n)) g.of_unary g.of_expression)
      (sums_within (unary (suc n)) (unary (suc (suc n))) (unary_within (unary n) (unary (suc n)) (expression n) (expression (suc n)) g.of_unary g.of_expression));
}

pub unary_grows : (n : ℕ) → Within (unary n) (unary (suc n))
unary_grows n = (grow n).of_unary

pub expression_grows : (n : ℕ) → Within (expression n) (expression (suc n))
expression_grows n = (grow n).of_expression
