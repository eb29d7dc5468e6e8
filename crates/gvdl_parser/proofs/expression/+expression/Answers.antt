use Rattle.std.proofs.Common.{refl, sym, ap, rules, List, [], ◌∷◌, ◌++◌, Some, Bool, ◌≡◌, ◌≢◌, ◌∙◌}
use Rattle.phrase_theory.specs.Phrases.{Either}
use Rattle.phrase_theory.specs.Reading.{next}
use Rattle.phrase_theory.specs.SequenceLaws.{passed_on, first_stuck, ◌▹◌, ◌▸◌, pure_found, one_found, stuck_before, fails_before, found_before, phrase_right, phrase_pure, first_fails, then_finds, then_fails}
use Rattle.phrase_theory.specs.ChoiceLaws.{left_at, right_at, left_fails_at, right_fails_at}
use Rattle.phrase_theory.specs.LevelLaws.{mapped_found, mapped_fails}
use Rattle.phrase_theory.specs.ChainLaws.{chained_stuck, chained_first, chained_next, chained_fails, chained_done, chain_next, chain_fails, chain_done, chain_after, first_of_many}
use Rattle.gvdl_parser.specs.Terminals.{cmp_token, term_token, factor_token, extreme_token}
use Rattle.gvdl_parser.proofs.Nexts.{past, shorter}
use Rattle.gvdl_parser.specs.Expressions.{product_tree, sum_tree, else_tree, product_of, sum_of, sums_of, compared_sum, nil_sum, test_of, condition_of, negative, enclosed, extreme, conditional, unary, after_sum, after_product}
use Rattle.gvdl_parser.proofs.Having.{phrases}
use Rattle.gvdl_parser.proofs.Meanings.{cmp_token_at, cmp_token_one, factor_token_at, term_token_at, extreme_token_at}
use Rattle.gvdl_parser.proofs.ExpressionLaws.{unary_grows, expression_grows, product_grows, sum_grows, condition_grows, unary_has, sum_has, condition_has, expression_has, factor_goes_on, term_goes_on, factor_loop, term_loop, else_chain, condition_chain, factor_found, factor_fails, no_factor, term_found, term_fails, no_term, nil_other, compared_other, behind_apart, leaf_reads, minus_reads, open_reads, extreme_reads, minus_too_deep, open_too_deep, if_reads, sums_reads, if_too_deep}
use Rattle.gvdl_tree.specs.declared.expression.ExprTree.{ExprTree}
use Rattle.gvdl_tree.specs.declared.expression.Test.{Test}
use Rattle.gvdl_tree.specs.declared.predicate.Cmp.{Cmp}
use Rattle.gvdl_tokens.specs.declared.word.Word.TheVariants as w
use Rattle.gvdl_tokens.specs.declared.token.Sign.TheVariants as s
use Rattle.gvdl_tokens.specs.declared.token.Token.TheVariants as t
use Rattle.gvdl_parser.proofs.expression.+expression.Goals as goal

pub negative-returns-in_err-sign : goal.negative-returns-in_err-sign
unfolding negative
negative-returns-in_err-sign g c = passed_on _ c.from_residual.ensures.1 (first_stuck (c.in_err-sign.ensures c.args.levels) (λ m a. search (phrases, unary_has, sum_has, condition_has, expression_has) depth 30))

pub negative-returns-in_err-inner : goal.negative-returns-in_err-inner
unfolding negative
negative-returns-in_err-inner g c = passed_on _ c.from_residual-in_err-inner.ensures.1 ((c.in_ok-sign.ensures c.args.levels) ▹ first_stuck c.in_err-inner.ensures (λ m a. search (phrases, unary_has, sum_has, condition_has, expression_has) depth 30))

pub negative-returns : goal.negative-returns
unfolding negative
negative-returns g c = rw c.in_ok-new.ensures ((c.in_ok-sign.ensures c.args.levels) ▸ c.in_ok-inner.ensures ▸ pure_found)

pub enclosed-returns-in_err-sign : goal.enclosed-returns-in_err-sign
unfolding enclosed
enclosed-returns-in_err-sign g c = passed_on _ c.from_residual.ensures.1 (first_stuck (c.in_err-sign.ensures c.args.levels) (λ m a. search (phrases, unary_has, sum_has, condition_has, expression_has) depth 30))

pub enclosed-returns-in_err-inner : goal.enclosed-returns-in_err-inner
unfolding enclosed
enclosed-returns-in_err-inner g c = passed_on _ c.from_residual-in_err-inner.ensures.1 ((c.in_ok-sign.ensures c.args.levels) ▹ stuck_before refl c.in_err-inner.ensures (λ m a. search (phrases, unary_has, sum_has, condition_has, expression_has) depth 30))

pub enclosed-returns-in_err-sign-2 : goal.enclosed-returns-in_err-sign-2
unfolding enclosed
enclosed-returns-in_err-sign-2 g c = passed_on _ c.from_residual-in_err-sign-2.ensures.1 ((c.in_ok-sign.ensures c.args.levels) ▹ fails_before refl expression_grows c.in_ok-inner.ensures (first_stuck (c.in_err-sign-2.ensures c.args.levels) (λ m a. search (phrases, unary_has, sum_has, condition_has, expression_has) depth 30)))

pub enclosed-returns : goal.enclosed-returns
unfolding enclosed
enclosed-returns g c = (c.in_ok-sign.ensures c.args.levels) ▸ found_before refl c.in_ok-inner.ensures ((c.in_ok-sign-2.ensures c.args.levels) ▸ pure_found)

pub extreme-returns-in_err-greatest : goal.extreme-returns-in_err-greatest
unfolding extreme
extreme-returns-in_err-greatest g c = passed_on _ c.from_residual.ensures.1 (first_stuck (c.in_err-greatest.ensures c.args.levels) (λ m a. search (phrases, unary_has, sum_has, condition_has, expression_has) depth 30))

pub extreme-returns-in_err-sign : goal.extreme-returns-in_err-sign
unfolding extreme
extreme-returns-in_err-sign g c = passed_on _ c.from_residual-in_err-sign.ensures.1 ((c.in_ok-greatest.ensures c.args.levels) ▹ first_stuck (c.in_err-sign.ensures c.args.levels) (λ m a. search (phrases, unary_has, sum_has, condition_has, expression_has) depth 30))

pub extreme-returns-in_err-a : goal.extreme-returns-in_err-a
unfolding extreme
extreme-returns-in_err-a g c = passed_on _ c.from_residual-in_err-a.ensures.1 ((c.in_ok-greatest.ensures c.args.levels) ▹ (c.in_ok-sign.ensures c.args.levels) ▹ stuck_before refl c.in_err-a.ensures (λ m a. search (phrases, unary_has, sum_has, condition_has, expression_has) depth 30))

pub extreme-returns-in_err-sign-2 : goal.extreme-returns-in_err-sign-2
unfolding extreme
extreme-returns-in_err-sign-2 g c = passed_on _ c.from_residual-in_err-sign-2.ensures.1 ((c.in_ok-greatest.ensures c.args.levels) ▹ (c.in_ok-sign.ensures c.args.levels) ▹ fails_before refl expression_grows c.in_ok-a.ensures (first_stuck (c.in_err-sign-2.ensures c.args.levels) (λ m a. search (phrases, unary_has, sum_has, condition_has, expression_has) depth 30)))

pub extreme-returns-in_err-b : goal.extreme-returns-in_err-b
unfolding extreme
extreme-returns-in_err-b g c = passed_on _ c.from_residual-in_err-b.ensures.1 ((c.in_ok-greatest.ensures c.args.levels) ▹ (c.in_ok-sign.ensures c.args.levels) ▹ fails_before refl expression_grows c.in_ok-a.ensures ((c.in_ok-sign-2.ensures c.args.levels) ▹ stuck_before refl c.in_err-b.ensures (λ m a. search (phrases, unary_has, sum_has, condition_has, expression_has) depth 30)))

pub extreme-returns-in_err-sign-3 : goal.extreme-returns-in_err-sign-3
unfolding extreme
extreme-returns-in_err-sign-3 g c = passed_on _ c.from_residual-in_err-sign-3.ensures.1 ((c.in_ok-greatest.ensures c.args.levels) ▹ (c.in_ok-sign.ensures c.args.levels) ▹ fails_before refl expression_grows c.in_ok-a.ensures ((c.in_ok-sign-2.ensures c.args.levels) ▹ fails_before refl expression_grows c.in_ok-b.ensures (first_stuck (c.in_err-sign-3.ensures c.args.levels) (λ m a. search (phrases, unary_has, sum_has, condition_has, expression_has) depth 30))))

pub extreme-returns : goal.extreme-returns
unfolding extreme
extreme-returns g c = rw c.in_ok-tree.ensures ((c.in_ok-greatest.ensures c.args.levels) ▸ (c.in_ok-sign.ensures c.args.levels) ▸ found_before refl c.in_ok-a.ensures ((c.in_ok-sign-2.ensures c.args.levels) ▸ found_before refl c.in_ok-b.ensures ((c.in_ok-sign-3.ensures c.args.levels) ▸ pure_found)))

pub conditional-returns-in_err-word : goal.conditional-returns-in_err-word
unfolding conditional
conditional-returns-in_err-word g c = passed_on _ c.from_residual.ensures.1 (first_stuck (c.in_err-word.ensures c.args.levels) (λ m a. search (phrases, unary_has, sum_has, condition_has, expression_has) depth 30))

pub conditional-returns-in_err-tests : goal.conditional-returns-in_err-tests
unfolding conditional
conditional-returns-in_err-tests g c = passed_on _ c.from_residual-in_err-tests.ensures.1 ((c.in_ok-word.ensures c.args.levels) ▹ stuck_before refl c.in_err-tests.ensures (λ m a. search (phrases, unary_has, sum_has, condition_has, expression_has) depth 30))

pub conditional-returns-in_err-word-2 : goal.conditional-returns-in_err-word-2
unfolding conditional
conditional-returns-in_err-word-2 g c = passed_on _ c.from_residual-in_err-word-2.ensures.1 ((c.in_ok-word.ensures c.args.levels) ▹ fails_before refl condition_grows c.in_ok-tests.ensures (first_stuck (c.in_err-word-2.ensures c.args.levels) (λ m a. search (phrases, unary_has, sum_has, condition_has, expression_has) depth 30)))

pub conditional-returns-in_err-first : goal.conditional-returns-in_err-first
unfolding conditional
conditional-returns-in_err-first g c = passed_on _ c.from_residual-in_err-first.ensures.1 ((c.in_ok-word.ensures c.args.levels) ▹ fails_before refl condition_grows c.in_ok-tests.ensures ((c.in_ok-word-2.ensures c.args.levels) ▹ stuck_before refl c.in_err-first.ensures (λ m a. search (phrases, unary_has, sum_has, condition_has, expression_has) depth 30)))

pub conditional-returns-in_err-word-3 : goal.conditional-returns-in_err-word-3
unfolding conditional
conditional-returns-in_err-word-3 g c = passed_on _ c.from_residual-in_err-word-3.ensures.1 ((c.in_ok-word.ensures c.args.levels) ▹ fails_before refl condition_grows c.in_ok-tests.ensures ((c.in_ok-word-2.ensures c.args.levels) ▹ fails_before refl sum_grows c.in_ok-first.ensures (first_stuck (c.in_err-word-3.ensures c.args.levels) (λ m a. search (phrases, unary_has, sum_has, condition_has, expression_has) depth 30))))

pub conditional-returns-in_err-second : goal.conditional-returns-in_err-second
unfolding conditional
conditional-returns-in_err-second g c = passed_on _ c.from_residual-in_err-second.ensures.1 ((c.in_ok-word.ensures c.args.levels) ▹ fails_before refl condition_grows c.in_ok-tests.ensures ((c.in_ok-word-2.ensures c.args.levels) ▹ fails_before refl sum_grows c.in_ok-first.ensures ((c.in_ok-word-3.ensures c.args.levels) ▹ mapped_fails _ c.in_err-second.ensures)))

pub conditional-returns : goal.conditional-returns
unfolding conditional
conditional-returns g c = rw c.in_ok-new.ensures ((c.in_ok-word.ensures c.args.levels) ▸ found_before refl c.in_ok-tests.ensures ((c.in_ok-word-2.ensures c.args.levels) ▸ found_before refl c.in_ok-first.ensures ((c.in_ok-word-3.ensures c.args.levels) ▸ mapped_found _ c.in_ok-second.ensures)))

pub unary-returns-then-levels-eq0 : goal.unary-returns-then-levels-eq0
unary-returns-then-levels-eq0 g c = let e : next c.args.cursor.now.rest.now ≡ Some (t.Sign s.Minus) = search rules in minus_too_deep c.args.levels _ c.if-levels-eq0.true e

pub unary-returns-then-levels-eq0-2 : goal.unary-returns-then-levels-eq0-2
unary-returns-then-levels-eq0-2 g c = let e : next c.args.cursor.now.rest.now ≡ Some (t.Sign s.Open) = search rules in open_too_deep c.args.levels _ c.if-levels-eq0-2.true e

pub unary-returns-then-sees_sign : goal.unary-returns-then-sees_sign
unary-returns-then-sees_sign g c = let e : next c.args.cursor.now.rest.now ≡ Some (t.Sign s.Minus) = search rules in minus_reads c.args.levels _ _ _ c.if-levels-eq0.false e c.negative.ensures

pub unary-returns-then-sees_sign-2 : goal.unary-returns-then-sees_sign-2
unary-returns-then-sees_sign-2 g c = let e : next c.args.cursor.now.rest.now ≡ Some (t.Sign s.Open) = search rules in open_reads c.args.levels _ _ _ c.if-levels-eq0-2.false e c.enclosed.ensures

pub unary-returns-in-Some : goal.unary-returns-in-Some
unary-returns-in-Some g c = let e : next c.args.cursor.now.rest.now ≡ Some (extreme_token c.in-Some.greatest) = extreme_token_at c.in-Some.greatest _ (sym c.kind.ensures ∙ c.in-Some.ensures.found) in extreme_reads c.args.levels _ _ _ c.in-Some.greatest c.if-levels-eq0-3.false e c.extreme.ensures

pub unary-no_extreme-requires : goal.unary-no_extreme-requires
unary-no_extreme-requires g c = let e : next c.args.cursor.now.rest.now ≡ Some (extreme_token c.in-Some.greatest) = extreme_token_at c.in-Some.greatest _ (sym c.kind.ensures ∙ c.in-Some.ensures.found) in e

pub unary-returns : goal.unary-returns
unary-returns g c = let n0 : next c.args.cursor.now.rest.now ≢ Some (t.Sign s.Minus) = search rules in let n1 : next c.args.cursor.now.rest.now ≢ Some (t.Sign s.Open) = search rules in let ne : (v : Bool) → next c.args.cursor.now.rest.now ≢ Some (extreme_token v) = (λ v. past _ _ (λ x. c.in_default.ensures.none v (c.kind.ensures ∙ x))) in leaf_reads c.args.levels _ _ _ n0 n1 ne (c.leaf.ensures c.args.levels)

pub product-returns-in_err-head : goal.product-returns-in_err-head
unfolding product_of
product-returns-in_err-head g c = passed_on _ c.from_residual.ensures.1 (first_of_many factor_loop _ product_tree c.args.levels _ _ _ c.in_err-head.ensures)

pub product-more-init : goal.product-more-init
unfolding product_of
product-more-init g c = rw c.into_inner-first.ensures (chain_after factor_loop product_tree _ unary_grows c.in_ok-head.ensures c.new-others.ensures)

pub product-returns-in_err-other : goal.product-returns-in_err-other
unfolding product_of
product-returns-in_err-other g c = let e : next c.more.cursor.rest.now ≡ Some (factor_token c.in-Some.times) = factor_token_at c.in-Some.times _ (sym c.kind.ensures ∙ c.in-Some.ensures.found) in passed_on _ c.from_residual-in_err-other.ensures.1 (chain_fails factor_loop c.more.invariant (ap after_product e ∙ factor_goes_on c.in-Some.times) (factor_fails c.in-Some.times c.args.levels _ _ _ _ e c.skip.ensures c.in_err-other.ensures))

pub product-more-preserved : goal.product-more-preserved
unfolding product_of
product-more-preserved g c = let e : next c.more.cursor.rest.now ≡ Some (factor_token c.in-Some.times) = factor_token_at c.in-Some.times _ (sym c.kind.ensures ∙ c.in-Some.ensures.found) in chain_next factor_loop c.more.others _ c.more.invariant (ap after_product e ∙ factor_goes_on c.in-Some.times) (factor_found c.in-Some.times c.args.levels _ _ _ _ e c.skip.ensures c.in_ok-other.ensures) c.in_ok-push_signed.ensures

pub product-returns : goal.product-returns
unfolding product_of
product-returns g c = let ne : (v : Bool) → next c.more.cursor.rest.now ≢ Some (factor_token v) = (λ v. past _ _ (λ x. c.in_default.ensures.none v (c.kind.ensures ∙ x))) in rw c.in_ok-tree.ensures (chain_done factor_loop c.more.invariant (λ m. no_factor m _ ne))

pub sum-returns-in_err-head : goal.sum-returns-in_err-head
unfolding sum_of
sum-returns-in_err-head g c = passed_on _ c.from_residual.ensures.1 (first_of_many term_loop _ sum_tree c.args.levels _ _ _ c.in_err-head.ensures)

pub sum-more-init : goal.sum-more-init
unfolding sum_of
sum-more-init g c = rw c.into_inner-first.ensures (chain_after term_loop sum_tree _ product_grows c.in_ok-head.ensures c.new-others.ensures)

pub sum-returns-in_err-other : goal.sum-returns-in_err-other
unfolding sum_of
sum-returns-in_err-other g c = let e : next c.more.cursor.rest.now ≡ Some (term_token c.in-Some.plus) = term_token_at c.in-Some.plus _ (sym c.kind.ensures ∙ c.in-Some.ensures.found) in passed_on _ c.from_residual-in_err-other.ensures.1 (chain_fails term_loop c.more.invariant (ap after_sum e ∙ term_goes_on c.in-Some.plus) (term_fails c.in-Some.plus c.args.levels _ _ _ _ e c.skip.ensures c.in_err-other.ensures))

pub sum-more-preserved : goal.sum-more-preserved
unfolding sum_of
sum-more-preserved g c = let e : next c.more.cursor.rest.now ≡ Some (term_token c.in-Some.plus) = term_token_at c.in-Some.plus _ (sym c.kind.ensures ∙ c.in-Some.ensures.found) in chain_next term_loop c.more.others _ c.more.invariant (ap after_sum e ∙ term_goes_on c.in-Some.plus) (term_found c.in-Some.plus c.args.levels _ _ _ _ e c.skip.ensures c.in_ok-other.ensures) c.in_ok-push_signed.ensures

pub sum-returns : goal.sum-returns
unfolding sum_of
sum-returns g c = let ne : (v : Bool) → next c.more.cursor.rest.now ≢ Some (term_token v) = (λ v. past _ _ (λ x. c.in_default.ensures.none v (c.kind.ensures ∙ x))) in rw c.in_ok-tree.ensures (chain_done term_loop c.more.invariant (λ m. no_term m _ ne))

pub sums-returns-in_err-first : goal.sums-returns-in_err-first
unfolding sums_of
sums-returns-in_err-first g c = passed_on _ c.from_residual.ensures.1 (chained_stuck else_chain else_tree c.in_err-first.ensures)

pub sums-more-init : goal.sums-more-init
unfolding sums_of
sums-more-init g c = chained_first else_chain else_tree _ c.in_ok-first.ensures (c.in_ok-push_member.ensures ∙ ap (λ (x : List ExprTree). x ++ c.in_ok-first.first ∷ []) c.new-members.ensures)

pub sums-returns-in_err-next : goal.sums-returns-in_err-next
unfolding sums_of
sums-returns-in_err-next g c = passed_on _ c.from_residual-in_err-next.ensures.1 (chained_fails else_chain else_tree c.more.invariant (search rules) c.skip.ensures c.in_err-next.ensures)

pub sums-more-preserved : goal.sums-more-preserved
unfolding sums_of
sums-more-preserved g c = chained_next else_chain else_tree c.more.members _ c.more.invariant (search rules) c.skip.ensures c.in_ok-next.ensures c.in_ok-push_member-2.ensures

pub sums-returns : goal.sums-returns
unfolding sums_of
sums-returns g c = rw c.in_ok-tree.ensures (chained_done else_chain else_tree c.more.invariant (search rules))

pub condition-returns-in_err-first : goal.condition-returns-in_err-first
unfolding condition_of
condition-returns-in_err-first g c = passed_on _ c.from_residual.ensures.1 (chained_stuck condition_chain (λ members. members) c.in_err-first.ensures)

pub condition-more-init : goal.condition-more-init
unfolding condition_of
condition-more-init g c = chained_first condition_chain (λ members. members) _ c.in_ok-first.ensures (c.in_ok-push.ensures.ok ∙ ap (λ (x : List Test). x ++ c.in_ok-first.first ∷ []) c.new-tests.ensures)

pub condition-returns-in_err-next : goal.condition-returns-in_err-next
unfolding condition_of
condition-returns-in_err-next g c = passed_on _ c.from_residual-in_err-next.ensures.1 (chained_fails condition_chain (λ members. members) c.more.invariant (search rules) c.skip.ensures c.in_err-next.ensures)

pub condition-more-preserved : goal.condition-more-preserved
unfolding condition_of
condition-more-preserved g c = chained_next condition_chain (λ members. members) c.more.tests _ c.more.invariant (search rules) c.skip.ensures c.in_ok-next.ensures c.in_ok-push-2.ensures.ok

pub condition-returns : goal.condition-returns
unfolding condition_of
condition-returns g c = (chained_done condition_chain (λ members. members) c.more.invariant (search rules))

pub condition-more-smaller : goal.condition-more-smaller
condition-more-smaller g c = let e : next c.more.cursor.rest.now ≡ Some (t.Word w.And) = search rules in shorter _ _ _ (t.Word w.And) e c.skip.ensures c.in_ok-next.ensures

pub test-returns-in_err-first : goal.test-returns-in_err-first
unfolding test_of compared_sum nil_sum
test-returns-in_err-first g c = passed_on _ c.from_residual.ensures.1 (first_fails (λ n. sum_of (unary n)) (λ n a. Either (compared_sum a (unary n)) (nil_sum a)) after_sum after_sum behind_apart c.args.levels _ _ _ (λ n a. phrase_right _ _ (search phrases depth 12)) c.in_err-first.ensures)

pub test-returns-in_err-second : goal.test-returns-in_err-second
unfolding test_of compared_sum nil_sum
test-returns-in_err-second g c = let e : next c.sum.new.cursor.rest.now ≡ Some (cmp_token c.in-Some.cmp) = cmp_token_at c.in-Some.cmp _ (sym c.kind.ensures ∙ c.in-Some.ensures.found) in passed_on _ c.from_residual-in_err-second.ensures.1 (then_fails (λ n. sum_of (unary n)) (λ n a. Either (compared_sum a (unary n)) (nil_sum a)) after_sum after_sum behind_apart c.args.levels _ _ _ _ _ sum_grows c.in_ok-first.ensures (left_fails_at refl (λ m. nil_other _ c.in-Some.cmp _ e) (one_found (cmp_token_one c.in-Some.cmp) e c.skip.ensures ▹ mapped_fails _ c.in_err-second.ensures)))

pub test-returns-in-Some : goal.test-returns-in-Some
unfolding test_of compared_sum nil_sum
test-returns-in-Some g c = let e : next c.sum.new.cursor.rest.now ≡ Some (cmp_token c.in-Some.cmp) = cmp_token_at c.in-Some.cmp _ (sym c.kind.ensures ∙ c.in-Some.ensures.found) in rw c.compared.ensures (then_finds (λ n. sum_of (unary n)) (λ n a. Either (compared_sum a (unary n)) (nil_sum a)) after_sum after_sum behind_apart c.args.levels _ _ _ _ _ c.in_ok-first.ensures (left_at refl (λ m. nil_other _ c.in-Some.cmp _ e) (one_found (cmp_token_one c.in-Some.cmp) e c.skip.ensures ▸ mapped_found _ c.in_ok-second.ensures)))

pub test-returns-in_err-word : goal.test-returns-in_err-word
unfolding test_of compared_sum nil_sum
test-returns-in_err-word g c = let nc : (v : Cmp) → next c.sum.new.cursor.rest.now ≢ Some (cmp_token v) = (λ v. past _ _ (λ x. c.in_default.ensures.none v (c.kind.ensures ∙ x))) in passed_on _ c.from_residual-in_err-word.ensures.1 (then_fails (λ n. sum_of (unary n)) (λ n a. Either (compared_sum a (unary n)) (nil_sum a)) after_sum after_sum behind_apart c.args.levels _ _ _ _ _ sum_grows c.in_ok-first.ensures (right_fails_at refl (λ m. compared_other _ (unary m) _ nc) (first_stuck (c.in_err-word.ensures c.args.levels) (λ m a. search phrases depth 12))))

pub test-returns-in_err-word-2 : goal.test-returns-in_err-word-2
unfolding test_of compared_sum nil_sum
test-returns-in_err-word-2 g c = let nc : (v : Cmp) → next c.sum.new.cursor.rest.now ≢ Some (cmp_token v) = (λ v. past _ _ (λ x. c.in_default.ensures.none v (c.kind.ensures ∙ x))) in passed_on _ c.from_residual-in_err-word-2.ensures.1 (then_fails (λ n. sum_of (unary n)) (λ n a. Either (compared_sum a (unary n)) (nil_sum a)) after_sum after_sum behind_apart c.args.levels _ _ _ _ _ sum_grows c.in_ok-first.ensures (right_fails_at refl (λ m. compared_other _ (unary m) _ nc) ((c.in_ok-word.ensures c.args.levels) ▹ first_stuck (c.in_err-word-2.ensures c.args.levels) (λ m a. phrase_pure _))))

pub test-returns : goal.test-returns
unfolding test_of compared_sum nil_sum
test-returns g c = let nc : (v : Cmp) → next c.sum.new.cursor.rest.now ≢ Some (cmp_token v) = (λ v. past _ _ (λ x. c.in_default.ensures.none v (c.kind.ensures ∙ x))) in rw c.is_nil.ensures (then_finds (λ n. sum_of (unary n)) (λ n a. Either (compared_sum a (unary n)) (nil_sum a)) after_sum after_sum behind_apart c.args.levels _ _ _ _ _ c.in_ok-first.ensures (right_at refl (λ m. compared_other _ (unary m) _ nc) ((c.in_ok-word.ensures c.args.levels) ▸ (c.in_ok-word-2.ensures c.args.levels) ▸ pure_found)))

pub expression-returns-then-levels-eq0 : goal.expression-returns-then-levels-eq0
expression-returns-then-levels-eq0 g c = let e : next c.args.cursor.now.rest.now ≡ Some (t.Word w.If) = search rules in if_too_deep c.args.levels _ c.if-levels-eq0.true e

pub expression-returns-then-sees_word : goal.expression-returns-then-sees_word
expression-returns-then-sees_word g c = let e : next c.args.cursor.now.rest.now ≡ Some (t.Word w.If) = search rules in if_reads c.args.levels _ _ _ c.if-levels-eq0.false e c.conditional.ensures

pub expression-returns : goal.expression-returns
expression-returns g c = let n0 : next c.args.cursor.now.rest.now ≢ Some (t.Word w.If) = search rules in sums_reads c.args.levels _ _ _ n0 c.sums.ensures
