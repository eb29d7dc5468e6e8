use Rattle.std.proofs.Common.{refl, ap, rules, List, [], ◌∷◌, ◌++◌, Some, ◌≡◌, ◌≢◌, ◌∙◌}
use Rattle.phrase_theory.specs.Reading.{next}
use Rattle.phrase_theory.specs.SequenceLaws.{passed_on, first_stuck, ◌▹◌, ◌▸◌, pure_found, stuck_before, fails_before, found_before}
use Rattle.phrase_theory.specs.LevelLaws.{mapped_found, mapped_fails}
use Rattle.phrase_theory.specs.ChainLaws.{chained_stuck, chained_first, chained_next, chained_fails, chained_done}
use Rattle.gvdl_parser.specs.Predicates.{conjunction_of, predicate_of, negated, enclosed, all_of, any_of}
use Rattle.gvdl_parser.proofs.Having.{phrases, int_has, prop_has, field_has, operand_has, negation_has, predicate_has}
use Rattle.gvdl_parser.proofs.PredicateLaws.{predicate_grows, and_chain, or_chain, not_reads, open_reads, atom_reads, not_too_deep, open_too_deep}
use Rattle.gvdl_tree.specs.declared.predicate.PredTree.{PredTree}
use Rattle.gvdl_tokens.specs.declared.word.Word.TheVariants as w
use Rattle.gvdl_tokens.specs.declared.token.Sign.TheVariants as s
use Rattle.gvdl_tokens.specs.declared.token.Token.TheVariants as t
use Rattle.gvdl_parser.proofs.predicate.+predicate.Goals as goal

pub negated-returns-in_err-word : goal.negated-returns-in_err-word
unfolding negated
negated-returns-in_err-word g c = passed_on _ c.from_residual.ensures.1 (first_stuck (c.in_err-word.ensures c.args.levels) (λ m a. search (phrases, int_has, prop_has, field_has, operand_has, negation_has, predicate_has) depth 20))

pub negated-returns-in_err-inner : goal.negated-returns-in_err-inner
unfolding negated
negated-returns-in_err-inner g c = passed_on _ c.from_residual-in_err-inner.ensures.1 ((c.in_ok-word.ensures c.args.levels) ▹ mapped_fails _ c.in_err-inner.ensures)

pub negated-returns : goal.negated-returns
unfolding negated
negated-returns g c = rw c.in_ok-new.ensures ((c.in_ok-word.ensures c.args.levels) ▸ mapped_found _ c.in_ok-inner.ensures)

pub enclosed-returns-in_err-sign : goal.enclosed-returns-in_err-sign
unfolding enclosed
enclosed-returns-in_err-sign g c = passed_on _ c.from_residual.ensures.1 (first_stuck (c.in_err-sign.ensures c.args.levels) (λ m a. search (phrases, int_has, prop_has, field_has, operand_has, negation_has, predicate_has) depth 20))

pub enclosed-returns-in_err-inner : goal.enclosed-returns-in_err-inner
unfolding enclosed
enclosed-returns-in_err-inner g c = passed_on _ c.from_residual-in_err-inner.ensures.1 ((c.in_ok-sign.ensures c.args.levels) ▹ stuck_before refl c.in_err-inner.ensures (λ m a. search (phrases, int_has, prop_has, field_has, operand_has, negation_has, predicate_has) depth 20))

pub enclosed-returns-in_err-sign-2 : goal.enclosed-returns-in_err-sign-2
unfolding enclosed
enclosed-returns-in_err-sign-2 g c = passed_on _ c.from_residual-in_err-sign-2.ensures.1 ((c.in_ok-sign.ensures c.args.levels) ▹ fails_before refl predicate_grows c.in_ok-inner.ensures (first_stuck (c.in_err-sign-2.ensures c.args.levels) (λ m a. search (phrases, int_has, prop_has, field_has, operand_has, negation_has, predicate_has) depth 20)))

pub enclosed-returns : goal.enclosed-returns
unfolding enclosed
enclosed-returns g c = (c.in_ok-sign.ensures c.args.levels) ▸ found_before refl c.in_ok-inner.ensures ((c.in_ok-sign-2.ensures c.args.levels) ▸ pure_found)

pub conjunction-returns-in_err-first : goal.conjunction-returns-in_err-first
unfolding conjunction_of
conjunction-returns-in_err-first g c = passed_on _ c.from_residual.ensures.1 (chained_stuck and_chain all_of c.in_err-first.ensures)

pub conjunction-more-init : goal.conjunction-more-init
unfolding conjunction_of
conjunction-more-init g c = chained_first and_chain all_of _ c.in_ok-first.ensures (c.in_ok-push.ensures.ok ∙ ap (λ (x : List PredTree). x ++ c.in_ok-first.first ∷ []) c.new-members.ensures)

pub conjunction-returns-in_err-next : goal.conjunction-returns-in_err-next
unfolding conjunction_of
conjunction-returns-in_err-next g c = passed_on _ c.from_residual-in_err-next.ensures.1 (chained_fails and_chain all_of c.more.invariant (search rules) c.skip.ensures c.in_err-next.ensures)

pub conjunction-more-preserved : goal.conjunction-more-preserved
unfolding conjunction_of
conjunction-more-preserved g c = chained_next and_chain all_of c.more.members _ c.more.invariant (search rules) c.skip.ensures c.in_ok-next.ensures c.in_ok-push-2.ensures.ok

pub conjunction-returns : goal.conjunction-returns
unfolding conjunction_of
conjunction-returns g c = rw c.all.ensures (chained_done and_chain all_of c.more.invariant (search rules))

pub predicate-returns-in_err-first : goal.predicate-returns-in_err-first
unfolding predicate_of
predicate-returns-in_err-first g c = passed_on _ c.from_residual.ensures.1 (chained_stuck or_chain any_of c.in_err-first.ensures)

pub predicate-more-init : goal.predicate-more-init
unfolding predicate_of
predicate-more-init g c = chained_first or_chain any_of _ c.in_ok-first.ensures (c.in_ok-push.ensures.ok ∙ ap (λ (x : List PredTree). x ++ c.in_ok-first.first ∷ []) c.new-members.ensures)

pub predicate-returns-in_err-next : goal.predicate-returns-in_err-next
unfolding predicate_of
predicate-returns-in_err-next g c = passed_on _ c.from_residual-in_err-next.ensures.1 (chained_fails or_chain any_of c.more.invariant (search rules) c.skip.ensures c.in_err-next.ensures)

pub predicate-more-preserved : goal.predicate-more-preserved
unfolding predicate_of
predicate-more-preserved g c = chained_next or_chain any_of c.more.members _ c.more.invariant (search rules) c.skip.ensures c.in_ok-next.ensures c.in_ok-push-2.ensures.ok

pub predicate-returns : goal.predicate-returns
unfolding predicate_of
predicate-returns g c = rw c.any.ensures (chained_done or_chain any_of c.more.invariant (search rules))

pub negation-returns-then-levels-eq0 : goal.negation-returns-then-levels-eq0
negation-returns-then-levels-eq0 g c = let e : next c.args.cursor.now.rest.now ≡ Some (t.Word w.Not) = search rules in not_too_deep c.args.levels _ c.if-levels-eq0.true e

pub negation-returns-then-levels-eq0-2 : goal.negation-returns-then-levels-eq0-2
negation-returns-then-levels-eq0-2 g c = let e : next c.args.cursor.now.rest.now ≡ Some (t.Sign s.Open) = search rules in open_too_deep c.args.levels _ c.if-levels-eq0-2.true e

pub negation-returns-then-sees_word : goal.negation-returns-then-sees_word
negation-returns-then-sees_word g c = let e : next c.args.cursor.now.rest.now ≡ Some (t.Word w.Not) = search rules in not_reads c.args.levels _ _ _ c.if-levels-eq0.false e c.negated.ensures

pub negation-returns-then-sees_sign : goal.negation-returns-then-sees_sign
negation-returns-then-sees_sign g c = let e : next c.args.cursor.now.rest.now ≡ Some (t.Sign s.Open) = search rules in open_reads c.args.levels _ _ _ c.if-levels-eq0-2.false e c.enclosed.ensures

pub negation-returns : goal.negation-returns
negation-returns g c = let n0 : next c.args.cursor.now.rest.now ≢ Some (t.Word w.Not) = search rules in let n1 : next c.args.cursor.now.rest.now ≢ Some (t.Sign s.Open) = search rules in atom_reads c.args.levels _ _ _ n0 n1 (c.atom.ensures c.args.levels)
