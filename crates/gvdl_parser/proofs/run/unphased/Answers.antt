use Rattle.std.proofs.Common.{refl}
use Rattle.phrase_theory.specs.Reading.{alone}
use Rattle.phrase_theory.specs.SequenceLaws.{passed_on, first_stuck, ◌▸◌, pure_found, stuck_before, fails_before, found_before, phrase_pure, first_fails, then_finds, then_fails}
use Rattle.gvdl_parser.specs.Statements.{order_part, split_part, unphased, after_order, after_split}
use Rattle.gvdl_parser.proofs.StatementLaws.{statement_phrases, behind_order, behind_split, behind_order_has, behind_split_has, order_apart, split_apart}
use Rattle.gvdl_parser.proofs.run.unphased.Goals as goal

pub returns-in_err-order : goal.returns-in_err-order
unfolding unphased
returns-in_err-order c = λ n. passed_on _ c.from_residual.ensures.1 (first_fails (λ m. order_part) (λ m. behind_order) after_order alone (λ m. order_apart) n _ _ _ (λ m. behind_order_has) (c.in_err-order.ensures n))

pub returns-in_err-split : goal.returns-in_err-split
unfolding unphased
returns-in_err-split c = λ n. passed_on _ c.from_residual-in_err-split.ensures.1 (then_fails (λ m. order_part) (λ m. behind_order) after_order alone (λ m. order_apart) n _ _ _ _ _ (λ m us a p. p) (c.in_ok-order.ensures n)
    (first_fails (λ m. split_part) (λ m. behind_split c.in_ok-order.order) after_split alone (λ m. split_apart c.in_ok-order.order) n _ _ _ (λ m. behind_split_has c.in_ok-order.order) (c.in_err-split.ensures n)))

pub returns-in_err-keep : goal.returns-in_err-keep
unfolding unphased
returns-in_err-keep c = λ n. passed_on _ c.from_residual-in_err-keep.ensures.1 (then_fails (λ m. order_part) (λ m. behind_order) after_order alone (λ m. order_apart) n _ _ _ _ _ (λ m us a p. p) (c.in_ok-order.ensures n)
    (then_fails (λ m. split_part) (λ m. behind_split c.in_ok-order.order) after_split alone (λ m. split_apart c.in_ok-order.order) n _ _ _ _ _ (λ m us a p. p) (c.in_ok-split.ensures n)
    (stuck_before refl (c.in_err-keep.ensures n) (λ m a. search statement_phrases depth 40))))

pub returns-in_err-sign : goal.returns-in_err-sign
unfolding unphased
returns-in_err-sign c = λ n. passed_on _ c.from_residual-in_err-sign.ensures.1 (then_fails (λ m. order_part) (λ m. behind_order) after_order alone (λ m. order_apart) n _ _ _ _ _ (λ m us a p. p) (c.in_ok-order.ensures n)
    (then_fails (λ m. split_part) (λ m. behind_split c.in_ok-order.order) after_split alone (λ m. split_apart c.in_ok-order.order) n _ _ _ _ _ (λ m us a p. p) (c.in_ok-split.ensures n)
    (fails_before refl (λ n us a p. p) (c.in_ok-keep.ensures n) (first_stuck (c.in_err-sign.ensures n) (λ m a. phrase_pure _)))))

pub returns : goal.returns
unfolding unphased
returns c = λ n. then_finds (λ m. order_part) (λ m. behind_order) after_order alone (λ m. order_apart) n _ _ _ _ _ (c.in_ok-order.ensures n)
    (then_finds (λ m. split_part) (λ m. behind_split c.in_ok-order.order) after_split alone (λ m. split_apart c.in_ok-order.order) n _ _ _ _ _ (c.in_ok-split.ensures n)
    (found_before refl (c.in_ok-keep.ensures n) (c.in_ok-sign.ensures n ▸ pure_found)))
