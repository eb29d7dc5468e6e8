use Rattle.std.proofs.Common.{refl}
use Rattle.phrase_theory.specs.SequenceLaws.{passed_on, first_stuck, found_stuck, ◌▹◌, ◌▸◌, pure_found, stuck_before, fails_before, found_before}
use Rattle.gvdl_parser.specs.Statements.{program}
use Rattle.gvdl_parser.proofs.StatementLaws.{statement_phrases, part_grows}
use Rattle.gvdl_tokens.specs.declared.word.Word.TheVariants as w
use Rattle.gvdl_parser.proofs.program.program.Goals as goal

pub returns-in_err-name : goal.returns-in_err-name
unfolding program
returns-in_err-name c = passed_on _ c.from_residual.ensures.1 (first_stuck (c.in_err-name.ensures c.args.levels) (λ m a. search statement_phrases depth 40))

pub returns-in_err-params : goal.returns-in_err-params
unfolding program
returns-in_err-params c = passed_on _ c.from_residual-in_err-params.ensures.1 ((c.in_ok-name.ensures c.args.levels) ▹ stuck_before refl (c.in_err-params.ensures c.args.levels) (λ m a. search statement_phrases depth 40))

pub returns-in_err-sign : goal.returns-in_err-sign
unfolding program
returns-in_err-sign c = passed_on _ c.from_residual-in_err-sign.ensures.1 ((c.in_ok-name.ensures c.args.levels) ▹ fails_before refl (λ n us a p. p) (c.in_ok-params.ensures c.args.levels) (first_stuck (c.in_err-sign.ensures c.args.levels) (λ m a. search statement_phrases depth 40)))

pub returns-in_err-along : goal.returns-in_err-along
unfolding program
returns-in_err-along c = passed_on _ c.from_residual-in_err-along.ensures.1 ((c.in_ok-name.ensures c.args.levels) ▹ fails_before refl (λ n us a p. p) (c.in_ok-params.ensures c.args.levels) ((c.in_ok-sign.ensures c.args.levels) ▹ first_stuck (c.in_err-along.ensures c.args.levels) (λ m a. search statement_phrases depth 40)))

pub returns-in_err-start : goal.returns-in_err-start
unfolding program
returns-in_err-start c = passed_on _ c.from_residual-in_err-start.ensures.1 ((c.in_ok-name.ensures c.args.levels) ▹ fails_before refl (λ n us a p. p) (c.in_ok-params.ensures c.args.levels) ((c.in_ok-sign.ensures c.args.levels) ▹ (c.in_ok-along.ensures c.args.levels) ▹ first_stuck c.in_err-start.ensures (λ m a. search statement_phrases depth 40)))

pub returns-in_err-send : goal.returns-in_err-send
unfolding program
returns-in_err-send c = passed_on _ c.from_residual-in_err-send.ensures.1 ((c.in_ok-name.ensures c.args.levels) ▹ fails_before refl (λ n us a p. p) (c.in_ok-params.ensures c.args.levels) ((c.in_ok-sign.ensures c.args.levels) ▹ (c.in_ok-along.ensures c.args.levels) ▹ found_stuck (part_grows w.Start) c.in_ok-start.ensures (first_stuck c.in_err-send.ensures (λ m a. search statement_phrases depth 40))))

pub returns-in_err-gather : goal.returns-in_err-gather
unfolding program
returns-in_err-gather c = passed_on _ c.from_residual-in_err-gather.ensures.1 ((c.in_ok-name.ensures c.args.levels) ▹ fails_before refl (λ n us a p. p) (c.in_ok-params.ensures c.args.levels) ((c.in_ok-sign.ensures c.args.levels) ▹ (c.in_ok-along.ensures c.args.levels) ▹ found_stuck (part_grows w.Start) c.in_ok-start.ensures (found_stuck (part_grows w.Send) c.in_ok-send.ensures (first_stuck (c.in_err-gather.ensures c.args.levels) (λ m a. search statement_phrases depth 40)))))

pub returns-in_err-update : goal.returns-in_err-update
unfolding program
returns-in_err-update c = passed_on _ c.from_residual-in_err-update.ensures.1 ((c.in_ok-name.ensures c.args.levels) ▹ fails_before refl (λ n us a p. p) (c.in_ok-params.ensures c.args.levels) ((c.in_ok-sign.ensures c.args.levels) ▹ (c.in_ok-along.ensures c.args.levels) ▹ found_stuck (part_grows w.Start) c.in_ok-start.ensures (found_stuck (part_grows w.Send) c.in_ok-send.ensures ((c.in_ok-gather.ensures c.args.levels) ▹ first_stuck c.in_err-update.ensures (λ m a. search statement_phrases depth 40)))))

pub returns-in_err-sign-2 : goal.returns-in_err-sign-2
unfolding program
returns-in_err-sign-2 c = passed_on _ c.from_residual-in_err-sign-2.ensures.1 ((c.in_ok-name.ensures c.args.levels) ▹ fails_before refl (λ n us a p. p) (c.in_ok-params.ensures c.args.levels) ((c.in_ok-sign.ensures c.args.levels) ▹ (c.in_ok-along.ensures c.args.levels) ▹ found_stuck (part_grows w.Start) c.in_ok-start.ensures (found_stuck (part_grows w.Send) c.in_ok-send.ensures ((c.in_ok-gather.ensures c.args.levels) ▹ found_stuck (part_grows w.Update) c.in_ok-update.ensures (first_stuck (c.in_err-sign-2.ensures c.args.levels) (λ m a. search statement_phrases depth 40))))))

pub returns : goal.returns
unfolding program
returns c = rw c.defined.ensures ((c.in_ok-name.ensures c.args.levels) ▸ found_before refl (c.in_ok-params.ensures c.args.levels) ((c.in_ok-sign.ensures c.args.levels) ▸ (c.in_ok-along.ensures c.args.levels) ▸ c.in_ok-start.ensures ▸ c.in_ok-send.ensures ▸ (c.in_ok-gather.ensures c.args.levels) ▸ c.in_ok-update.ensures ▸ (c.in_ok-sign-2.ensures c.args.levels) ▸ pure_found))
