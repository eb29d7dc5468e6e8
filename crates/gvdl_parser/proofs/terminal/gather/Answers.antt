use Rattle.std.proofs.Common.{◌∙◌, sym}
use Rattle.gvdl_tree.specs.declared.script.Gather.TheVariants as gather
use Rattle.phrase_theory.specs.SequenceLaws.{one_missing, one_found}
use Rattle.gvdl_parser.proofs.Nexts.{past}
use Rattle.gvdl_parser.proofs.Meanings.{gather_token_at, gather_token_one}
use Rattle.gvdl_parser.proofs.terminal.gather.Goals as goal

pub returns-in_default : goal.returns-in_default
returns-in_default c = λ n. one_missing gather.Min _ n (λ v. past _ _ (λ e. c.in_default.ensures.none v (c.kind.ensures ∙ e)))

pub returns : goal.returns
returns c = λ n. one_found (gather_token_one c.in-Some.meant) (gather_token_at c.in-Some.meant _ (sym c.kind.ensures ∙ c.in-Some.ensures.found)) c.skip.ensures
