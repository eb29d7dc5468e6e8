use Rattle.std.proofs.Common.{◌∙◌, sym}
use Rattle.gvdl_tree.specs.declared.script.Along.TheVariants as along
use Rattle.phrase_theory.specs.SequenceLaws.{one_missing, one_found}
use Rattle.gvdl_parser.proofs.Nexts.{past}
use Rattle.gvdl_parser.proofs.Meanings.{along_token_at, along_token_one}
use Rattle.gvdl_parser.proofs.terminal.along.Goals as goal

pub returns-in_default : goal.returns-in_default
returns-in_default c = λ n. one_missing along.Out _ n (λ v. past _ _ (λ e. c.in_default.ensures.none v (c.kind.ensures ∙ e)))

pub returns : goal.returns
returns c = λ n. one_found (along_token_one c.in-Some.meant) (along_token_at c.in-Some.meant _ (sym c.kind.ensures ∙ c.in-Some.ensures.found)) c.skip.ensures
