use Rattle.std.proofs.Common.{◌∙◌, sym, rules}
use denote.Enum.Bare.{same_true, true_same}
use Rattle.gvdl_tokens.specs.contracts.Word.{the_type}
use Rattle.gvdl_parser.proofs.cursor.same_word.Goals as goal

pub returns-clause-same : goal.returns-clause-same
returns-clause-same c is = same_true the_type (search rules) _ _ (sym c.eq.ensures ∙ is)

pub returns-clause-other : goal.returns-clause-other
returns-clause-other c is = c.eq.ensures ∙ true_same the_type _ _ is
