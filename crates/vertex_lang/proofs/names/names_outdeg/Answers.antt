use Rattle.std.proofs.Common.{◌∙◌, sym}
use Rattle.vertex_lang.specs.ByLeaves.{ignores-outdeg}
use Rattle.vertex_lang.proofs.NameCases.{outdeg-names}
use Rattle.vertex_lang.proofs.names.names_outdeg.Goals as goal

pub returns-clause-answer : goal.returns-clause-answer
returns-clause-answer c = c.holds_word.ensures ∙ outdeg-names c.args.expr.now

pub returns-clause-ignores : goal.returns-clause-ignores
returns-clause-ignores c = λ e. ignores-outdeg c.args.expr.now (sym (c.holds_word.ensures ∙ outdeg-names c.args.expr.now) ∙ e)
