use Rattle.std.proofs.Common.{◌∙◌, sym}
use Rattle.vertex_lang.specs.LowestGiven.{lowest_given}
use Rattle.vertex_lang.proofs.updater.eval.Goals as goal

pub returns-clause-lowest : goal.returns-clause-lowest
returns-clause-lowest g c = λ e. lowest_given c.args.program.now c.args.id c.args.start c.args.value c.args.gathered c.args.count (sym c.evaluate.ensures ∙ e)
