use Rattle.std.proofs.Common.{◌∙◌, sym}
use Rattle.vertex_lang.proofs.Repeats.{extreme_repeated}
use Rattle.vertex_lang.proofs.mail.join_many.Goals as goal

pub returns-then-times-gt0 : goal.returns-then-times-gt0
returns-then-times-gt0 c = c.join.ensures ∙ sym (extreme_repeated c.args.kind c.args.times c.args.extreme c.args.message c.if-times-gt0.true)
