use Rattle.std.proofs.Common.{◌∙◌, arith}
use Rattle.round_messages.proofs.side.send_along.Goals as goal

pub kept-requires : goal.kept-requires
kept-requires c = omega (arith, (c.requires.side.sent c.if-side.true).0, c.requires.arc.tail)

pub returns-then-side : goal.returns-then-side
returns-then-side c = c.kept.ensures ∙ (c.requires.side.sent c.if-side.true).1 _ _ c.requires.arc.tail
