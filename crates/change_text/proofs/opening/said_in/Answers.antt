use Rattle.std.proofs.Common.{codes}
use Rattle.change_text.proofs.Split.{other_text}
use Rattle.change_text.proofs.Lines.{no_blank, said_by}
use Rattle.change_text.proofs.opening.said_in.Goals as goal

pub returns-in_default : goal.returns-in_default
returns-in_default c = no_blank c.args.bytes.now c.in_default.ensures

pub returns : goal.returns
returns c =
    said_by c.args.bytes.now c.in-Some.front.now c.in-Some.last.now c.shown_in.result c.in-Some.ensures
    (other_text c.in-Some.last.now c.as_slice.result.now (codes "unsettled") c.if-eq.ensures c.as_slice.ensures) c.shown_in.ensures
