use Rattle.std.proofs.Common.{codes}
use Rattle.change_text.proofs.Split.{is_text, other_text}
use Rattle.change_text.proofs.Lines.{after_read, no_rounds, no_word, other_word, phases_read, settled_read}
use Rattle.change_text.proofs.opening.shown_in.Goals as goal

pub returns-in_default : goal.returns-in_default
returns-in_default c = no_rounds c.args.bytes.now c.args.front.now c.args.last.now c.requires c.in_default.ensures

pub returns-in_default-cut_last : goal.returns-in_default-cut_last
returns-in_default-cut_last c = no_word c.args.bytes.now c.args.front.now c.args.last.now c.requires c.in_default-cut_last.ensures

pub returns-then-eq : goal.returns-then-eq
returns-then-eq c =
    settled_read c.args.bytes.now c.args.front.now c.args.last.now c.in-Some-cut_last.head.now c.in-Some-cut_last.how.now c.in-Some.rounds c.requires c.in-Some.ensures c.in-Some-cut_last.ensures
    (is_text c.in-Some-cut_last.how.now c.as_slice.result.now (codes "settled") c.if-eq.ensures c.as_slice.ensures)

pub returns-then-eq-2 : goal.returns-then-eq-2
returns-then-eq-2 c =
    after_read c.args.bytes.now c.args.front.now c.args.last.now c.in-Some-cut_last.head.now c.in-Some-cut_last.how.now c.in-Some.rounds c.requires c.in-Some.ensures c.in-Some-cut_last.ensures
    (is_text c.in-Some-cut_last.how.now c.as_slice-2.result.now (codes "after") c.if-eq-2.ensures c.as_slice-2.ensures)

pub returns-then-eq-3 : goal.returns-then-eq-3
returns-then-eq-3 c =
    phases_read c.args.bytes.now c.args.front.now c.args.last.now c.in-Some-cut_last.head.now c.in-Some-cut_last.how.now c.in-Some.rounds c.requires c.in-Some.ensures c.in-Some-cut_last.ensures
    (is_text c.in-Some-cut_last.how.now c.as_slice-3.result.now (codes "phases") c.if-eq-3.ensures c.as_slice-3.ensures)

pub returns : goal.returns
returns c =
    other_word c.args.bytes.now c.args.front.now c.args.last.now c.in-Some-cut_last.head.now c.in-Some-cut_last.how.now c.requires c.in-Some-cut_last.ensures
    (other_text c.in-Some-cut_last.how.now c.as_slice.result.now (codes "settled") c.if-eq.ensures c.as_slice.ensures)
    (other_text c.in-Some-cut_last.how.now c.as_slice-2.result.now (codes "after") c.if-eq-2.ensures c.as_slice-2.ensures)
    (other_text c.in-Some-cut_last.how.now c.as_slice-3.result.now (codes "phases") c.if-eq-3.ensures c.as_slice-3.ensures)
