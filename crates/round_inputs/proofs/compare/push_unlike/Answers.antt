use Rattle.std.proofs.Common.{refl}
use Rattle.change_lists.specs.ValueLaws.{same-told}
use Rattle.round_inputs.proofs.Leftovers.{left-other, left-same}
use Rattle.round_inputs.proofs.compare.push_unlike.Goals as goal

pub returns-in_ok-push_sent-2 : goal.returns-in_ok-push_sent-2
returns-in_ok-push_sent-2 c = λ all more had.
    left-other c.args.first.now.items c.args.second.now.items all more c.push_sent.new.messages.items c.push_sent-then-is_other.new.messages.items c.args.here c.args.there c.in_ok-push_sent.ensures c.in_ok-push_sent-2.ensures had

pub returns-else-is_other : goal.returns-else-is_other
returns-else-is_other c = λ all more had.
    let first = c.args.first.now.items in
    let second = c.args.second.now.items in
    left-same first second all more first second c.args.here c.args.there refl refl (same-told _ c.args.here c.args.there c.is_other.ensures c.if-is_other.false) had
