use Rattle.std.proofs.Common.{arith}
use Rattle.round_messages.specs.SendingLaws.{one-sent}
use Rattle.round_messages.proofs.sending.change_one.Goals as goal

pub send_by-message-requires-clause-tail : goal.send_by-message-requires-clause-tail
send_by-message-requires-clause-tail c = omega (arith, c.requires.node, c.requires.size)

pub send_by-message-requires-clause-outdeg : goal.send_by-message-requires-clause-outdeg
send_by-message-requires-clause-outdeg c = c.requires.sender.small c.args.change.node.0 (omega (arith, c.requires.node, c.requires.size))

pub send_by-message-requires-clause-edge : goal.send_by-message-requires-clause-edge
send_by-message-requires-clause-edge c = (c.requires.keeps c.if-not-alike.false).1

pub put-requires : goal.put-requires
put-requires c = omega (arith, c.requires.node, c.requires.size, (c.requires.sent c.if-not-alike.false).0)

pub returns-clause-sent : goal.returns-clause-sent
returns-clause-sent c =
    let p = c.args.sender.now.program.now in
    let graph = c.args.sender.now.graph.now in
    let n = c.args.change.node.0 in
    one-sent p graph c.args.sender.now.degrees.now c.args.now.now c.args.alike c.put.result c.args.sent.now c.put.new.sent n 0 c.args.change.value c.send_by-message.result c.requires.size (omega (arith, c.requires.node, c.requires.size)) c.requires.keeps c.if-not-alike.false c.send_by-message.ensures.message c.put.ensures c.requires.sent

pub returns-clause-only : goal.returns-clause-only
returns-clause-only c = λ e. c.if-not-alike.false
