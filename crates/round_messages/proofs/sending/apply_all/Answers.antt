use Rattle.round_messages.proofs.Messages.{messages-sent}
use Rattle.round_messages.proofs.sending.apply_all.Goals as goal

pub follow-requires-clause-messages : goal.follow-requires-clause-messages
follow-requires-clause-messages c =
    messages-sent c.args.sender.now.program.now c.args.sender.now.graph.now c.args.sender.now.degrees.now c.in-Some.added (c.in-Some.ensures c.args.sender.now.program.now c.form_of-form.ensures) c.args.now.now c.args.sent.now c.requires.size
    (λ e. c.requires.sent c.if-alike.true)
