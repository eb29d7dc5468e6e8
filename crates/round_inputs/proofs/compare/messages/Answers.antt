use Rattle.round_inputs.proofs.compare.messages.Goals as goal

pub message-requires-2-clause-side : goal.message-requires-2-clause-side
message-requires-2-clause-side c = record { sized = c.requires.rounds.right; sent = c.requires.right_sent }
