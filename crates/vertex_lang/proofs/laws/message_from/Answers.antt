use Rattle.vertex_lang.specs.MessageLaws.{message-from}
use Rattle.vertex_lang.proofs.laws.message_from.Goals as goal

pub returns : goal.returns
returns c = message-from
