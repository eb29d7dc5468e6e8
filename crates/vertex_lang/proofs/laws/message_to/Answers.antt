use Rattle.vertex_lang.specs.MessageLaws.{message-to}
use Rattle.vertex_lang.proofs.laws.message_to.Goals as goal

pub returns : goal.returns
returns c = message-to
