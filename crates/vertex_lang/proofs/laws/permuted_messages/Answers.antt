use Rattle.vertex_lang.specs.GatherLaws.{permuted-messages}
use Rattle.vertex_lang.proofs.laws.permuted_messages.Goals as goal

pub returns : goal.returns
returns c = permuted-messages
