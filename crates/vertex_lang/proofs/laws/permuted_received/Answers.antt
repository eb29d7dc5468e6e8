use Rattle.vertex_lang.specs.MessageLaws.{received-permuted}
use Rattle.vertex_lang.proofs.laws.permuted_received.Goals as goal

pub returns : goal.returns
returns c = received-permuted
