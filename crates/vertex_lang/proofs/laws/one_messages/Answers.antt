use Rattle.vertex_lang.specs.GatherLaws.{gathered-one, length-one}
use Rattle.vertex_lang.proofs.laws.one_messages.Goals as goal

pub returns : goal.returns
returns c = λ kind ms ns s. (gathered-one kind ms ns s, length-one ms ns s)
