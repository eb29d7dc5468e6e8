use Rattle.vertex_lang.specs.MessageLaws.{messages-sum}
use Rattle.vertex_lang.proofs.laws.messages_sum.Goals as goal

pub returns : goal.returns
returns g c = λ same f x h arcs v. messages-sum same f x h arcs v
