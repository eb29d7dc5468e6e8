use Rattle.vertex_items.specs.GivenLaws.{input-gives-next}
use Rattle.vertex_items.proofs.laws.input_gives_next.Goals as goal

pub returns : goal.returns
returns c = input-gives-next
