use Rattle.vertex_lang.specs.GatherLaws.{lesser-comm, lesser-assoc, lesser-swaps}
use Rattle.vertex_lang.proofs.laws.lesser_joins.Goals as goal

pub returns : goal.returns
returns c = record { turned = lesser-comm; grouped = lesser-assoc; swapped = lesser-swaps }
