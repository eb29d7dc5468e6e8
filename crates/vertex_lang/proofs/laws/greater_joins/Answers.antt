use Rattle.vertex_lang.specs.GatherLaws.{greater-comm, greater-assoc, greater-swaps}
use Rattle.vertex_lang.proofs.laws.greater_joins.Goals as goal

pub returns : goal.returns
returns c = record { turned = greater-comm; grouped = greater-assoc; swapped = greater-swaps }
