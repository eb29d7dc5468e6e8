use Rattle.std.proofs.Common.{refl}
use Rattle.graph_algos.specs.Wcc.{wcc}
use Rattle.graph_algos.specs.WccLaws.{wcc_checked}
use Rattle.graph_algos.proofs.SameParts.{same_parts}
use Rattle.graph_algos.proofs.component.wcc.Goals as goal

pub returns-clause-checked : goal.returns-clause-checked
returns-clause-checked c = λ graph. same_parts wcc graph _ _ _ _ _ refl refl c.in_ok-least_so_far.ensures (wcc_checked graph)
