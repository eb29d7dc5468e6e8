use Rattle.work_theory.specs.ViewLaws.{only-nodes-are-evaluated}
use Rattle.work_theory.proofs.laws.only_nodes_are_evaluated.Goals as goal

pub returns : goal.returns
returns g c = only-nodes-are-evaluated g.T.Time.leq g.T.Time.lub g.met.T.Time.lattice
