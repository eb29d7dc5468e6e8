-- What begins goes past the arcs.
use Rattle.flow_core.specs.Expanded.{expanded}
use Rattle.vertex_flow.proofs.Functions.{bypass_is}
use Rattle.vertex_flow.proofs.prep.prep_of.Goals as goal

pub returns-clause-apply : goal.returns-clause-apply
returns-clause-apply g c = bypass_is (expanded (g.B.Expand.gives c.args.begins)) (expanded (g.E.Expand.gives c.args.tails)) _ _ _ c.new.ensures.apply c.told_of-told.ensures.apply
