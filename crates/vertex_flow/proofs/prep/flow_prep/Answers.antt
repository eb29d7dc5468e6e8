-- What begins, and the arcs by their tails.
use Rattle.vertex_flow.proofs.Functions.{prepared_by}
use Rattle.vertex_flow.proofs.prep.flow_prep.Goals as goal

pub returns-clause-apply : goal.returns-clause-apply
returns-clause-apply g c = prepared_by _ _ c.args.program.now _ _ _ _ _ c.prep_of.ensures.apply c.new.ensures c.new-2.ensures
