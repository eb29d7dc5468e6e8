-- The arcs of each tail, as they stand in the loop.
use Rattle.std.proofs.Common.{◌∙◌, ap}
use Rattle.reduce_theory.specs.ByKey.{reduce_apply}
use Rattle.view_items.specs.Prepared.{degrees}
use Rattle.vertex_flow.proofs.Functions.{chain_is}
use Rattle.vertex_flow.proofs.prep.told_of.Goals as goal

pub returns-clause-apply : goal.returns-clause-apply
returns-clause-apply g c = chain_is _ _ _ _ _ c.new-2.ensures.apply (c.new-degrees.ensures.apply ∙ ap (reduce_apply _ _) (c.new.ensures ∙ ap degrees c.names_outdeg.ensures.answer)) c.new-arcs.ensures.apply
