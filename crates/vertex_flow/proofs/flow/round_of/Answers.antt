-- The items of each node, and what is made of them.
use Rattle.std.proofs.Common.{◌∙◌, ap}
use Rattle.reduce_theory.specs.ByKey.{reduce_apply}
use Rattle.vertex_flow.proofs.Functions.{chain_is, pair_is}
use Rattle.vertex_flow.proofs.flow.round_of.Goals as goal

pub returns-clause-apply : goal.returns-clause-apply
returns-clause-apply g c = chain_is _ _ _ _ _ c.body_of.ensures.apply c.items_of-items.ensures.apply (c.new-reduce.ensures.apply ∙ ap (reduce_apply _ _) c.new-update.ensures.gives)

pub returns-clause-kept : goal.returns-clause-kept
returns-clause-kept g c = pair_is _ _ _ _ _ c.body_of.ensures.kept c.items_of-items.ensures.apply (c.new-reduce.ensures.kept ∙ ap (reduce_apply _ _) c.new-update.ensures.gives)
