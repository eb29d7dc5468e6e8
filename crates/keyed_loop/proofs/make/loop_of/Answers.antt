-- The loop's function of what the part makes.
use Rattle.keyed_loop.proofs.Chains.{chain_is, pair_is}
use Rattle.keyed_loop.proofs.make.loop_of.Goals as goal

pub returns-clause-apply : goal.returns-clause-apply
returns-clause-apply g c = chain_is _ _ _ _ _ c.new.ensures.apply c.new-quiet.ensures.apply c.new-looped.ensures.apply

pub returns-clause-kept : goal.returns-clause-kept
returns-clause-kept g c = pair_is _ _ _ _ _ c.new.ensures.kept c.new-quiet.ensures.kept c.new-looped.ensures.kept
