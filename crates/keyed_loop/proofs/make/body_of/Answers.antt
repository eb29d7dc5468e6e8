-- The operator's function of what the part makes.
use Rattle.std.proofs.Common.{ap, refl, ◌∙◌}
use Rattle.keyed_loop.proofs.Chains.{pair_is}
use Rattle.keyed_loop.proofs.make.body_of.Goals as goal

pub returns-clause-apply : goal.returns-clause-apply
returns-clause-apply g c = c.new.ensures.apply ∙ ap (λ k xs. g.R.Operator.apply c.args.reduce (k xs)) c.new-quiet.ensures.apply

pub returns-clause-kept : goal.returns-clause-kept
returns-clause-kept g c = pair_is _ _ _ _ _ c.new.ensures.kept c.new-quiet.ensures.kept refl
