-- What comes into the loop, and its phases.
use Rattle.std.proofs.Common.{ap}
use Rattle.loop_theory.specs.Loops.{loop_apply}
use Rattle.phase_flow.proofs.Functions.{chain_is}
use Rattle.phase_flow.proofs.flow.phases_over.Goals as goal

pub returns-clause-apply : goal.returns-clause-apply
returns-clause-apply g c = chain_is _ _ _ _ _ c.loop_of.ensures.apply c.new-prep.ensures.apply (ap (λ f. loop_apply f c.args.phases) c.phase_of-body.ensures.apply)
