-- What comes into the loop, and its rounds.
use Rattle.std.proofs.Common.{ap, sym}
use Rattle.loop_theory.specs.Loops.{loop_apply}
use Rattle.vertex_flow.proofs.Functions.{chain_is, pair_is}
use Rattle.vertex_flow.proofs.flow.start_flow.Goals as goal

pub returns-clause-apply : goal.returns-clause-apply
returns-clause-apply g c = chain_is _ _ _ _ _ c.loop_of.ensures.apply c.start_prep-prep.ensures.apply (ap (λ f. loop_apply f c.args.rounds) c.round_of-body.ensures.apply)

pub returns-clause-kept : goal.returns-clause-kept
returns-clause-kept g c = sym (pair_is _ _ _ _ _ c.loop_of.ensures.kept c.start_prep-prep.ensures.apply (ap (λ k. (k, c.args.rounds)) c.round_of-body.ensures.kept))
