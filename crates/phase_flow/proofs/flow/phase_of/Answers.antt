-- What a phase begins with, its rounds, and what they come to.
use Rattle.std.proofs.Common.{◌∙◌, ℕ, ap, refl}
use Rattle.flow_core.specs.Expanded.{expanded}
use Rattle.phase_flow.specs.Items.{ends}
use Rattle.phase_flow.proofs.Functions.{chain_is}
use Rattle.phase_flow.proofs.flow.phase_of.Goals as goal

pub returns-clause-apply : goal.returns-clause-apply
returns-clause-apply g c = chain_is _ _ _ _ _ c.new-2.ensures.apply c.new-begins.ensures.apply (chain_is _ _ _ _ _ c.new-ended.ensures.apply refl (c.new-ends.ensures.apply ∙ ap (λ (n : ℕ). expanded (ends n)) c.new.ensures))
