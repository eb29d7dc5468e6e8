use Rattle.phase_flow.specs.PhaseLaws.{loop-is-phases}
use Rattle.phase_flow.proofs.laws.loop_is_phases.Goals as goal

pub returns : goal.returns
returns c = loop-is-phases
