-- What is kept of the arcs of a view and of the values of a round, so that a node's messages are found fast.
use Rattle.std.specs.Prelude.{ℕ}
use Rattle.vertex_lang.specs.Expressions.{Answer}
use Rattle.round_inputs.specs.declared.source.MessageSource.{MessageSource}
use Rattle.round_kernel.specs.declared.frame.Frame.{Frame}
use Rattle.round_inputs.specs.Sources.{IsSource}

-- the same of a step
abbrev pub StandsSource : Answer → Frame → ℕ → MessageSource → Type 0
StandsSource answer f r source = IsSource answer f.program.now f.graph.now f.rows.now.by_head f.new.now r source
