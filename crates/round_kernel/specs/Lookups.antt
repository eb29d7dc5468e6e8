-- What makes the visits of a round fast says what it should.
use Rattle.std.specs.Prelude.{ℕ, Bool, List}
use Rattle.graph_model.specs.GraphData.{GraphData}
use Rattle.vertex_lang.specs.declared.arc.Arc.{Arc}
use Rattle.vertex_lang.specs.declared.program.Program.{Program}
use Rattle.vertex_lang.specs.Expressions.{Answer}
use Rattle.round_kernel.specs.declared.lookups.Lookups.{Lookups}
use Rattle.round_kernel.specs.declared.frame.Frame.{Frame}
use Rattle.round_inputs.specs.Sources.{IsSource}
use Rattle.round_kernel.specs.Suspects.{AreSuspects}

pub record AreLookups (answer : Answer) (p : Program) (graph : GraphData) (all : List Arc) (first : Bool) (old new : List Bool) (r : ℕ) (lookups : Lookups) : Type 0 where
  pub source : IsSource answer p graph all new r lookups.source
  pub suspects : AreSuspects answer p graph all first old new r lookups.suspects

-- the same of a step
abbrev pub StandLookups : Answer → Frame → ℕ → Lookups → Type 0
StandLookups answer f r lookups = AreLookups answer f.program.now f.graph.now f.rows.now.by_head f.first f.old.now f.new.now r lookups
