-- What a run has done before and behind its turns.
use Rattle.std.proofs.Common.{◌≡◌, ◌∙◌, ◌+◌, List, ℕ, refl, sym, ap, arith}
use Rattle.std.specs.Prelude.{sum_by}
use Rattle.view_segment.specs.declared.segment.Segment.{Segment}
use Rattle.view_engine.specs.declared.engine.Engine.{Engine}
use Rattle.view_engine.specs.Engines.{segments_in}
use Rattle.view_turns.specs.Turns.{done}

-- engines with the same segments have done as much
pub rested : (old new : Engine) → segments_in new ≡ segments_in old → done new ≡ done old
rested old new e = ap (λ (ss : List Segment). sum_by (λ s. sum_by (λ n. n) s.works) ss) e

-- what was called in the turns of an engine that had done nothing, is what is done when it rests
pub first_calls : (fresh turned now : Engine) (before after : ℕ) → after + done fresh ≡ before + done turned → done fresh ≡ 0 → segments_in now ≡ segments_in turned → after ≡ before + done now
first_calls fresh turned now before after calls none same = omega (arith, calls, none, rested turned now same)

-- the same of one that had done what an older one did
pub more_calls : (old longer turned now : Engine) (before after : ℕ) → after + done longer ≡ before + done turned → done longer ≡ done old → segments_in now ≡ segments_in turned → after + done old ≡ before + done now
more_calls old longer turned now before after calls so_far same = omega (arith, calls, so_far, rested turned now same)
