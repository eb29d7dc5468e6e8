-- What the code tells of a number of rounds by how they ended. No public contract cites this file.
use Rattle.std.specs.Prelude.{ℕ, Bool, true, ◌==◌}
use Rattle.vertex_lang.specs.declared.lone.Outcome.{Outcome}
use Rattle.vertex_lang.specs.declared.lone.Outcome.TheVariants as outcome

-- where each of n rounds changed something the last one did, unless there is none
abbrev pub tells_quiet : Outcome → (n : ℕ) → Bool
tells_quiet (outcome.Settled r) n = true
tells_quiet (outcome.After r) n = true
tells_quiet (outcome.Phases r) n = true
tells_quiet outcome.Unsettled n = n == 0
