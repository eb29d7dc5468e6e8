-- The last round of a collection of records at rounds.
use Rattle.std.specs.Prelude.{◌≡◌, ℕ, ◌≤◌, List}
use Rattle.lattice_time.specs.declared.round.Round.{Round}
use Rattle.flow_core.specs.Runs.{Every, Member}

-- each record is at this round or before it, and one is at it
pub record IsLastRound {X : Type 0} (r : Round) (es : List ((Round × X) × ℕ)) : Type 0 where
  pub within : Every (λ e. e.0.0.0 ≤ r.0) es
  pub reached : (e : (Round × X) × ℕ) × Member e es × (e.0.0 ≡ r)
