-- How a run ends, and the values at its end.
use Rattle.std.specs.Prelude.{◌≡◌, ℕ, List, []}
use Rattle.graph_model.specs.declared.value.Val.{Val}
use Rattle.vertex_lang.specs.declared.lone.Lone.{Lone}
use Rattle.vertex_lang.specs.declared.lone.Outcome.{Outcome}
use Rattle.vertex_lang.specs.declared.lone.Outcome.TheVariants as outcome
use Rattle.vertex_lang.specs.declared.lone.Rounds.{Rounds}
use Rattle.vertex_lang.specs.declared.lone.Rounds.TheVariants as rounds
use Rattle.vertex_lang.specs.Lone.{SettlesAt, NeverSettles}

-- at most n rounds, and the values at the end
abbrev pub RunsWithin : (ℕ → List Val) → ℕ → Outcome → List Val → Type 0
RunsWithin values n (outcome.Settled r) last = SettlesAt values n r × (last ≡ values r)
RunsWithin values n (outcome.After r) last = ⊥
RunsWithin values n (outcome.Phases r) last = ⊥
RunsWithin values n outcome.Unsettled last = NeverSettles values n × (last ≡ values n)

abbrev pub RunsTo : (ℕ → List Val) → Rounds → Outcome → List Val → Type 0
RunsTo values (rounds.Within n) o last = RunsWithin values n o last
RunsTo values (rounds.For n) o last = (o ≡ outcome.After n) × (last ≡ values n)

-- the answer with this outcome, where the run ended with these values
abbrev pub told : Outcome → List Val → Lone
told (outcome.Settled r) last = record { outcome = outcome.Settled r; values = last }
told (outcome.After r) last = record { outcome = outcome.After r; values = last }
told (outcome.Phases r) last = record { outcome = outcome.Phases r; values = last }
told outcome.Unsettled last = record { outcome = outcome.Unsettled; values = [] }
