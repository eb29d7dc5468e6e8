-- The answer of a plain run.
use Rattle.std.specs.Prelude.{◌≡◌, ◌≢◌, ℕ, zero, suc, ◌+◌, ◌<◌, Bool, true, false, ◌&&◌, if◌then◌else◌, List, [], ◌∷◌, Option, Some, None, length}
use Rattle.std.specs.Ordering.{int_eq}
use Rattle.graph_model.specs.declared.value.Val.{Val}
use Rattle.graph_model.specs.declared.value.Val.TheVariants.{Nil, Num}
use Rattle.graph_model.specs.GraphData.{GraphData}
use Rattle.vertex_lang.specs.declared.arc.Arc.{Arc}
use Rattle.vertex_lang.specs.declared.program.Program.{Program}
use Rattle.vertex_lang.specs.declared.lone.Rounds.{Rounds}
use Rattle.vertex_lang.specs.declared.lone.Rounds.TheVariants as rounds
use Rattle.vertex_lang.specs.declared.lone.Outcome.{Outcome}
use Rattle.vertex_lang.specs.declared.lone.Outcome.TheVariants as outcome
use Rattle.vertex_lang.specs.declared.lone.Lone.{Lone}
use Rattle.vertex_lang.specs.Expressions.{Answer}
use Rattle.vertex_lang.specs.Rounds.{lone}

-- how many rounds are allowed, or asked for
abbrev pub number_of : Rounds → ℕ
number_of (rounds.Within n) = n
number_of (rounds.For n) = n

-- ---- as a function

abbrev pub same_value : Val → Val → Bool
same_value Nil Nil = true
same_value Nil (Num b) = false
same_value (Num a) Nil = false
same_value (Num a) (Num b) = int_eq a b

abbrev pub same_values : List Val → List Val → Bool
same_values [] [] = true
same_values [] (y ∷ ys) = false
same_values (x ∷ xs) [] = false
same_values (x ∷ xs) (y ∷ ys) = same_value x y && same_values xs ys

-- the first of so many rounds, from r on, after which nothing changes
unfoldable pub first_settled : (ℕ → List Val) → ℕ → ℕ → Option ℕ
first_settled values zero r = None
first_settled values (suc n) r = if same_values (values (suc r)) (values r) then Some r else first_settled values n (suc r)

abbrev pub settled_at : (ℕ → List Val) → Option ℕ → Lone
settled_at values None = record { outcome = outcome.Unsettled; values = [] }
settled_at values (Some r) = record { outcome = outcome.Settled r; values = values r }

-- the answer of a run, given the values after each round
abbrev pub answer_from : (ℕ → List Val) → Rounds → Lone
answer_from values (rounds.Within n) = settled_at values (first_settled values n 0)
answer_from values (rounds.For n) = record { outcome = outcome.After n; values = values n }

-- the answer of the plain run of a program over these arcs
abbrev pub answer_of : Answer → Program → GraphData → List Arc → Rounds → Lone
answer_of answer p graph arcs limit = answer_from (lone answer p graph arcs) limit

-- ---- the same as a relation

-- r is the first round, below n, after which nothing changes
pub record SettlesAt (values : ℕ → List Val) (n r : ℕ) : Type 0 where
  pub within : r < n
  pub settled : values (r + 1) ≡ values r
  pub first : (k : ℕ) → k < r → values (k + 1) ≢ values k

-- each of the first n rounds changes something
abbrev pub NeverSettles : (ℕ → List Val) → ℕ → Type 0
NeverSettles values n = (k : ℕ) → k < n → values (k + 1) ≢ values k

-- the outcome of at most n rounds
abbrev pub OutcomeIs : (ℕ → List Val) → ℕ → Outcome → List Val → Type 0
OutcomeIs values n (outcome.Settled r) last = SettlesAt values n r × (last ≡ values r)
OutcomeIs values n (outcome.After r) last = ⊥
OutcomeIs values n (outcome.Phases r) last = ⊥
OutcomeIs values n outcome.Unsettled last = NeverSettles values n × (last ≡ [])

-- the outcome of exactly n rounds
abbrev pub IsAfter : (ℕ → List Val) → ℕ → Lone → Type 0
IsAfter values n l = (l.outcome ≡ outcome.After n) × (l.values ≡ values n)

abbrev pub IsAnswerFrom : (ℕ → List Val) → Rounds → Lone → Type 0
IsAnswerFrom values (rounds.Within n) l = OutcomeIs values n l.outcome l.values
IsAnswerFrom values (rounds.For n) l = IsAfter values n l

abbrev pub IsAnswer : Answer → Program → GraphData → List Arc → Rounds → Lone → Type 0
IsAnswer answer p graph arcs limit l = IsAnswerFrom (lone answer p graph arcs) limit l

-- ---- its rounds

-- how many rounds were gone through, of at most or exactly so many: one more than those after which it settled, since the
-- last one changed nothing; a plain run goes through no phases
abbrev pub rounds_run : ℕ → Outcome → ℕ
rounds_run n (outcome.Settled r) = r + 1
rounds_run n (outcome.After r) = r
rounds_run n (outcome.Phases r) = 0
rounds_run n outcome.Unsettled = n

-- ---- its size

-- where the run settled, or went through all its rounds or phases, there is a value for each node
abbrev pub HasAllValuesAt : GraphData → Outcome → List Val → Type 0
HasAllValuesAt graph (outcome.Settled r) last = length last ≡ length graph.ids
HasAllValuesAt graph (outcome.After r) last = length last ≡ length graph.ids
HasAllValuesAt graph (outcome.Phases r) last = length last ≡ length graph.ids
HasAllValuesAt graph outcome.Unsettled last = Unit {0}

abbrev pub HasAllValues : GraphData → Lone → Type 0
HasAllValues graph l = HasAllValuesAt graph l.outcome l.values
