-- Loops: what a body that is applied again and again gives, the steps that it takes, and the runs of a loop.
use Rattle.std.specs.Prelude.{◌≡◌, ℕ, ◌+◌, ◌*◌, ◌≤◌, ◌&&◌, nat_le, max, Bool, false, List, [], ◌∷◌, ◌++◌, length, map}
use Rattle.std.proofs.Common.{zero, suc}
use Rattle.lattice_time.specs.declared.pair.Pair.{Pair}
use Rattle.lattice_time.specs.declared.round.Round.{Round}
use Rattle.weighted.specs.Alike.{Alike, negated}
use Rattle.weighted.specs.WordLaws.{mapped}
use Rattle.flow_core.specs.Runs.{Step, Run, Every}
use Rattle.loop_theory.specs.declared.input.LoopInput.{LoopInput}
use Rattle.loop_theory.specs.Inputs.{fixed, moving, as_moving}

-- ---- what a loop means

-- the collection after so many applications of the body: each is given the fixed part, and what the one before gave
abbrev pub after_rounds : {F X : Type 0} → (List (LoopInput F X × ℕ) → List (X × ℕ)) → List (LoopInput F X × ℕ) → ℕ → List (X × ℕ)
after_rounds body input zero = moving input
after_rounds body input (suc q) = body (fixed input ++ as_moving (after_rounds body input q))

-- a record at a round
abbrev pub in_round : {X : Type 0} → ℕ → X → Round × X
in_round q x = (record { 0 = q }, x)

abbrev pub at_round : {X : Type 0} → ℕ → List (X × ℕ) → List ((Round × X) × ℕ)
at_round {X} q xs = mapped (in_round {X = X} q) xs

-- a collection that changes from round to round, up to a round: at round 0 what it is, at each later round what it is less
-- what it was
abbrev pub changes : {X : Type 0} → (ℕ → List (X × ℕ)) → ℕ → List ((Round × X) × ℕ)
changes come zero = at_round 0 (come 0)
changes come (suc q) = changes come q ++ at_round (suc q) (come (suc q) ++ negated (come q))

-- the function of a loop of so many rounds
abbrev pub loop_apply : {F X : Type 0} → (List (LoopInput F X × ℕ) → List (X × ℕ)) → ℕ → List (LoopInput F X × ℕ) → List ((Round × X) × ℕ)
loop_apply body rounds input = changes (after_rounds body input) rounds

-- ---- the times of the body

-- the order of pairs of an outer time and a round, and their least upper bound
abbrev pub pair_leq : {T : Type 0} → (T → T → Bool) → Pair T Round → Pair T Round → Bool
pair_leq leq s t = leq s.outer t.outer && nat_le s.inner.0 t.inner.0

abbrev pub pair_lub : {T : Type 0} → (T → T → T) → Pair T Round → Pair T Round → Pair T Round
pair_lub lub s t = record { outer = lub s.outer t.outer; inner = record { 0 = max s.inner.0 t.inner.0 } }

abbrev pub pair_of : {T : Type 0} → T → ℕ → Pair T Round
pair_of t r = record { outer = t; inner = record { 0 = r } }

-- ---- laps: the steps of the body in one step of the loop

-- what the body is fed at a round, what it makes, and what it is charged
pub record Exchange (F X : Type 0) : Type 0 where
  pub fed : List (LoopInput F X × ℕ)
  pub made : List (X × ℕ)
  pub charge : ℕ

-- each round is fed, as moving, the change that the round before made
abbrev pub FedBy : {F X : Type 0} → List (X × ℕ) → List (Exchange F X) → Type 0
FedBy change [] = Unit {0}
FedBy change (e ∷ es) = Alike e.fed (as_moving change) × FedBy e.made es

-- round 0 is fed what came in, and from what it made the moving part is taken away again
abbrev pub IsFed : {F X : Type 0} → List (LoopInput F X × ℕ) → List (Exchange F X) → Type 0
IsFed fed [] = Unit {0}
IsFed fed (e ∷ es) = Alike e.fed fed × FedBy (e.made ++ negated (moving fed)) es

-- the sum of what the first so many rounds were fed, or made
abbrev pub first_of : {E R : Type 0} → (E → List (R × ℕ)) → ℕ → List E → List (R × ℕ)
first_of part zero es = []
first_of part (suc n) [] = []
first_of part (suc n) (e ∷ es) = part e ++ first_of part n es

-- what a lap comes to at a round: at round 0 the moving part that came in, at each later round what the rounds before it made
abbrev pub came : {F X : Type 0} → List (LoopInput F X × ℕ) → List (Exchange F X) → ℕ → List (X × ℕ)
came fed taken zero = moving fed
came fed taken (suc q) = first_of (λ e. e.made) (suc q) taken

-- what they are charged together
abbrev pub charge_of : {F X : Type 0} → List (Exchange F X) → ℕ
charge_of [] = 0
charge_of (e ∷ es) = e.charge + charge_of es

-- one step of the loop: what came in, what the body was fed and made at each round, what the loop made, and what it was
-- charged
pub record Lap (T F X : Type 0) : Type 0 where
  pub time : T
  pub fed : List (LoopInput F X × ℕ)
  pub taken : List (Exchange F X)
  pub made : List ((Round × X) × ℕ)
  pub charge : ℕ

-- the body took a step at each round, and the loop made at each round the change of what the lap came to; it is charged what
-- the body is
pub record IsLap {T F X : Type 0} (rounds : ℕ) (lap : Lap T F X) : Type 0 where
  pub count : length lap.taken ≡ rounds
  pub goes : IsFed lap.fed lap.taken
  pub gives : Alike lap.made (changes (came lap.fed lap.taken) rounds)
  pub charge : lap.charge ≡ charge_of lap.taken

-- the step of the loop
abbrev pub lap_step : {T F X : Type 0} → Lap T F X → Step T (LoopInput F X) (Round × X)
lap_step l = record { time = l.time; fed = l.fed; made = l.made; charge = l.charge }

-- the steps of the body, from a round on
abbrev pub steps_from : {T F X : Type 0} → T → ℕ → List (Exchange F X) → List (Step (Pair T Round) (LoopInput F X) X)
steps_from t k [] = []
steps_from t k (e ∷ es) = record { time = pair_of t k; fed = e.fed; made = e.made; charge = e.charge } ∷ steps_from t (suc k) es

abbrev pub body_steps : {T F X : Type 0} → List (Lap T F X) → List (Step (Pair T Round) (LoopInput F X) X)
body_steps [] = []
body_steps (l ∷ ls) = steps_from l.time 0 l.taken ++ body_steps ls

-- ---- the runs of a loop

-- the body stands for the run that is made of the steps which the steps of the loop hand to it, one a round; those of the laps
-- before the last seal came before the body's last seal
pub record StandsByLaps {T F X : Type 0} (body : Run (Pair T Round) (LoopInput F X) X → Type 0) (rounds : ℕ) (run : Run T (LoopInput F X) (Round × X)) : Type 0 where
  pub laps : List (Lap T F X)
  pub steps : run.steps ≡ map lap_step laps
  pub each : Every (IsLap rounds) laps
  pub sealed : run.before ≤ length run.steps
  pub stands : body (record { steps = body_steps laps; before = run.before * rounds; base = run.base })

-- ---- a lap on its way

-- the change that the next round is fed
abbrev pub last_made : {F X : Type 0} → List (X × ℕ) → List (Exchange F X) → List (X × ℕ)
last_made change [] = change
last_made change (e ∷ es) = last_made e.made es

abbrev pub next_change : {F X : Type 0} → List (LoopInput F X × ℕ) → List (Exchange F X) → List (X × ℕ)
next_change fed [] = moving fed
next_change fed (e ∷ es) = last_made (e.made ++ negated (moving fed)) es

-- no time of the body is at an outer time at or above t
abbrev pub NoOuterAbove : {T : Type 0} → (T → T → Bool) → T → List (Pair T Round) → Type 0
NoOuterAbove leq t times = Every (λ s. leq t s.outer ≡ false) times

-- a run with more steps
abbrev pub extended : {T I O : Type 0} → Run T I O → List (Step T I O) → Run T I O
extended run steps = record { steps = run.steps ++ steps; before = run.before; base = run.base }
