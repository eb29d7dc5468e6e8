-- The run of the reduce inside a loop.
use Rattle.std.specs.Prelude.{◌≡◌, ℕ, zero, suc, ◌+◌, ◌*◌, ◌<◌, Bool, IsTrue, List, [], ◌∷◌, ◌++◌, take, drop}
use Rattle.std.specs.List.{sum}
use Rattle.std.specs.declared.cmp.Ordering.{Ordering}
use Rattle.lattice_time.specs.declared.pair.Pair.{Pair}
use Rattle.lattice_time.specs.declared.round.Round.{Round}
use Rattle.weighted.specs.Alike.{Alike}
use Rattle.weighted.specs.Batches.{IsBatch}
use Rattle.trace_store.specs.Traces.{in_turn}
use Rattle.flow_core.specs.Runs.{Step, Run, Every, NoneBelow, fed_to, made_to, times_of, charges_of}
use Rattle.reduce_theory.specs.Evaluated.{EachCharged, charged}
use Rattle.loop_theory.specs.declared.input.LoopInput.{LoopInput}
use Rattle.loop_theory.specs.Inputs.{fixed, as_moving}
use Rattle.loop_theory.specs.Loops.{after_rounds, pair_leq, pair_lub, pair_of}

-- what holds of the run of a reduce behind a part that charges nothing: it takes its steps with the whole, makes what the whole
-- makes, was fed what the part makes of what the whole was fed, each step is charged what the whole's is, the keys that are
-- evaluated at it, and these are all that is charged
pub record BodyInside {T I K V O : Type 0} (leq : T → T → Bool) (lub : T → T → T) (tcmp : T → T → Ordering) (kcmp : K → K → Ordering) (vcmp : V → V → Ordering) (items : List (I × ℕ) → List ((K × V) × ℕ)) (seal : T) (due : List T) (charge : ℕ) (run : Run T I (K × O)) : Type 0 where
  pub inner : Run T (K × V) (K × O)
  pub times : times_of inner.steps ≡ times_of run.steps
  pub made : (t : T) → made_to leq run.steps t ≡ made_to leq inner.steps t
  pub before : inner.before ≡ run.before
  pub base : inner.base ≡ run.base
  pub fed : (t : T) → IsTrue (leq seal t) → NoneBelow leq t due → Alike (fed_to leq inner.steps t) (items (fed_to leq run.steps t))
  pub batches : Every (λ s. IsBatch (in_turn kcmp vcmp) s.fed) inner.steps
  pub charges : charges_of inner.steps ≡ charges_of run.steps
  pub each : EachCharged leq lub tcmp kcmp vcmp seal (take inner.before inner.steps) [] (drop inner.before inner.steps)
  pub charged_is : charge ≡ inner.base + charged leq lub tcmp kcmp vcmp seal (take inner.before inner.steps) [] (drop inner.before inner.steps)

-- ---- inside a loop

-- the rounds of an outer time, from one on
abbrev pub rounds_from : {T : Type 0} → T → ℕ → ℕ → List (Pair T Round)
rounds_from t k zero = []
rounds_from t k (suc n) = pair_of t k ∷ rounds_from t (suc k) n

-- so many rounds of each outer time
abbrev pub all_rounds : {T : Type 0} → ℕ → List T → List (Pair T Round)
all_rounds n [] = []
all_rounds n (t ∷ ts) = rounds_from t 0 n ++ all_rounds n ts

-- each number is the sum of so many of the parts, in their order
abbrev pub AreSums : ℕ → List ℕ → List ℕ → Type 0
AreSums n [] parts = Unit {0}
AreSums n (c ∷ cs) parts = (c ≡ sum (take n parts)) × AreSums n cs (drop n parts)

-- the run of the reduce at the end of a loop's body, where a part before the loop and one before the reduce charge nothing: one
-- step a round of each step; in each round of a time at which nothing is due it was fed the items of what that many
-- applications give; each step of the whole is charged what its rounds are, each of these since the seal the keys that are
-- evaluated at it, and these are all that is charged; a seal of the whole seals it at round 0
pub record LoopInside {T In F K V O : Type 0} (leq : T → T → Bool) (lub : T → T → T) (pcmp : Pair T Round → Pair T Round → Ordering) (kcmp : K → K → Ordering) (vcmp : V → V → Ordering) (prep : List (In × ℕ) → List (LoopInput F (K × O) × ℕ)) (items : List (LoopInput F (K × O) × ℕ) → List ((K × V) × ℕ)) (body : List (LoopInput F (K × O) × ℕ) → List ((K × O) × ℕ)) (rounds : ℕ) (seal : T) (due : List T) (charge : ℕ) (run : Run T In (Round × (K × O))) : Type 0 where
  pub inner : Run (Pair T Round) (K × V) (K × O)
  pub times : times_of inner.steps ≡ all_rounds rounds (times_of run.steps)
  pub before : inner.before ≡ run.before * rounds
  pub base : inner.base ≡ run.base
  pub fed : (t : T) (r : ℕ) → r < rounds → IsTrue (leq seal t) → NoneBelow leq t due → Alike (fed_to (pair_leq leq) inner.steps (pair_of t r)) (items (fixed (prep (fed_to leq run.steps t)) ++ as_moving (after_rounds body (prep (fed_to leq run.steps t)) r)))
  pub batches : Every (λ s. IsBatch (in_turn kcmp vcmp) s.fed) inner.steps
  pub charges : AreSums rounds (charges_of run.steps) (charges_of inner.steps)
  pub each : EachCharged (pair_leq leq) (pair_lub lub) pcmp kcmp vcmp (pair_of seal 0) (take inner.before inner.steps) [] (drop inner.before inner.steps)
  pub charged_is : charge ≡ inner.base + charged (pair_leq leq) (pair_lub lub) pcmp kcmp vcmp (pair_of seal 0) (take inner.before inner.steps) [] (drop inner.before inner.steps)
