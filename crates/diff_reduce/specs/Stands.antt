-- For which runs a reduce stands.
use Rattle.std.specs.Prelude.{ℕ, ◌⊎◌, Bool, List, [], ◌∷◌, ◌++◌, map}
use Rattle.std.specs.declared.cmp.Ordering.{Ordering}
use Rattle.weighted.specs.Alike.{Alike}
use Rattle.weighted.specs.Batches.{IsBatch}
use Rattle.weighted.specs.WordLaws.{mapped}
use Rattle.trace_store.specs.Traces.{IsTimeOf, accumulated, at_time, in_turn, trace_cmp, values_of}
use Rattle.flow_core.specs.Runs.{Run, Every, Member, fed_of, made_of}
use Rattle.reduce_theory.specs.Kept.{Store, Keeps}

-- what a reduce holds: the traces of what it was fed and made, for each key the times since the seal at which it was
-- evaluated, the keys that are due at a time, the seal, and how many evaluations there were
pub record Held (K V O T : Type 0) : Type 0 where
  pub input : List (((K × V) × T) × ℕ)
  pub output : List (((K × O) × T) × ℕ)
  pub points : List (K × T)
  pub due : List (T × K)
  pub seal : T
  pub charge : ℕ

-- collections with their times, each time read as its least upper bound with the seal
abbrev pub timed : {T R : Type 0} → (T → T → T) → T → List (T × List (R × ℕ)) → List ((R × T) × ℕ)
timed lub seal [] = []
timed lub seal (e ∷ es) = mapped (at_time (lub e.0 seal)) e.1 ++ timed lub seal es

-- a time is kept as a mark of a key: an entry of the input has it, or the key was evaluated there
abbrev pub IsKept : {K V T : Type 0} → (T → T → Ordering) → (K → K → Ordering) → (V → V → Ordering) → List (((K × V) × T) × ℕ) → List (K × T) → K → T → Type 0
IsKept tcmp kcmp vcmp input points k x = IsTimeOf (trace_cmp kcmp vcmp tcmp) input k x ⊎ Member (k, x) points

-- the times that are due
abbrev pub due_times : {T K : Type 0} → List (T × K) → List T
due_times due = map (λ d. d.0) due

-- what it holds as the relations of which the theory of reduces speaks: the words of a key at a time are what the traces
-- accumulate to there, and a time is one of a key's where an entry of the input has it
abbrev pub store_of : {K V O T : Type 0} → (T → T → Bool) → (T → T → Ordering) → (K → K → Ordering) → (V → V → Ordering) → Held K V O T → Store K V O T
store_of leq tcmp kcmp vcmp held = record {
  Fed = λ k t ws. Alike ws (values_of kcmp k (accumulated leq t held.input));
  Made = λ k t ws. Alike ws (values_of kcmp k (accumulated leq t held.output));
  Time = λ k u. IsTimeOf (trace_cmp kcmp vcmp tcmp) held.input k u;
  Point = λ k a. Member (k, a) held.points;
  Due = λ k d. Member (d, k) held.due;
  seal = held.seal;
  charge = held.charge;
}

pub record Stands {K V O T : Type 0} (leq : T → T → Bool) (lub : T → T → T) (tcmp : T → T → Ordering) (kcmp : K → K → Ordering) (vcmp : V → V → Ordering) (gives : K → List (V × ℕ) → List (O × ℕ)) (held : Held K V O T) (run : Run T (K × V) (K × O)) : Type 0 where
  -- each step was fed a batch
  pub batches : Every (λ s. IsBatch (in_turn kcmp vcmp) s.fed) run.steps
  -- the traces hold what was fed and made
  pub input : Alike held.input (timed lub held.seal (fed_of run.steps))
  pub output : Alike held.output (timed lub held.seal (made_of run.steps))
  -- so it keeps the run
  pub keeps : Keeps leq lub tcmp kcmp vcmp gives (store_of leq tcmp kcmp vcmp held) run
