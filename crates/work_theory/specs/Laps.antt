-- One lap of a keyed run inside a loop, and the plain runs of two views.
use Rattle.std.specs.Prelude.{◌≡◌, ℕ, zero, suc, ◌+◌, ◌%◌, ◌^◌, ◌<◌, ◌≤◌, Bool, IsTrue, List, [], ◌∷◌, ◌++◌, length}
use Rattle.std.specs.declared.cmp.Ordering.{Ordering}
use Rattle.lattice_time.specs.declared.pair.Pair.{Pair}
use Rattle.lattice_time.specs.declared.round.Round.{Round}
use Rattle.weighted.specs.Words.{word}
use Rattle.weighted.specs.Alike.{Alike}
use Rattle.flow_core.specs.Runs.{Step, Every, Member, fed_to}
use Rattle.reduce_theory.specs.Evaluated.{key_part}
use Rattle.loop_theory.specs.Loops.{pair_leq, pair_of}
use Rattle.lone_work.specs.Items.{Item}
use Rattle.work_theory.specs.Once.{once}

-- what a run was fed, and made, in one round of a lap, and what it was charged
pub record Turn (V O : Type 0) : Type 0 where
  pub fed : List (V × ℕ)
  pub made : List (O × ℕ)
  pub charge : ℕ

-- the steps of a lap at an outer time, from a round on
abbrev pub lap_steps : {T V O : Type 0} → T → ℕ → List (Turn V O) → List (Step (Pair T Round) V O)
lap_steps t k [] = []
lap_steps t k (x ∷ lap) = record { time = pair_of t k; fed = x.fed; made = x.made; charge = x.charge } ∷ lap_steps t (suc k) lap

-- what a round was fed
abbrev pub fed_in : {V O : Type 0} → List (Turn V O) → ℕ → List (V × ℕ)
fed_in [] r = []
fed_in (x ∷ lap) zero = x.fed
fed_in (x ∷ lap) (suc r) = fed_in lap r

-- the steps are at or below an outer time
abbrev pub OuterBelow : {T V O : Type 0} → (T → T → Bool) → T → List (Step (Pair T Round) V O) → Type 0
OuterBelow leq p steps = Every (λ s. IsTrue (leq s.time.outer p)) steps

-- a feed without zero weights has no key whose words are all zero
abbrev pub IsFull : {K V : Type 0} → (K → K → Ordering) → (V → V → Ordering) → List ((K × V) × ℕ) → Type 0
IsFull {K} {V} kcmp vcmp fed = (k : K) → ((x : V) → word vcmp (key_part kcmp k fed) x ≡ 0) → key_part kcmp k fed ≡ []

-- one lap at t over what was there at the seal p: at p and at t each node has been fed, in each round, the items that it
-- gets in that round of the view before and of the new one; other keys were fed nothing
pub record LapOver {T K V O : Type 0} (leq : T → T → Bool) (kcmp : K → K → Ordering) (vcmp : V → V → Ordering) (of : Item → V) (p t : T) (before : List (Step (Pair T Round) (K × V) (K × O))) (lap : List (Turn (K × V) (K × O))) (nodes : List K) (new old : K → ℕ → List Item) : Type 0 where
  pub below : OuterBelow leq p before
  pub up : IsTrue (leq p t)
  pub was : (v : K) (k : ℕ) → Member v nodes → k < length lap → Alike (key_part kcmp v (fed_to (pair_leq leq) before (pair_of p k))) (once of (old v k))
  pub is : (v : K) (k : ℕ) → Member v nodes → k < length lap → Alike (key_part kcmp v (fed_to (pair_leq leq) (before ++ lap_steps t 0 lap) (pair_of t k))) (once of (new v k))
  pub others_was : (v : K) (k : ℕ) → (Member v nodes → ⊥) → k < length lap → Alike (key_part kcmp v (fed_to (pair_leq leq) before (pair_of p k))) []
  pub others : (v : K) (k : ℕ) → (Member v nodes → ⊥) → k < length lap → Alike (key_part kcmp v (fed_to (pair_leq leq) (before ++ lap_steps t 0 lap) (pair_of t k))) []
  -- no round was fed a key whose words are all zero
  pub full : Every (λ x. IsFull kcmp vcmp x.fed) lap
