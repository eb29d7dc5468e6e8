-- What a step and a seal of a reduce do to what it holds.
use Rattle.std.specs.Prelude.{◌≡◌, ◌≢◌, ℕ, ◌+◌, ◌⊎◌, Bool, List, [], ◌++◌, length}
use Rattle.std.specs.declared.cmp.Ordering.{Ordering}
use Rattle.weighted.specs.Alike.{Alike, negated}
use Rattle.weighted.specs.Normal.{normal}
use Rattle.weighted.specs.WordLaws.{mapped}
use Rattle.trace_store.specs.Traces.{accumulated, at_time, later, values_of}
use Rattle.flow_core.specs.Runs.{Member}
use Rattle.reduce_theory.specs.Evaluated.{key_part}
use Rattle.reduce_theory.specs.ByKey.{over}
use Rattle.reduce_theory.specs.Counts.{Apart}
use Rattle.diff_reduce.specs.Later.{IsCovered}
use Rattle.diff_reduce.specs.Stands.{Held, IsKept}

-- what an evaluation makes of a key at t: what the logic gives for the key's values, less what was made of it before
abbrev pub correction : {K V O T : Type 0} → (T → T → Bool) → (K → K → Ordering) → (V → V → Ordering) → (O → O → Ordering) → (K → List (V × ℕ) → List (O × ℕ)) → T → List (((K × V) × T) × ℕ) → List (((K × O) × T) × ℕ) → K → List (O × ℕ)
correction leq kcmp vcmp ocmp gives t input output k = gives k (normal vcmp (values_of kcmp k (accumulated leq t input))) ++ negated (normal ocmp (values_of kcmp k (accumulated leq t output)))

-- a step at t that evaluates the keys ks, and makes a correction of each
pub record Stepped {K V O T : Type 0} (leq : T → T → Bool) (lub : T → T → T) (tcmp : T → T → Ordering) (kcmp : K → K → Ordering) (vcmp : V → V → Ordering) (ocmp : O → O → Ordering) (gives : K → List (V × ℕ) → List (O × ℕ)) (old new : Held K V O T) (t : T) (delta : List ((K × V) × ℕ)) (made : List ((K × O) × ℕ)) (ks : List K) : Type 0 where
  pub seal : new.seal ≡ old.seal
  pub input : Alike new.input (old.input ++ mapped (at_time t) delta)
  pub output : Alike new.output (old.output ++ mapped (at_time t) made)
  pub corrected : Alike made (over (correction leq kcmp vcmp ocmp gives t new.input old.output) ks)
  pub charge : new.charge ≡ old.charge + length ks
  -- the keys of the batch and those that are due at t, each once
  pub apart : Apart ks
  pub fed : (k : K) → key_part kcmp k delta ≢ [] → Member k ks
  pub called : (k : K) → Member (t, k) old.due → Member k ks
  pub why : (k : K) → Member k ks → (key_part kcmp k delta ≢ []) ⊎ Member (t, k) old.due
  -- each is evaluated at t
  pub points_kept : (k : K) (a : T) → Member (k, a) old.points → Member (k, a) new.points
  pub points_new : (k : K) → Member k ks → Member (k, t) new.points
  pub points_only : (k : K) (a : T) → Member (k, a) new.points → Member (k, a) old.points ⊎ (Member k ks × (a ≡ t))
  -- due are then its least upper bounds with the marks of the key, but those that an earlier evaluation named
  pub due_kept : (d : T) (k : K) → Member (d, k) old.due → (d ≡ t) ⊎ Member (d, k) new.due
  pub due_new : (k : K) (x : T) → Member k ks → IsKept tcmp kcmp vcmp new.input old.points k x → (lub t x ≡ t) ⊎ (Member (lub t x, k) new.due ⊎ IsCovered leq lub old.points t k x)
  pub due_only : (d : T) (k : K) → Member (d, k) new.due → (d ≢ t) × (Member (d, k) old.due ⊎ (Member k ks × ((x : T) × IsKept tcmp kcmp vcmp new.input old.points k x × (d ≡ lub t x))))

-- a seal at f, where nothing is due
pub record Sealed {K V O T : Type 0} (lub : T → T → T) (old new : Held K V O T) (f : T) : Type 0 where
  pub seal : new.seal ≡ f
  pub input : Alike new.input (mapped (later lub f) old.input)
  pub output : Alike new.output (mapped (later lub f) old.output)
  pub points : new.points ≡ []
  pub due : new.due ≡ []
  pub charge : new.charge ≡ old.charge
