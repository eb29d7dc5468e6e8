-- What a reduce keeps, as relations over keys, times and words; for which runs it is kept, and what a step and a seal
-- do to it.
use Rattle.std.specs.Prelude.{◌≡◌, ◌≢◌, ℕ, ◌+◌, ◌≤◌, ◌⊎◌, Bool, false, IsTrue, List, [], ◌++◌, length, take, drop, if◌then◌else◌}
use Rattle.std.specs.declared.cmp.Ordering.{Ordering}
use Rattle.weighted.specs.Alike.{Alike, negated}
use Rattle.weighted.specs.Normal.{normal}
use Rattle.flow_core.specs.Runs.{Step, Run, Every, Member, fed_to, made_to, times_of}
use Rattle.reduce_theory.specs.Evaluated.{EachCharged, charged, key_part, key_steps}
use Rattle.reduce_theory.specs.Keys.{KeyRun}
use Rattle.reduce_theory.specs.MarkLaws.{IsOldMark}
use Rattle.reduce_theory.specs.Counts.{Apart}

-- what is kept, whatever keeps it: Fed and Made say which lists are the words of a key at a time, of what was fed and of
-- what was made; Time that a time is one of a key's; Point that the key was evaluated there since the seal, and Due that it
-- must be yet; then the seal, and how many evaluations there were
pub record Store (K V O T : Type 0) : Type 1 where
  pub Fed : K → T → List (V × ℕ) → Type 0
  pub Made : K → T → List (O × ℕ) → Type 0
  pub Time : K → T → Type 0
  pub Point : K → T → Type 0
  pub Due : K → T → Type 0
  pub seal : T
  pub charge : ℕ

-- a time is kept as a mark of a key: it is one of its times, or the key was evaluated there
abbrev pub IsMark : {K V O T : Type 0} → Store K V O T → K → T → Type 0
IsMark store k x = store.Time k x ⊎ store.Point k x

-- the function of one key
abbrev pub logic_of : {K V O : Type 0} → (V → V → Ordering) → (K → List (V × ℕ) → List (O × ℕ)) → K → List (V × ℕ) → List (O × ℕ)
logic_of vcmp gives k xs = gives k (normal vcmp xs)

-- the steps before the seal, and those after it
abbrev pub old_steps : {T I O : Type 0} → Run T I O → List (Step T I O)
old_steps run = take run.before run.steps

abbrev pub new_steps : {T I O : Type 0} → Run T I O → List (Step T I O)
new_steps run = drop run.before run.steps

-- the store keeps a run
pub record Keeps {K V O T : Type 0} (leq : T → T → Bool) (lub : T → T → T) (tcmp : T → T → Ordering) (kcmp : K → K → Ordering) (vcmp : V → V → Ordering) (gives : K → List (V × ℕ) → List (O × ℕ)) (store : Store K V O T) (run : Run T (K × V) (K × O)) : Type 0 where
  pub sealed : run.before ≤ length run.steps
  -- each step since the seal was charged the keys that are evaluated at it, and together they are all that was charged
  pub each : EachCharged leq lub tcmp kcmp vcmp store.seal (old_steps run) [] (new_steps run)
  pub paid : store.charge ≡ run.base + charged leq lub tcmp kcmp vcmp store.seal (old_steps run) [] (new_steps run)
  -- each step since the seal is at or above it
  pub above : Every (λ s. IsTrue (leq store.seal s)) (times_of (new_steps run))
  -- the words of a key at a time at or above the seal are those of what was fed, or made, up to that time
  pub fed : (k : K) (t : T) (ws : List (V × ℕ)) → IsTrue (leq store.seal t) → store.Fed k t ws → Alike ws (key_part kcmp k (fed_to leq run.steps t))
  pub made : (k : K) (t : T) (ws : List (O × ℕ)) → IsTrue (leq store.seal t) → store.Made k t ws → Alike ws (key_part kcmp k (made_to leq run.steps t))
  -- no due time is at or below a step
  pub ahead : (k : K) (d : T) → store.Due k d → Every (λ s. leq d s ≡ false) (times_of run.steps)
  pub keys : (k : K) → KeyRun leq lub tcmp vcmp (logic_of vcmp gives k) store.seal (IsMark store k) (store.Point k) (store.Due k) (key_steps kcmp k (old_steps run)) (key_steps kcmp k (new_steps run))

-- an evaluation at a point covers that of a mark x at t: t is at or above the point, and at or below its least upper bound
-- with x. So both have one bound with x, which was named due there.
abbrev pub IsCovered : {T : Type 0} → (T → T → Bool) → (T → T → T) → (T → Type 0) → T → T → Type 0
IsCovered {T} leq lub Point t x = (a : T) × Point a × IsTrue (leq a t) × IsTrue (leq t (lub a x))

-- a step at t that is fed delta and evaluates the keys ks
pub record Advances {K V O T : Type 0} (leq : T → T → Bool) (lub : T → T → T) (kcmp : K → K → Ordering) (vcmp : V → V → Ordering) (gives : K → List (V × ℕ) → List (O × ℕ)) (old new : Store K V O T) (t : T) (delta : List ((K × V) × ℕ)) (made : List ((K × O) × ℕ)) (ks : List K) : Type 0 where
  pub seal : new.seal ≡ old.seal
  pub charge : new.charge ≡ old.charge + length ks
  -- at times at or above t the words have what was fed, or made, in addition
  pub fed : (k : K) (u : T) (ws : List (V × ℕ)) → new.Fed k u ws → ((us : List (V × ℕ)) × old.Fed k u us × Alike ws (us ++ (if leq t u then key_part kcmp k delta else [])))
  pub more : (k : K) (u : T) (ws : List (O × ℕ)) → new.Made k u ws → ((us : List (O × ℕ)) × old.Made k u us × Alike ws (us ++ (if leq t u then key_part kcmp k made else [])))
  -- a key's times change where the batch has the key, and there at t alone
  pub time_stays : (k : K) (u : T) → old.Time k u → new.Time k u ⊎ ((u ≡ t) × (key_part kcmp k delta ≢ []))
  pub time_was : (k : K) (u : T) → new.Time k u → old.Time k u ⊎ ((u ≡ t) × (key_part kcmp k delta ≢ []))
  -- of each of the keys is made what the logic gives for its words, less what was made of it before; of others nothing
  pub corrected : (k : K) → Member k ks → ((ws : List (V × ℕ)) × (us : List (O × ℕ)) × new.Fed k t ws × old.Made k t us × Alike (key_part kcmp k made) (logic_of vcmp gives k ws ++ negated us))
  pub others : (k : K) → (Member k ks → ⊥) → Alike (key_part kcmp k made) []
  -- the keys are those of the batch and those that are due at t, each once
  pub apart : Apart ks
  pub called_fed : (k : K) → key_part kcmp k delta ≢ [] → Member k ks
  pub called_due : (k : K) → old.Due k t → Member k ks
  pub why : (k : K) → Member k ks → (key_part kcmp k delta ≢ []) ⊎ old.Due k t
  -- each is evaluated at t
  pub points_kept : (k : K) (a : T) → old.Point k a → new.Point k a
  pub points_new : (k : K) → Member k ks → new.Point k t
  pub points_only : (k : K) (a : T) → new.Point k a → old.Point k a ⊎ (Member k ks × (a ≡ t))
  -- due are then its least upper bounds with the marks of the key, but those that an earlier evaluation named
  pub due_kept : (k : K) (d : T) → old.Due k d → (d ≡ t) ⊎ new.Due k d
  pub due_new : (k : K) (x : T) → Member k ks → new.Time k x ⊎ old.Point k x → (lub t x ≡ t) ⊎ (new.Due k (lub t x) ⊎ IsCovered leq lub (old.Point k) t x)
  pub due_only : (k : K) (d : T) → new.Due k d → (d ≢ t) × (old.Due k d ⊎ (Member k ks × ((x : T) × (new.Time k x ⊎ old.Point k x) × (d ≡ lub t x))))

-- a seal at f, behind the steps of a run: the words at times at or above it stay, and a key's times are those at which the
-- words of some value of it, each read at the least upper bound of its step and f, do not cancel
pub record Closes {K V O T : Type 0} (leq : T → T → Bool) (lub : T → T → T) (tcmp : T → T → Ordering) (kcmp : K → K → Ordering) (vcmp : V → V → Ordering) (old new : Store K V O T) (steps : List (Step T (K × V) (K × O))) (f : T) : Type 0 where
  pub seal : new.seal ≡ f
  pub charge : new.charge ≡ old.charge
  pub fed : (k : K) (u : T) (ws : List (V × ℕ)) → IsTrue (leq f u) → new.Fed k u ws → ((us : List (V × ℕ)) × old.Fed k u us × Alike ws us)
  pub made : (k : K) (u : T) (ws : List (O × ℕ)) → IsTrue (leq f u) → new.Made k u ws → ((us : List (O × ℕ)) × old.Made k u us × Alike ws us)
  pub time_is : (k : K) (u : T) → IsOldMark lub tcmp vcmp f (key_steps kcmp k steps) u → new.Time k u
  pub time_only : (k : K) (u : T) → new.Time k u → IsOldMark lub tcmp vcmp f (key_steps kcmp k steps) u
  pub no_point : (k : K) (a : T) → new.Point k a → ⊥
  pub no_due : (k : K) (d : T) → new.Due k d → ⊥

-- nothing is kept yet
pub record IsEmpty {K V O T : Type 0} (store : Store K V O T) : Type 0 where
  pub charge : store.charge ≡ 0
  pub fed : (k : K) (t : T) (ws : List (V × ℕ)) → store.Fed k t ws → Alike ws []
  pub made : (k : K) (t : T) (ws : List (O × ℕ)) → store.Made k t ws → Alike ws []
  pub no_time : (k : K) (u : T) → store.Time k u → ⊥
  pub no_point : (k : K) (a : T) → store.Point k a → ⊥
  pub no_due : (k : K) (d : T) → store.Due k d → ⊥
