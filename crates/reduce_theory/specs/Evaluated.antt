-- Which keys a step evaluates, and how many.
use Rattle.std.specs.Prelude.{◌≡◌, ℕ, ◌+◌, ◌==◌, ◌&&◌, ◌||◌, not, Bool, false, List, [], ◌∷◌, ◌++◌, length, if◌then◌else◌, map, filter}
use Rattle.std.specs.List.{list_any}
use Rattle.std.specs.declared.cmp.Ordering.{Ordering}
use Rattle.std.specs.Ordering.{is_eq}
use Rattle.weighted.specs.Words.{sum_at, word}
use Rattle.flow_core.specs.Runs.{Step}

-- ---- the steps of one key

-- what a list has of one key
abbrev pub key_part : {K V : Type 0} → (K → K → Ordering) → K → List ((K × V) × ℕ) → List (V × ℕ)
key_part kcmp k [] = []
key_part kcmp k (e ∷ es) = if is_eq (kcmp e.0.0 k) then (e.0.1, e.1) ∷ key_part kcmp k es else key_part kcmp k es

abbrev pub key_steps : {T K V O : Type 0} → (K → K → Ordering) → K → List (Step T (K × V) (K × O)) → List (Step T V O)
key_steps kcmp k [] = []
key_steps kcmp k (s ∷ ss) = record { time = s.time; fed = key_part kcmp k s.fed; made = key_part kcmp k s.made; charge = s.charge } ∷ key_steps kcmp k ss

-- ---- the marks of one key

-- what a value was fed, by the time as which each step is read after the seal
abbrev pub read_at : {T V O : Type 0} → (T → T → T) → (V → V → Ordering) → T → V → List (Step T V O) → List (T × ℕ)
read_at lub vcmp seal v [] = []
read_at lub vcmp seal v (s ∷ ss) = (lub s.time seal, sum_at vcmp s.fed v) ∷ read_at lub vcmp seal v ss

-- the values of a key
abbrev pub values_fed : {T V O : Type 0} → List (Step T V O) → List V
values_fed [] = []
values_fed (s ∷ ss) = map (λ e. e.0) s.fed ++ values_fed ss

-- the old marks: the times, as read after the seal, at which some value's weights do not cancel
abbrev pub old_marks : {T V O : Type 0} → (T → T → T) → (T → T → Ordering) → (V → V → Ordering) → T → List (Step T V O) → List T
old_marks lub tcmp vcmp seal old = filter (λ u. list_any (λ v. not (word tcmp (read_at lub vcmp seal v old) u == 0)) (values_fed old)) (map (λ s. lub s.time seal) old)

-- the new marks: the times of the later steps whose feed has the key
abbrev pub new_marks : {T V O : Type 0} → List (Step T V O) → List T
new_marks [] = []
new_marks (s ∷ ss) = if length s.fed == 0 then new_marks ss else s.time ∷ new_marks ss

-- both
abbrev pub marks : {T V O : Type 0} → (T → T → T) → (T → T → Ordering) → (V → V → Ordering) → T → List (Step T V O) → List (Step T V O) → List T
marks lub tcmp vcmp seal old new = old_marks lub tcmp vcmp seal old ++ new_marks new

-- ---- the keys that are evaluated at a time

-- whether one of the times is at or below t
abbrev pub some_below : {T : Type 0} → (T → T → Bool) → T → List T → Bool
some_below leq t [] = false
some_below leq t (u ∷ us) = leq u t || some_below leq t us

-- the least upper bound of a time and of those of the times that are at or below t
abbrev pub lub_below : {T : Type 0} → (T → T → Bool) → (T → T → T) → T → T → List T → T
lub_below leq lub t from [] = from
lub_below leq lub t from (u ∷ us) = lub_below leq lub t (if leq u t then lub from u else from) us

-- whether the key is evaluated at t: some new mark is at or below t, and the least upper bound of all marks at or below t is
-- t. The seal, from which the bound is taken, is at or below every mark, so it adds nothing.
abbrev pub is_evaluated : {T V O : Type 0} → (T → T → Bool) → (T → T → T) → (T → T → Ordering) → (V → V → Ordering) → T → T → List (Step T V O) → List (Step T V O) → Bool
is_evaluated leq lub tcmp vcmp seal t old new = some_below leq t (new_marks new) && is_eq (tcmp (lub_below leq lub t seal (marks lub tcmp vcmp seal old new)) t)

-- ---- how many keys are evaluated

abbrev pub has_key : {K : Type 0} → (K → K → Ordering) → K → List K → Bool
has_key kcmp k [] = false
has_key kcmp k (j ∷ ks) = is_eq (kcmp j k) || has_key kcmp k ks

abbrev pub with_key : {K : Type 0} → (K → K → Ordering) → K → List K → List K
with_key kcmp k ks = if has_key kcmp k ks then ks else k ∷ ks

-- the keys of a list and of steps, each once
abbrev pub keys_in : {K V : Type 0} → (K → K → Ordering) → List ((K × V) × ℕ) → List K → List K
keys_in kcmp [] ks = ks
keys_in kcmp (e ∷ es) ks = with_key kcmp e.0.0 (keys_in kcmp es ks)

abbrev pub keys_of : {T K V O : Type 0} → (K → K → Ordering) → List (Step T (K × V) (K × O)) → List K
keys_of kcmp [] = []
keys_of kcmp (s ∷ ss) = keys_in kcmp s.fed (keys_of kcmp ss)

-- how many keys are evaluated at t
abbrev pub evaluations : {T K V O : Type 0} → (T → T → Bool) → (T → T → T) → (T → T → Ordering) → (K → K → Ordering) → (V → V → Ordering) → T → T → List (Step T (K × V) (K × O)) → List (Step T (K × V) (K × O)) → ℕ
evaluations leq lub tcmp kcmp vcmp seal t old new = length (filter (λ k. is_evaluated leq lub tcmp vcmp seal t (key_steps kcmp k old) (key_steps kcmp k new)) (keys_of kcmp (old ++ new)))

-- each of the later steps was charged the keys that are evaluated at it, judged over the run up to it
abbrev pub EachCharged : {T K V O : Type 0} → (T → T → Bool) → (T → T → T) → (T → T → Ordering) → (K → K → Ordering) → (V → V → Ordering) → T → List (Step T (K × V) (K × O)) → List (Step T (K × V) (K × O)) → List (Step T (K × V) (K × O)) → Type 0
EachCharged leq lub tcmp kcmp vcmp seal old done [] = Unit {0}
EachCharged leq lub tcmp kcmp vcmp seal old done (s ∷ ss) = (s.charge ≡ evaluations leq lub tcmp kcmp vcmp seal s.time old (done ++ s ∷ [])) × EachCharged leq lub tcmp kcmp vcmp seal old (done ++ s ∷ []) ss

-- the evaluations of the later steps, each judged over the run up to that step
abbrev pub charged : {T K V O : Type 0} → (T → T → Bool) → (T → T → T) → (T → T → Ordering) → (K → K → Ordering) → (V → V → Ordering) → T → List (Step T (K × V) (K × O)) → List (Step T (K × V) (K × O)) → List (Step T (K × V) (K × O)) → ℕ
charged leq lub tcmp kcmp vcmp seal old done [] = 0
charged leq lub tcmp kcmp vcmp seal old done (s ∷ ss) = evaluations leq lub tcmp kcmp vcmp seal s.time old (done ++ s ∷ []) + charged leq lub tcmp kcmp vcmp seal old (done ++ s ∷ []) ss
