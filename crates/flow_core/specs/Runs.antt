-- Runs of operators, what they accumulate to, and what holds of a run that an operator stands for.
use Rattle.std.specs.Prelude.{◌≡◌, ℕ, ◌⊎◌, Bool, false, IsTrue, List, [], ◌∷◌, ◌++◌, length, if◌then◌else◌, fold, Option, MatchOption}
use Rattle.std.specs.declared.cmp.Ordering.{Ordering}
use Rattle.std.specs.Ordering.{is_gt}
use Rattle.weighted.specs.Alike.{Alike}

-- one Ok step: its time, what was fed, what was made, and by how much the charge rose
pub record Step (T I O : Type 0) : Type 0 where
  pub time : T
  pub fed : List (I × ℕ)
  pub made : List (O × ℕ)
  pub charge : ℕ

-- the Ok steps, how many of them came before the last Ok seal, and the charge at that seal; both are 0 where there was
-- none
pub record Run (T I O : Type 0) : Type 0 where
  pub steps : List (Step T I O)
  pub before : ℕ
  pub base : ℕ

-- no step yet
abbrev pub empty_run : {T I O : Type 0} → Run T I O
empty_run = record { steps = []; before = 0; base = 0 }

-- one more step
abbrev pub continued : {T I O : Type 0} → Run T I O → T → List (I × ℕ) → List (O × ℕ) → ℕ → Run T I O
continued run t fed made charge = record { steps = run.steps ++ record { time = t; fed = fed; made = made; charge = charge } ∷ []; before = run.before; base = run.base }

-- all steps so far come before the seal, at this charge
abbrev pub sealed : {T I O : Type 0} → Run T I O → ℕ → Run T I O
sealed run charge = record { steps = run.steps; before = length run.steps; base = charge }

-- the times of the steps
abbrev pub times_of : {T I O : Type 0} → List (Step T I O) → List T
times_of [] = []
times_of (s ∷ ss) = s.time ∷ times_of ss

-- what each step was charged
abbrev pub charges_of : {T I O : Type 0} → List (Step T I O) → List ℕ
charges_of [] = []
charges_of (s ∷ ss) = s.charge ∷ charges_of ss

-- ---- accumulation: the sum of the collections at times at or below t

abbrev pub accumulated : {T R : Type 0} → (T → T → Bool) → List (T × List (R × ℕ)) → T → List (R × ℕ)
accumulated leq [] t = []
accumulated leq (e ∷ es) t = (if leq e.0 t then e.1 else []) ++ accumulated leq es t

-- what was fed, with its times
abbrev pub fed_of : {T I O : Type 0} → List (Step T I O) → List (T × List (I × ℕ))
fed_of [] = []
fed_of (s ∷ ss) = (s.time, s.fed) ∷ fed_of ss

-- what was made, with its times
abbrev pub made_of : {T I O : Type 0} → List (Step T I O) → List (T × List (O × ℕ))
made_of [] = []
made_of (s ∷ ss) = (s.time, s.made) ∷ made_of ss

-- what was fed at or below t, summed
abbrev pub fed_to : {T I O : Type 0} → (T → T → Bool) → List (Step T I O) → T → List (I × ℕ)
fed_to leq steps t = accumulated leq (fed_of steps) t

-- what was made at or below t, summed
abbrev pub made_to : {T I O : Type 0} → (T → T → Bool) → List (Step T I O) → T → List (O × ℕ)
made_to leq steps t = accumulated leq (made_of steps) t

-- ---- lists of times

-- P of each
abbrev pub Every : {A : Type 0} → (A → Type 0) → List A → Type 0
Every P [] = Unit {0}
Every P (x ∷ xs) = P x × Every P xs

-- x is among them
abbrev pub Member : {A : Type 0} → A → List A → Type 0
Member x [] = ⊥
Member x (y ∷ ys) = (x ≡ y) ⊎ Member x ys

-- no time of the list is at or above t
abbrev pub NoneAbove : {T : Type 0} → (T → T → Bool) → T → List T → Type 0
NoneAbove leq t times = Every (λ s. leq t s ≡ false) times

-- no time of the list is at or below t
abbrev pub NoneBelow : {T : Type 0} → (T → T → Bool) → T → List T → Type 0
NoneBelow leq t times = Every (λ d. leq d t ≡ false) times

-- d is the least upper bound of some of the times, one at least
pub record IsLubOf {T : Type 0} (lub : T → T → T) (times : List T) (d : T) : Type 0 where
  pub first : T
  pub others : List T
  pub first_is_time : Member first times
  pub others_are_times : Every (λ s. Member s times) others
  pub is_lub : d ≡ fold lub first others

-- ---- what an operator owes

-- what holds of each run that it stands for
pub record Answers {T I O : Type 0} (leq : T → T → Bool) (lub : T → T → T) (apply : List (I × ℕ) → List (O × ℕ)) (seal : T) (due : List T) (run : Run T I O) : Type 0 where
  -- at each time at or above the seal with no due time at or below it, what was made is the function of what was fed
  pub closed : (t : T) → IsTrue (leq seal t) → NoneBelow leq t due → Alike (made_to leq run.steps t) (apply (fed_to leq run.steps t))
  -- each due time is the least upper bound of times of the run, and at or above the seal
  pub lubs : Every (λ d. IsLubOf lub (times_of run.steps) d × IsTrue (leq seal d)) due
  -- no due time is at or below a time of the run
  pub ahead : Every (λ t. NoneBelow leq t due) (times_of run.steps)

-- the least due time in a total order, and None exactly where nothing is due
abbrev pub IsNextDue : {T : Type 0} → (T → T → Ordering) → Option T → List T → Type 0
IsNextDue cmp next due = MatchOption next (due ≡ []) (λ d. Member d due × Every (λ s. is_gt (cmp d s) ≡ false) due)

-- it may be stepped and was not yet
pub record IsFresh {S T I O : Type 0} (stands : S → Run T I O → Type 0) (due : S → List T) (seal : S → T) (spent : S → Bool) (least : T) (operator : S) : Type 0 where
  pub is_new : stands operator empty_run
  pub nothing_due : due operator ≡ []
  pub at_least : seal operator ≡ least
  pub live : spent operator ≡ false
