-- What it is to read a phrase from the front of some tokens, where some tokens open levels.
--
-- A grammar with levels is a relation for each number of levels: `L n` has the phrases in which at most n levels
-- are open at once. `joins` names the tokens with which a phrase would go on, as FOLLOW sets do in predictive
-- parsing (Aho, Sethi and Ullman 1986). `opens` names the tokens that may open a level.
use Rattle.std.specs.Prelude.{◌≡◌, ℕ, suc, Bool, true, false, List, [], ◌∷◌, ◌++◌, Option, Some, None, Result, Ok, Err}
use Rattle.phrase_theory.specs.declared.fault.Fault.{Fault}
use Rattle.phrase_theory.specs.declared.fault.Fault.TheVariants as faults

-- the token that comes next, if there is one
abbrev pub next : {T : Type 0} → List T → Option T
next [] = None
next (t ∷ ts) = Some t

-- what is behind it
abbrev pub after : {T : Type 0} → List T → List T
after [] = []
after (t ∷ ts) = ts

-- no token goes on: the phrase ends by itself
abbrev pub alone : {T : Type 0} → Option T → Bool
alone t = false

-- the tokens begin a phrase
pub record Begins {T A : Type 0} (L : List T → A → Type 0) (ts : List T) : Type 0 where
  pub more : List T
  pub tree : A
  pub whole : L (ts ++ more) tree

-- there is some phrase
pub record HasPhrase {T A : Type 0} (L : List T → A → Type 0) : Type 0 where
  pub tokens : List T
  pub tree : A
  pub phrase : L tokens tree

-- what ends at a token that may open a level begins a phrase
pub record Stays {T A : Type 0} (opens : T → Bool) (L : List T → A → Type 0) (taken : List T) : Type 0 where
  pub by : (front back : List T) (t : T) → taken ≡ front ++ t ∷ back → opens t ≡ true → Begins L (front ++ t ∷ [])

-- P holds of each phrase that agrees with the tokens taken and with the token after them. A phrase that
-- such a token follows as joins names goes on, and is none here.
pub record Forces {T A : Type 0} (L : List T → A → Type 0) (joins : Option T → Bool) (taken : List T) (t : Option T) (P : List T → A → Type 0) : Type 0 where
  pub by : (ts behind rest : List T) (a : A) → L ts a → joins (next behind) ≡ false → ts ++ behind ≡ taken ++ rest → next rest ≡ t → P ts a

-- A phrase was read, which is the only one with these tokens before the next, at any number of levels.
pub record Finds {T A : Type 0} (L : ℕ → List T → A → Type 0) (joins : Option T → Bool) (levels : ℕ) (ts : List T) (a : A) (rest : List T) : Type 0 where
  pub taken : List T
  pub split : ts ≡ taken ++ rest
  pub phrase : L levels taken a
  pub only : (n : ℕ) → Forces (L n) joins taken (next rest) (λ us b. (us ≡ taken) × (b ≡ a))

-- What was taken begins a phrase, and with the next token none, at any number of levels.
pub record IsStuck {T A : Type 0} (opens : T → Bool) (L : ℕ → List T → A → Type 0) (joins : Option T → Bool) (levels : ℕ) (ts rest : List T) : Type 0 where
  pub taken : List T
  pub split : ts ≡ taken ++ rest
  pub some : HasPhrase (L levels)
  pub stays : Stays opens (L levels) taken
  pub possible : Begins (L (suc levels)) taken
  pub refused : (n : ℕ) → Forces (L n) joins taken (next rest) (λ us b. ⊥)

-- the next token is this one, and may open a level
abbrev pub Opened : {T : Type 0} → (T → Bool) → List T → Type 0
Opened opens [] = ⊥
Opened opens (t ∷ ts) = opens t ≡ true

-- the first token alone
abbrev pub front_of : {T : Type 0} → List T → List T
front_of [] = []
front_of (t ∷ ts) = t ∷ []

-- What was taken begins a phrase, and with the next token one that has a level more.
pub record IsSunk {T A : Type 0} (opens : T → Bool) (L : ℕ → List T → A → Type 0) (joins : Option T → Bool) (levels : ℕ) (ts rest : List T) : Type 0 where
  pub taken : List T
  pub split : ts ≡ taken ++ rest
  pub some : HasPhrase (L levels)
  pub stays : Stays opens (L levels) taken
  pub possible : Begins (L (suc levels)) taken
  pub refused : Forces (L levels) joins taken (next rest) (λ us b. ⊥)
  pub opened : Opened opens rest
  pub deeper : Begins (L (suc levels)) (taken ++ front_of rest)

abbrev pub FailsBy : {T A : Type 0} → (T → Bool) → (ℕ → List T → A → Type 0) → (Option T → Bool) → ℕ → List T → Fault → List T → Type 0
FailsBy opens L joins levels ts faults.NoMemory rest = Unit {0}
FailsBy opens L joins levels ts faults.Syntax rest = IsStuck opens L joins levels ts rest
FailsBy opens L joins levels ts faults.TooDeep rest = IsSunk opens L joins levels ts rest

pub record Fails {T A : Type 0} (opens : T → Bool) (L : ℕ → List T → A → Type 0) (joins : Option T → Bool) (levels : ℕ) (ts : List T) (e : Fault) (rest : List T) : Type 0 where
  pub why : FailsBy opens L joins levels ts e rest

-- What reading a phrase gave, from these tokens up to the rest.
abbrev pub Reads : {T A : Type 0} → (T → Bool) → (ℕ → List T → A → Type 0) → (Option T → Bool) → ℕ → List T → Result A Fault → List T → Type 0
Reads opens L joins levels ts (Ok a) rest = Finds L joins levels ts a rest
Reads opens L joins levels ts (Err e) rest = Fails opens L joins levels ts e rest
