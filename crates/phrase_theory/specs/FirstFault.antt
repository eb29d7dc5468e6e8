-- The first fault of a list of tokens.
use Rattle.std.specs.Prelude.{◌≡◌, ℕ, ◌+◌, ◌<◌, ◌≤◌, Bool, List, length, take, drop}
use Rattle.phrase_theory.specs.Reading.{Begins, Stays, Opened}

-- the tokens begin a phrase, with any number of levels
abbrev pub IsPossible : {T A : Type 0} → (ℕ → List T → A → Type 0) → List T → Type 0
IsPossible L ts = (n : ℕ) × Begins (L n) ts

-- No token before place k is a fault: the tokens before it begin a phrase, and up to each of them that may open a level
-- they begin one with this number of levels.
pub record IsSoundTo {T A : Type 0} (opens : T → Bool) (L : ℕ → List T → A → Type 0) (levels : ℕ) (ts : List T) (k : ℕ) : Type 0 where
  pub possible : IsPossible L (take k ts)
  pub stays : Stays opens (L levels) (take k ts)

-- The first fault is that no phrase has the token at place k after the tokens before it; or, where k is the end, that the
-- tokens are no whole phrase.
pub record IsFirstSyntax {T A : Type 0} (opens : T → Bool) (L : ℕ → List T → A → Type 0) (levels : ℕ) (ts : List T) (k : ℕ) : Type 0 where
  pub within : k ≤ length ts
  pub sound : IsSoundTo opens L levels ts k
  pub here : k < length ts → IsPossible L (take (k + 1) ts) → ⊥
  pub at_end : k ≡ length ts → (n : ℕ) (a : A) → L n ts a → ⊥

-- The first fault is that the token at place k, which some phrase has there, opens a level too many.
pub record IsFirstTooDeep {T A : Type 0} (opens : T → Bool) (L : ℕ → List T → A → Type 0) (levels : ℕ) (ts : List T) (k : ℕ) : Type 0 where
  pub within : k < length ts
  pub sound : IsSoundTo opens L levels ts k
  pub opened : Opened opens (drop k ts)
  pub possible : IsPossible L (take (k + 1) ts)
  pub here : Begins (L levels) (take (k + 1) ts) → ⊥
