-- What is kept of one key.
use Rattle.std.specs.Prelude.{◌≡◌, ℕ, ◌⊎◌, Bool, IsTrue, List, [], ◌++◌}
use Rattle.std.specs.declared.cmp.Ordering.{Ordering}
use Rattle.weighted.specs.Alike.{Alike}
use Rattle.flow_core.specs.Runs.{Step, Every, Member, fed_to, made_to, times_of}
use Rattle.reduce_theory.specs.Evaluated.{marks, new_marks}

-- a is the least upper bound of the seal and of all marks at or below a, a new one among them
pub record IsLubOfMarks {T : Type 0} (leq : T → T → Bool) (seal : T) (all fresh : List T) (a : T) : Type 0 where
  pub least : (z : T) → IsTrue (leq seal z) → ((x : T) → Member x all → IsTrue (leq x a) → IsTrue (leq x z)) → IsTrue (leq a z)
  pub first : T
  pub is_new : Member first fresh
  pub is_below : IsTrue (leq first a)

-- a time is one where the key is evaluated
abbrev pub IsPoint : {T V O : Type 0} → (T → T → Bool) → (T → T → T) → (T → T → Ordering) → (V → V → Ordering) → T → List (Step T V O) → List (Step T V O) → T → Type 0
IsPoint leq lub tcmp vcmp seal old new a = IsLubOfMarks leq seal (marks lub tcmp vcmp seal old new) (new_marks new) a

-- what holds of one key over its steps before the seal and after it: Mark holds of the marks that are kept, Point of the times
-- after the seal at which it was evaluated, and Due of the times at which it must be evaluated yet
pub record KeyRun {T V O : Type 0} (leq : T → T → Bool) (lub : T → T → T) (tcmp : T → T → Ordering) (vcmp : V → V → Ordering) (logic : List (V × ℕ) → List (O × ℕ)) (seal : T) (Mark Point Due : T → Type 0) (old new : List (Step T V O)) : Type 0 where
  -- nothing was due at the seal
  pub held : (x : T) → IsTrue (leq seal x) → Alike (made_to leq old x) (logic (fed_to leq old x))
  -- every mark and every point is kept as a mark, and no other time
  pub marked : (u : T) → Member u (marks lub tcmp vcmp seal old new) → Mark u
  pub pointed : (a : T) → Point a → Mark a
  pub kept : (x : T) → Mark x → Member x (marks lub tcmp vcmp seal old new) ⊎ Point x
  -- a step that has the key evaluated it, and one that did not evaluate it made nothing of it
  pub fed : Every (λ s. (s.fed ≡ []) ⊎ Point s.time) new
  pub made : Every (λ s. Alike s.made [] ⊎ IsPoint leq lub tcmp vcmp seal old new s.time) new
  -- where it was evaluated, what it made is right
  pub stepped : (a : T) → Point a → Member a (times_of new)
  pub right : (a : T) → Point a → Alike (made_to leq (old ++ new) a) (logic (fed_to leq (old ++ new) a))
  pub points : (a : T) → Point a → IsPoint leq lub tcmp vcmp seal old new a
  -- the least upper bound of a point and a mark is due, or a point
  pub closed : (a x : T) → Point a → Mark x → Due (lub a x) ⊎ Point (lub a x)
  pub due : (d : T) → Due d → IsPoint leq lub tcmp vcmp seal old new d
